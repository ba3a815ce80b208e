-- Writers one after the other: what two of them write is what one would write that writes both.
use Prim.Native.Nat.{ℕ, ◌+◌, ◌≤◌}
use mathlib.Core.Path.{◌≡◌, refl, sym, ◌∙◌, ap, ap₂, subst}
use mathlib.Core.List.{List, [], ◌++◌, append_assoc, append-nil}
use native.Mathlib.Omega.{arith}
use lib.ListN.{length, take, drop, length-append, length-take, length-drop, take-append-drop}
use lib.Seq.{length-take-le, take_at, drop_at, drop-drop, drop-length, take-take}
use Rattle.text.specs.declared.Output.{Output}
use Rattle.text.specs.Writing.{Wrote, Adds, HasRoom, Within}

-- the text keeps its length
pub wrote_length : {t : List ℕ} {at : ℕ} {bytes t' : List ℕ} {next : ℕ} → Wrote t at bytes t' next → length t' ≡ length t
wrote_length w = ap length w.text ∙ simp (length-append, length-take, length-drop) (omega (arith, w.room))

-- a writer of no bytes leaves the text as it is
pub wrote_none : (t : List ℕ) (at : ℕ) → at ≤ length t → Wrote t at [] t at
wrote_none t at fits =
    let e : at + 0 ≡ at = omega arith in
    record {
      room = omega arith;
      text = sym (ap (λ (k : ℕ). take at t ++ [] ++ drop k t) e ∙ ap (λ (p : List ℕ). p ++ drop at t) (append-nil (take at t)) ∙ take-append-drop at t);
      place = sym e;
    }

-- two writers, one after the other
pub wrote_then : {t : List ℕ} {at : ℕ} {b b' t' t'' : List ℕ} {next next' : ℕ} → Wrote t at b t' next → Wrote t' next b' t'' next'
    → Wrote t at (b ++ b') t'' next'
wrote_then {t} {at} {b} {b'} {t'} {t''} {next} {next'} w v =
    let front : List ℕ = take at t ++ b in
    let long : length front ≡ next = length-append (take at t) b ∙ ap (λ (n : ℕ). n + length b) (length-take-le at t (omega (arith, w.room))) ∙ sym w.place in
    let kept : length t' ≡ length t = wrote_length w in
    let sum : length (b ++ b') ≡ length b + length b' = length-append b b' in
    let before : take next t' ≡ front = ap (λ (x : List ℕ). take next x) w.text ∙ take_at front (drop (at + length b) t) next long in
    let cut : drop next t' ≡ drop (at + length b) t = ap (λ (x : List ℕ). drop next x) w.text ∙ drop_at front (drop (at + length b) t) next long in
    let q : at + length b + length b' ≡ at + length (b ++ b') = omega arith in
    let after : drop (next + length b') t' ≡ drop (at + length (b ++ b')) t =
    sym (drop-drop (length b') next t') ∙ ap (λ (x : List ℕ). drop (length b') x) cut ∙ drop-drop (length b') (at + length b) t ∙ ap (λ (n : ℕ). drop n t) q in
    record {
      room = omega (arith, w.place, v.room);
      text =
          v.text
          ∙ ap (λ (p : List ℕ). p ++ b' ++ drop (next + length b') t') before
          ∙ ap (λ (r : List ℕ). front ++ b' ++ r) after
          ∙ ap (λ (p : List ℕ). p ++ drop (at + length (b ++ b')) t) (append_assoc (take at t) b b');
      place = omega (arith, w.place, v.place);
    }

-- a writer to the end of one part of a text, and one to the front of the part after it
pub wrote_parts : (t : List ℕ) {at cut : ℕ} {b b' front back : List ℕ} {next : ℕ} → Wrote (take cut t) at b front cut → Wrote (drop cut t) 0 b' back next
    → Wrote t at (b ++ b') (front ++ back) (cut + next)
wrote_parts t {at} {cut} {b} {b'} {front} {back} w v =
    let le : cut ≤ length t = omega (arith, w.room, w.place, length-take cut t) in
    let sum : length (b ++ b') ≡ length b + length b' = length-append b b' in
    let kept : take at (take cut t) ≡ take at t = take-take at cut t (omega (arith, w.place)) in
    let none : drop (at + length b) (take cut t) ≡ [] =
    ap (λ (n : ℕ). drop n (take cut t)) (sym w.place ∙ sym (length-take-le cut t le)) ∙ drop-length (take cut t) in
    let before : front ≡ take at t ++ b =
    w.text ∙ ap (λ (r : List ℕ). take at (take cut t) ++ b ++ r) none ∙ append-nil (take at (take cut t) ++ b) ∙ ap (λ (p : List ℕ). p ++ b) kept in
    let behind : cut + (0 + length b') ≡ at + length (b ++ b') = omega (arith, w.place, sum) in
    let after : back ≡ b' ++ drop (at + length (b ++ b')) t =
    v.text ∙ ap (λ (r : List ℕ). b' ++ r) (drop-drop (0 + length b') cut t ∙ ap (λ (n : ℕ). drop n t) behind) in
    let rest : List ℕ = drop (at + length (b ++ b')) t in
    record {
      room = omega (arith, sum, w.place, le, v.room, length-drop cut t);
      text =
          ap₂ ◌++◌ before after
          ∙ sym (append_assoc (take at t ++ b) b' rest)
          ∙ ap (λ (p : List ℕ). p ++ rest) (append_assoc (take at t) b b');
      place = omega (arith, sum, w.place, v.place);
    }

-- the bytes may be told otherwise
pub wrote_as : {t : List ℕ} {at : ℕ} {b b' t' : List ℕ} {next : ℕ} → b ≡ b' → Wrote t at b t' next → Wrote t at b' t' next
wrote_as {t} {at} {b} {b'} {t'} {next} e w = subst (λ (x : List ℕ). Wrote t at x t' next) e w

-- what was written to the front of a text lies within it
pub wrote_within : {t bytes t' : List ℕ} {next : ℕ} → Wrote t 0 bytes t' next → Within next t'
wrote_within {t' = t'} {next} w =
    let le : next ≤ length t' = omega (arith, w.place, w.room, wrote_length w) in
    (le, sym (length-take-le next t' le))

-- nothing is added at the start
pub adds_none : (o : Output) → HasRoom o 0 → Adds o [] o
adds_none o fits = record { wrote = wrote_none o.bytes.now o.at (omega (arith, fits)); same = refl }

-- what two writers add, one after the other
pub adds_then : {o o' o'' : Output} {b b' : List ℕ} → Adds o b o' → Adds o' b' o'' → Adds o (b ++ b') o''
adds_then w v = record { wrote = wrote_then w.wrote v.wrote; same = v.same ∙ w.same }

-- the bytes that are added may be told otherwise
pub adds_as : {o o' : Output} {b b' : List ℕ} → b ≡ b' → Adds o b o' → Adds o b' o'
adds_as e w = record { wrote = wrote_as e w.wrote; same = w.same }

-- the text keeps its length
pub adds_length : {o o' : Output} {b : List ℕ} → Adds o b o' → length o'.bytes.now ≡ length o.bytes.now
adds_length w = wrote_length w.wrote

-- what is left of the bytes that were lent to the output, once it ends: the last argument is what is known of them then
pub adds_left : {o o' : Output} {b left : List ℕ} → Adds o b o' → (o.bytes.ghost_name ≡ o'.bytes.ghost_name → left ≡ o'.bytes.now)
    → Wrote o.bytes.now o.at b left o'.at
adds_left {o} {o'} {b} w known =
    subst (λ (t : List ℕ). Wrote o.bytes.now o.at b t o'.at) (sym (known (sym w.same))) w.wrote
