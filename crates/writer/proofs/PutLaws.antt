-- Bytes put over those of a text from a place on: that this is what a writer does, bytes after bytes, bytes apart from
-- bytes, and what stands in the text afterwards.
use Prim.Native.Nat.{ℕ, ◌+◌, ◌-◌, ◌≤◌, ◌<◌}
use mathlib.Core.Path.{◌≡◌, refl, sym, ap, subst, ◌∙◌}
use mathlib.Core.List.{List, [], ◌++◌, append_assoc, append-nil}
use native.Mathlib.Omega.{arith}
use lib.ListN.{length, get_or, take, drop, length-append, take-append-drop, get_or-append}
use lib.Seq.{length-take-le, take_at, drop_at, take-take, take-add, drop-drop, take-append-le, drop-append-le, take-append-add, drop-append-add, get_or-take, get_or-append-add}
use Rattle.text.specs.Writing.{Wrote}
use Rattle.text.proofs.WroteLaws.{wrote_length}

-- the text with the bytes from a place on
abbrev pub put_bytes : ℕ → List ℕ → List ℕ → List ℕ
put_bytes at bytes t = take at t ++ bytes ++ drop (at + length bytes) t

-- what a writer leaves is the text with its bytes
pub wrote_put : {t : List ℕ} {at : ℕ} {bytes t' : List ℕ} {next : ℕ} → Wrote t at bytes t' next → t' ≡ put_bytes at bytes t
wrote_put w = w.text

-- bytes that have room are put as a writer puts them
pub put_wrote : (t : List ℕ) (at : ℕ) (bytes : List ℕ) → at + length bytes ≤ length t
    → Wrote t at bytes (put_bytes at bytes t) (at + length bytes)
put_wrote t at bytes fits = record { room = fits; text = refl; place = refl }

-- the text keeps its length
pub put_length : (t : List ℕ) (at : ℕ) (bytes : List ℕ) → at + length bytes ≤ length t → length (put_bytes at bytes t) ≡ length t
put_length t at bytes fits = wrote_length (put_wrote t at bytes fits)

-- no bytes leave the text as it is
pub put_none : (t : List ℕ) (at : ℕ) → put_bytes at [] t ≡ t
put_none t at =
    let e : at + 0 ≡ at = omega arith in
    ap (λ (k : ℕ). take at t ++ [] ++ drop k t) e ∙ ap (λ (p : List ℕ). p ++ drop at t) (append-nil (take at t)) ∙ take-append-drop at t

-- the front of the text and the bytes reach to the place after the bytes
put_front_length : (t : List ℕ) (at : ℕ) (bytes : List ℕ) → at ≤ length t → length (take at t ++ bytes) ≡ at + length bytes
put_front_length t at bytes l = length-append (take at t) bytes ∙ ap (λ (k : ℕ). k + length bytes) (length-take-le at t l)

-- the text from a place after the bytes on is as it was
put_behind : (t : List ℕ) (at : ℕ) (bytes : List ℕ) (k : ℕ) → at ≤ length t
    → drop (at + length bytes + k) (put_bytes at bytes t) ≡ drop (at + length bytes + k) t
put_behind t at bytes k l =
    let front : List ℕ = take at t ++ bytes in
    let rest : List ℕ = drop (at + length bytes) t in
    ap (λ (n : ℕ). drop (n + k) (front ++ rest)) (sym (put_front_length t at bytes l))
    ∙ drop-append-add front rest k
    ∙ drop-drop k (at + length bytes) t

-- bytes put after bytes are both put at once
pub put_next : (t : List ℕ) (at : ℕ) (xs ys : List ℕ) → at ≤ length t
    → put_bytes (at + length xs) ys (put_bytes at xs t) ≡ put_bytes at (xs ++ ys) t
put_next t at xs ys l =
    let front : List ℕ = take at t ++ xs in
    let behind : ℕ = at + length xs + length ys in
    let e : behind ≡ at + length (xs ++ ys) = omega (arith, length-append xs ys) in
    ap (λ (p : List ℕ). p ++ ys ++ drop behind (put_bytes at xs t)) (take_at front (drop (at + length xs) t) (at + length xs) (put_front_length t at xs l))
    ∙ ap (λ (r : List ℕ). front ++ ys ++ r) (put_behind t at xs (length ys) l)
    ∙ ap (λ (k : ℕ). front ++ ys ++ drop k t) e
    ∙ ap (λ (p : List ℕ). p ++ drop (at + length (xs ++ ys)) t) (append_assoc (take at t) xs ys)

-- the part from one place to another, cut in either order
put_drop-take : (t : List ℕ) (k d : ℕ) → k ≤ length t → drop k (take (k + d) t) ≡ take d (drop k t)
put_drop-take t k d l =
    ap (λ (x : List ℕ). drop k x) (take-add k d t) ∙ drop_at (take k t) (take d (drop k t)) k (length-take-le k t l)

-- bytes d places after others may be put before them or after them
put_gap : (t : List ℕ) (a d : ℕ) (xs ys : List ℕ) → a + length xs + d ≤ length t
    → put_bytes a xs (put_bytes (a + length xs + d) ys t) ≡ put_bytes (a + length xs + d) ys (put_bytes a xs t)
put_gap t a d xs ys l =
    let m : ℕ = a + length xs in
    let b : ℕ = m + d in
    let front : List ℕ = take a t ++ xs in
    let gap : List ℕ = take d (drop m t) in
    let rest : List ℕ = drop (b + length ys) t in
    let to-b : length (take b t) ≡ b = length-take-le b t l in
    let split : put_bytes b ys t ≡ take b t ++ (ys ++ rest) = append_assoc (take b t) ys rest in
    let before : take a (put_bytes b ys t) ≡ take a t =
    ap (λ (x : List ℕ). take a x) split ∙ take-append-le a (take b t) (ys ++ rest) (omega arith) ∙ take-take a b t (omega arith) in
    let after : drop m (put_bytes b ys t) ≡ gap ++ (ys ++ rest) =
    ap (λ (x : List ℕ). drop m x) split ∙ drop-append-le m (take b t) (ys ++ rest) (omega arith) ∙ ap (λ (x : List ℕ). x ++ (ys ++ rest)) (put_drop-take t m d (omega arith)) in
    let to-gap : take b (put_bytes a xs t) ≡ front ++ gap =
    ap (λ (n : ℕ). take (n + d) (front ++ drop m t)) (sym (put_front_length t a xs (omega arith))) ∙ take-append-add front (drop m t) d in
    let e : b + length ys ≡ m + (d + length ys) = omega arith in
    let behind : drop (b + length ys) (put_bytes a xs t) ≡ rest =
    ap (λ (n : ℕ). drop n (put_bytes a xs t)) e ∙ put_behind t a xs (d + length ys) (omega arith) ∙ ap (λ (n : ℕ). drop n t) (sym e) in
    ap (λ (p : List ℕ). p ++ xs ++ drop m (put_bytes b ys t)) before
    ∙ ap (λ (r : List ℕ). front ++ r) after
    ∙ sym (append_assoc front gap (ys ++ rest))
    ∙ sym (append_assoc (front ++ gap) ys rest)
    ∙ ap (λ (p : List ℕ). p ++ ys ++ rest) (sym to-gap)
    ∙ ap (λ (r : List ℕ). take b (put_bytes a xs t) ++ ys ++ r) (sym behind)

-- bytes put in two parts that do not meet may be put in either order
pub put_apart : (t : List ℕ) (a b : ℕ) (xs ys : List ℕ) → a + length xs ≤ b → b ≤ length t
    → put_bytes a xs (put_bytes b ys t) ≡ put_bytes b ys (put_bytes a xs t)
put_apart t a b xs ys apart l =
    let d : ℕ = b - (a + length xs) in
    let e : a + length xs + d ≡ b = omega arith in
    subst (λ (n : ℕ). put_bytes a xs (put_bytes n ys t) ≡ put_bytes n ys (put_bytes a xs t)) e (put_gap t a d xs ys (omega arith))

-- before the place the bytes are as they were
pub put_at_before : (t : List ℕ) (at : ℕ) (bytes : List ℕ) (i : ℕ) → at ≤ length t → i < at
    → get_or (put_bytes at bytes t) i 0 ≡ get_or t i 0
put_at_before t at bytes i l before =
    let rest : List ℕ = drop (at + length bytes) t in
    ap (λ (x : List ℕ). get_or x i 0) (append_assoc (take at t) bytes rest)
    ∙ get_or-append (take at t) (bytes ++ rest) 0 i (omega (arith, length-take-le at t l))
    ∙ get_or-take at t i 0 before

-- each byte stands at its place
pub put_at : (t : List ℕ) (at : ℕ) (bytes : List ℕ) (i : ℕ) → at ≤ length t → i < length bytes
    → get_or (put_bytes at bytes t) (at + i) 0 ≡ get_or bytes i 0
put_at t at bytes i l within =
    let rest : List ℕ = drop (at + length bytes) t in
    ap (λ (x : List ℕ). get_or x (at + i) 0) (append_assoc (take at t) bytes rest)
    ∙ ap (λ (n : ℕ). get_or (take at t ++ (bytes ++ rest)) (n + i) 0) (sym (length-take-le at t l))
    ∙ get_or-append-add (take at t) (bytes ++ rest) i 0
    ∙ get_or-append bytes rest 0 i within
