-- A script that names one mark table and lends no list of its own, save in commands that 22 refuses, asks for a sequence as
-- the book takes it, whatever the file answers: before a list was received the copy is empty, and the empty list is no
-- shortest accepting path.
use Prim.Native.Nat.{ℕ, zero, suc, ◌/◌}
use mathlib.Core.Path.{◌≡◌, refl, sym, ◌∙◌, subst}
use mathlib.Core.Logic.{⊎_elim, inl, inr}
use mathlib.Core.Bool.{Bool, true, false, not, ◌&&◌}
use mathlib.Core.List.{List, []}
use mathlib.Core.Option.{Option, some, none}
use native.Mathlib.Omega.{arith}
use borrow.Author.Tests.{eqb-false}
use lib.ListN.{length, drop}
use lib.Dec.{T, eqb, eqb→eq}
use Rattle.lists.specs.Lists.{pick}
use Rattle.lasso.specs.Graph.{Graph}
use Rattle.lists.proofs.Tests.{fst, snd, either, T_false, eq_or_apart}
use Rattle.model.specs.Model.{graph_of}
use Rattle.gate.specs.Gate.{asking, no_table}
use Rattle.next.specs.Next.{not_shortest}
use Rattle.next.proofs.NextLaws.{not_shortest_apart}
use Rattle.sequence.specs.Calls.{Call, search, next, table_named, Result, finder_at, received}
use Rattle.sequence.specs.Claim.{last_received, Lent, ProperCall, Proper}
use Rattle.sequence.proofs.Places.{roll_entries}
use Rattle.sequence.proofs.Sequence.{condition_3}
use Rattle.script_commands.specs.Commands.{action, mark_table, third, allowance, command_length, overb}
use Rattle.script.specs.Asked.{lent_list, call_of}
use Rattle.script_commands.proofs.CommandLaws.{action_known}
use Rattle.script.proofs.AskedLaws.{call_search, call_copy}
use Rattle.script_player.specs.Played.{keep_copy, calls_of, played, copyb, copiesb}
use Rattle.script_player.specs.Log.{CopiesPlayed}
use Rattle.script_player.proofs.PlayedLaws.{calls_over, calls_more}

-- the empty list is no shortest accepting path
empty_not_shortest : (g : Graph) → T (not_shortest g [])
empty_not_shortest g = rw (not_shortest_apart g [] (λ m. omega (arith, roll_entries g [] m))) tt

-- the copy that the player lends is the copy last received, or empty
abbrev lent_copy : Option (List ℕ) → List ℕ
lent_copy o = keep_copy o []

-- a next with that copy is lent what it may be lent
copy_lent : (f : List ℕ) (o : Option (List ℕ)) (t : ℕ) (a w : List ℕ) → Lent f o (next t (lent_copy o) a w)
copy_lent f none t a w = inr (empty_not_shortest (graph_of f t))
copy_lent f (some xs) t a w = inl refl

-- the copy after a call is the list last received then
copy_after : (got o : Option (List ℕ)) → keep_copy got (lent_copy o) ≡ lent_copy (last_received got o)
copy_after none o = refl
copy_after (some xs) o = refl

-- the call that a command asks for names the command's mark table
call_named : (s copy a w : List ℕ) → table_named (call_of s copy a w) ≡ mark_table s
call_named s copy a w = go (eqb (action s) 0)
  where
    go : (b : Bool) → table_named (pick b (search (asking (mark_table s) (third s) (allowance s)) a w) (next (mark_table s) (lent_list s copy) a w)) ≡ mark_table s
    go true = refl
    go false = refl

-- a command that lends no list of its own lends what it may lend
call_lent : (f s : List ℕ) (o : Option (List ℕ)) (a w : List ℕ) → overb s ≡ false → T (not (eqb (action s) 2))
    → Lent f o (call_of s (lent_copy o) a w)
call_lent f s o a w e t =
    let apart : action s ≡ 2 → ⊥ = eqb-false (action s) 2 (T_false (eqb (action s) 2) t) in
    elim (eq_or_apart (action s) 0) [
      | inl z ↦ subst (λ (c : Call). Lent f o c) (call_search s (lent_copy o) a w z) tt
      | inr d ↦
          let some-action : action s ≡ 0 → ⊥ = λ z. ⊎_elim (λ l. omega arith) (λ l. omega arith) d in
          let one : action s ≡ 1 = elim (eq_or_apart (action s) 1) [
            | inl q ↦ q
            | inr q ↦ absurd (⊎_elim (λ l. some-action (omega arith)) (λ l. apart (omega (arith, action_known s e))) q)
          ] in
          subst (λ (c : Call). Lent f o c) (call_copy s (lent_copy o) a w some-action one) (copy_lent f o (mark_table s) a w)
    ]

-- a command that names mark table t and lends no list of its own, or that 22 refuses, asks for a proper call
call_proper : (f : List ℕ) (t : ℕ) (s : List ℕ) (o : Option (List ℕ)) (a w : List ℕ) → overb s ≡ false → T (copyb t s)
    → ProperCall f t o (call_of s (lent_copy o) a w)
call_proper f t s o a w e h =
    let named = call_named s (lent_copy o) a w in
    elim (either (eqb (mark_table s) t && not (eqb (action s) 2)) (no_table (mark_table s)) h) [
      | inl both ↦
          let same : mark_table s ≡ t = eqb→eq (mark_table s) t (fst (eqb (mark_table s) t) (not (eqb (action s) 2)) both) in
          inl (named ∙ same, call_lent f s o a w e (snd (eqb (mark_table s) t) (not (eqb (action s) 2)) both))
      | inr absent ↦ inr (subst (λ (n : ℕ). T (no_table n)) (sym named) absent)
    ]

-- one command, where what is left of the script asks for a proper sequence
command_proper : (f : List ℕ) (t room : ℕ) (s : List ℕ) (o : Option (List ℕ)) (a w : List ℕ)
    → ((s' : List ℕ) (o' : Option (List ℕ)) (a' w' : List ℕ) → T (copiesb t room s') → Proper f t o' (calls_of f room s' (lent_copy o') a' w'))
    → T (copiesb t (suc room) s) → (b : Bool) → overb s ≡ b → Proper f t o (calls_of f (suc room) s (lent_copy o) a w)
command_proper f t room s o a w later h true e =
    subst (λ (cs : List Call). Proper f t o cs) (sym (calls_over f s (lent_copy o) a w (suc room) e)) tt
command_proper f t room s o a w later h false e =
    let r : Result = finder_at f (call_of s (lent_copy o) a w) in
    let rest : List ℕ = drop (command_length s) s in
    let both : T (copyb t s && copiesb t room rest) = subst (λ (b : Bool). T (pick b true (copyb t s && copiesb t room rest))) e h in
    let last : Option (List ℕ) = last_received (received r) o in
    let others : Proper f t last (calls_of f room rest (keep_copy (received r) (lent_copy o)) r.table r.work)
    = subst (λ (copy : List ℕ). Proper f t last (calls_of f room rest copy r.table r.work)) (sym (copy_after (received r) o))
    (later rest last r.table r.work (snd (copyb t s) (copiesb t room rest) both)) in
    subst (λ (cs : List Call). Proper f t o cs) (sym (calls_more f s (lent_copy o) a w room e))
    (call_proper f t s o a w e (fst (copyb t s) (copiesb t room rest) both), others)

-- a script of such commands asks for a proper sequence
copies_proper : (f : List ℕ) (t room : ℕ) (s : List ℕ) (o : Option (List ℕ)) (a w : List ℕ) → T (copiesb t room s)
    → Proper f t o (calls_of f room s (lent_copy o) a w)
copies_proper f t zero s o a w h = tt
copies_proper f t (suc room) s o a w h =
    command_proper f t room s o a w (λ s' o' a' w' h'. copies_proper f t room s' o' a' w' h') h (overb s) refl

-- what is played of such a script is a sequence as the book takes it
pub played_proper : (f : List ℕ) (t : ℕ) (s a w log : List ℕ) → T (copiesb t (length log / 4) s) → Proper f t none (played f s a w log)
played_proper f t s a w log h = copies_proper f t (length log / 4) s none a w h

-- so its results on an accepted file are the book's
pub played_book : CopiesPlayed
played_book f t s a w log accepted h = (condition_3 f accepted t (played f s a w log) (played_proper f t s a w log h)).results
