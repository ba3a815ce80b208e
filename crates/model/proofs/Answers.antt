-- The answer of a check, by the first reason that holds or by none, and back.
use Prim.Native.Nat.{ℕ, ◌≤◌}
use mathlib.Core.Path.{◌≡◌, refl, sym, ◌∙◌, ap}
use mathlib.Core.Bool.{Bool, true}
use mathlib.Core.List.{List}
use mathlib.Core.Option.{Option, some, none}
use native.Mathlib.Omega.{arith}
use Rattle.lists.specs.Lists.{some_if}
use Rattle.format.specs.Rules.{Reason, first_broken, rules, Accepted}
use Rattle.model.specs.declared.Header.{Header}
use Rattle.model.specs.Values.{Refused, Accept}
use Rattle.model.specs.Values.{header_of, naming, answer_of, check_of, Valid}

-- the first reason of a table that holds refuses the file
pub held_refuses :
    (rs : List Reason) (h : Header) (b : Bool) (n : ℕ) (rest : Option ℕ) → first_broken rs ≡ some_if b n rest
    → b ≡ true → Refused n ≡ answer_of (first_broken rs) h
held_refuses rs h b n rest e q =
    sym (ap (λ (o : Option ℕ). answer_of o h) (e ∙ ap (λ (x : Bool). some_if x n rest) q))

-- a file for which no reason of a table holds is accepted
pub none_accepts :
    (rs : List Reason) (h own : Header) → h ≡ own → first_broken rs ≡ none → Accept h ≡ answer_of (first_broken rs) own
none_accepts rs h own e q = ap Accept e ∙ sym (ap (λ (o : Option ℕ). answer_of o own) q)

-- a refusal is with the number of the first reason that holds
pub answer_refused : (o : Option ℕ) (h : Header) (n : ℕ) → Refused n ≡ answer_of o h → o ≡ some n
answer_refused none h n q = let z : ◌≡◌ {A = ℕ} 0 1 = cc in absurd (omega arith)
answer_refused (some m) h n q = let same : m ≡ n = cc in ap some same

-- a file is accepted if no reason holds, with its own header
pub answer_accepted : (o : Option ℕ) (own h : Header) → Accept h ≡ answer_of o own → (o ≡ none) × (h ≡ own)
answer_accepted none own h q = (refl, cc)
answer_accepted (some m) own h q = let z : ◌≡◌ {A = ℕ} 0 1 = cc in absurd (omega arith)

-- the check refuses a file with the first reason that holds
pub check_refused : (f : List ℕ) (n : ℕ) → Refused n ≡ check_of f → first_broken (rules f) ≡ some n
check_refused f n e = answer_refused (first_broken (rules f)) (header_of f 0) n e

-- an accepted file with its own header, which names mark table 0 or 1
pub own_valid : {f : List ℕ} {h : Header} {t : ℕ} → Accepted f → t ≤ 1 → h ≡ header_of f t → Valid f h
own_valid {f} {h} {t} a l e =
    let same : h.table ≡ t = ap (λ (x : Header). x.table) e in
    record { accepted = a; header = e ∙ ap (header_of f) (sym same); table_limit = omega arith }

-- the check accepts a file that breaks none of 1 to 11, and answers its header
pub check_valid : (f : List ℕ) (h : Header) → Accept h ≡ check_of f → Valid f h
check_valid f h e =
    let accepted = answer_accepted (first_broken (rules f)) (header_of f 0) h e in
    own_valid accepted.0 (omega arith) accepted.1

-- a valid header that comes to name another mark table is the file's own with that table
pub naming_own : {f : List ℕ} {h : Header} → Valid f h → (t : ℕ) → naming h t ≡ header_of f t
naming_own v t = ap (λ (x : Header). naming x t) v.header
