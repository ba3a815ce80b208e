-- A call's outcome and the list that it writes, from the first of its reasons that holds.
use Prim.Native.Nat.{ℕ}
use mathlib.Core.Path.{◌≡◌, refl, ◌∙◌, ap, ap₂}
use mathlib.Core.Bool.{false}
use mathlib.Core.List.{List}
use mathlib.Core.Option.{Option, some, none}
use native.Mathlib.Omega.{arith}
use borrow.Author.Tests.{le-ltb}
use Rattle.lasso.specs.Roll.{least_length}
use Rattle.lasso.proofs.RollLaws.{least_length_range}
use Rattle.format.specs.Rules.{Reason, first_broken, Accepted}
use Rattle.model.specs.Model.{graph_of}
use Rattle.model.proofs.Laws.{accepted_facts}
use Rattle.outcomes.specs.Outcome.{Outcome, refused, answered, outcome}
use Rattle.outcomes.specs.Tables.{too_long, unless_refused, written}

-- a call is refused with the number that is found
pub refused_some : {A : Type 0} (o : Option ℕ) (x : A) (n : ℕ) → outcome o x ≡ refused n → o ≡ some n
refused_some none x n e = let z : ◌≡◌ {A = ℕ} 0 1 = cc in absurd (omega arith)
refused_some (some m) x n e = let same : m ≡ n = cc in ap some same

-- a call is answered if none is found
pub answered_none : {A : Type 0} (o : Option ℕ) (x y : A) → outcome o x ≡ answered y → o ≡ none
answered_none none x y e = refl
answered_none (some m) x y e = let z : ◌≡◌ {A = ℕ} 0 1 = cc in absurd (omega arith)

-- a call with these reasons, this finding and this list due has that outcome and writes that list
pub record CallIs {A : Type 0} (reasons : List Reason) (found : A) (due : Option (List ℕ)) (o : Outcome A) (listed : Option (List ℕ)) : Type 0 where
  pub outcome_is : outcome (first_broken reasons) found ≡ o
  pub list_is : unless_refused (first_broken reasons) due ≡ listed

-- the answer table holds the list that is written
pub call_answer : {A : Type 0} {reasons : List Reason} {found : A} {due : Option (List ℕ)} {o : Outcome A} {listed : Option (List ℕ)} (a : List ℕ)
    → CallIs reasons found due o listed → written (unless_refused (first_broken reasons) due) a ≡ written listed a
call_answer a s = ap (λ (l : Option (List ℕ)). written l a) s.list_is

-- a reason holds: refused with the first, and nothing is written
pub call_broken : {A : Type 0} (reasons : List Reason) (found : A) (due : Option (List ℕ)) (n : ℕ) → first_broken reasons ≡ some n
    → CallIs reasons found due (refused n) none
call_broken reasons found due n e =
    record {
      outcome_is = ap (λ (o : Option ℕ). outcome o found) e;
      list_is = ap (λ (o : Option ℕ). unless_refused o due) e;
    }

-- no reason holds: what the call finds, and the list due
pub call_kept : {A : Type 0} (reasons : List Reason) (found found' : A) (due due' : Option (List ℕ)) → first_broken reasons ≡ none
    → found ≡ found' → due ≡ due' → CallIs reasons found due (answered found') due'
call_kept reasons found found' due due' e p q =
    record {
      outcome_is = ap (λ (o : Option ℕ). outcome o found) e ∙ ap answered p;
      list_is = ap (λ (o : Option ℕ). unless_refused o due) e ∙ q;
    }

-- what is answered with a working table of so many entries is answered with one of as many
pub at_length : {A : Type 0} (F : ℕ → A) {x : A} {n n' : ℕ} → x ≡ F n → n ≡ n' → x ≡ F n'
at_length F e same = e ∙ ap F same

-- and so it is with the mark table that is named
pub at_table : {A : Type 0} (F : (t n : ℕ) → A) {x : A} {t t' n n' : ℕ} → x ≡ F t n → t ≡ t' → n ≡ n' → x ≡ F t' n'
at_table F e named same = e ∙ ap₂ F named same

-- the shortest accepting path of an accepted file never has more than 4,096 transitions
pub never_too_long : (f : List ℕ) (t : ℕ) → Accepted f → too_long (least_length (graph_of f t)) ≡ false
never_too_long f t a = go (least_length (graph_of f t)) refl
  where
    go : (o : Option ℕ) → least_length (graph_of f t) ≡ o → too_long o ≡ false
    go none e = refl
    go (some l) e =
        let facts = accepted_facts f a in
        le-ltb 4096 l (omega (arith, least_length_range (graph_of f t) l e, facts.states_range))
