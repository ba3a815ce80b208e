-- `letters_broken` meets its contract: with one letter per state, it is whether `any` finds one above 15.
use Rattle.std.proofs.Common.{rules, ◌≡◌, refl, ◌∙◌, arith, length, Bool, List, ℕ, ◌||◌}
use borrow.Author.Tests.{eq-eqb, tests}
use lib.Dec.{ltb}
use Rattle.std.specs.List.{list_any}
use Rattle.std.proofs.lemmas.Iterator.{YieldsList-from_slice}
use Rattle.std.proofs.lemmas.Iterator.Search.{any_from_yields_List}
use Rattle.std.proofs.lemmas.List.Recursion.{same_from_clauses}
use Rattle.lists.specs.Lists.{anyb}
use Rattle.combine_letters.proofs.letters_broken.Goals as goal

-- what `any` answers, by the definition
any_is : (p : ℕ → Bool) (xs : List ℕ) → list_any p xs ≡ anyb p xs
any_is p xs = same_from_clauses (list_any p) (anyb p) (λ x b. p x || b) refl (λ x xs. refl) (λ x xs. refl) xs

pub returns-else-letters-n : goal.returns-else-letters-n
returns-else-letters-n c =
    let letters = c.args.letters.now in
    let found : c.any.result ≡ list_any (ltb 15) letters =
    any_from_yields_List (ltb 15) _ _ c.any.result c.any.ensures.ran (YieldsList-from_slice letters cc) (λ x b q k. search (rules, tests)) in
    rw (eq-eqb (length letters) c.args.n (omega (arith, c.if-letters-n.false))) (found ∙ any_is (ltb 15) letters)
