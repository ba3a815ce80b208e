-- The sequences that condition 3 speaks of, and its claim.
use Rattle.std.specs.Prelude.{ℕ, ◌≡◌, ◌⊎◌, List, [], ◌∷◌, ◌++◌, map, take, T}
use Rattle.std.proofs.Math.Option.{Option, some, none}
use Rattle.lasso.specs.Roll.{roll}
use Rattle.model.specs.Model.{graph_of}
use Rattle.format.specs.Rules.{Accepted}
use Rattle.gate.specs.Gate.{no_table}
use Rattle.next.specs.Next.{not_shortest}
use Rattle.sequence.specs.Calls.{Call, search, next, table_named, finder_at, received}
use Rattle.sequence.specs.Book.{book_results, book_end}

-- the list last received: the one that a call brings, else the one before
abbrev pub last_received : Option (List ℕ) → Option (List ℕ) → Option (List ℕ)
last_received none before = before
last_received (some xs) before = some xs

-- each next is lent the copy last received or a list that is no shortest accepting path
abbrev pub Lent : List ℕ → Option (List ℕ) → Call → Type 0
Lent f copy (search ask a w) = Unit {0}
Lent f copy (next t earlier a w) = (copy ≡ some earlier) ⊎ T (not_shortest (graph_of f t) earlier)

-- a call of a sequence whose calls name mark table t: it names t and is lent what it may be lent, or 22 refuses it, whatever
-- it is lent
abbrev pub ProperCall : List ℕ → (t : ℕ) → Option (List ℕ) → Call → Type 0
ProperCall f t copy c = ((table_named c ≡ t) × Lent f copy c) ⊎ T (no_table (table_named c))

-- a sequence of calls that name mark table t, save those that 22 refuses, where a copy may have been received before
abbrev pub Proper : List ℕ → (t : ℕ) → Option (List ℕ) → List Call → Type 0
Proper f t copy [] = Unit {0}
Proper f t copy (c ∷ cs) = ProperCall f t copy c × Proper f t (last_received (received (finder_at f c)) copy) cs

-- the lists received from the last search that answered "found" onward: such a search begins anew, a next adds its list
abbrev pub add_received : Call → Option (List ℕ) → List (List ℕ) → List (List ℕ)
add_received c none lists = lists
add_received (search ask a w) (some xs) lists = xs ∷ []
add_received (next t earlier a w) (some xs) lists = lists ++ xs ∷ []

-- the lists received in a sequence of calls, after those received before
abbrev pub lists_received : List ℕ → List (List ℕ) → List Call → List (List ℕ)
lists_received f lists [] = lists
lists_received f lists (c ∷ cs) = lists_received f (add_received c (received (finder_at f c)) lists) cs

-- condition 3 for a sequence at whose start no list has been received: the answers and both tables after each call are the
-- book's, and at the end the lists received from the last search that answered "found" onward are the first h of the roll by
-- the marks of table t
pub record Listed (f : List ℕ) (t : ℕ) (cs : List Call) : Type 0 where
  pub results : map (finder_at f) cs ≡ book_results f 0 cs
  pub lists : lists_received f [] cs ≡ take (book_end f 0 cs) (roll (graph_of f t))

-- condition 3: for every sequence of calls on one accepted file that all name the same mark table, save those that 22 refuses
abbrev pub Condition3Holds : Type 0
Condition3Holds = (f : List ℕ) → Accepted f → (t : ℕ) (cs : List Call) → Proper f t none cs → Listed f t cs
