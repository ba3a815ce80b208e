-- Condition 2: what a search for which no reason holds answers and writes, by the marks of the table that it names.
use Rattle.std.specs.Prelude.{ℕ, ◌+◌, ◌*◌, ◌≤◌, ◌<◌, ◌≡◌, ◌↔◌, ◌⊎◌, List, ◌++◌, length, drop, T}
use Rattle.std.proofs.Math.Option.{some}
use Rattle.lasso.specs.Graph.{Graph, edges, loopsb, acceptingb}
use Rattle.lasso.specs.Order.{beforeb}
use Rattle.lasso.specs.Roll.{least_length}
use Rattle.lasso.specs.Rounds.{Record, candidates, after_rounds}
use Rattle.lasso.specs.Ceiling.{PathWithin}
use Rattle.numbers.specs.Limits.{highest_ceiling}
use Rattle.gate.specs.declared.Ask.{Ask}
use Rattle.format.specs.Layout.{states}
use Rattle.format.specs.Rules.{Accepted}
use Rattle.outcomes.specs.Outcome.{answered}
use Rattle.search.specs.Search.{Searched, stopped, none_within, graph_asked, search_reasons, search_outcome, search_answer}
use Rattle.conditions.specs.Reasons.{NoneHolds}

-- the first of the shortest accepting paths: it is not longer than the ceiling, no accepting path is shorter, and every
-- other one of the same length comes after it in dictionary order
pub record FirstShortest (g : Graph) (ceiling : ℕ) (xs : List ℕ) : Type 0 where
  pub accepting : T (acceptingb g xs)
  pub within : edges xs ≤ ceiling
  pub shortest : (ys : List ℕ) → T (acceptingb g ys) → edges xs ≤ edges ys
  pub first : (ys : List ℕ) → T (acceptingb g ys) → edges ys ≡ edges xs → (ys ≡ xs → ⊥) → T (beforeb xs ys)

-- the answer is "found" (L, k, rounds)
abbrev pub IsFound : List ℕ → Ask → List ℕ → ℕ → ℕ → ℕ → ℕ → Type 0
IsFound f ask a workRoom L k rounds = search_outcome f ask (length a) workRoom ≡ answered (Searched.found L k rounds)

-- the answer is "none within the ceiling" (rounds)
abbrev pub IsNoneWithin : List ℕ → Ask → List ℕ → ℕ → ℕ → Type 0
IsNoneWithin f ask a workRoom rounds = search_outcome f ask (length a) workRoom ≡ answered (none_within rounds)

-- the answer is "stopped" with a record
abbrev pub IsStopped : List ℕ → Ask → List ℕ → ℕ → Record → Type 0
IsStopped f ask a workRoom r = search_outcome f ask (length a) workRoom ≡ answered (stopped r)

-- the answer is "found", with some figures
abbrev pub Finds : List ℕ → Ask → List ℕ → ℕ → Type 0
Finds f ask a workRoom = (L : ℕ) × (k : ℕ) × (rounds : ℕ) × IsFound f ask a workRoom L k rounds

-- the answer is "none within the ceiling", with some figure
abbrev pub FindsNone : List ℕ → Ask → List ℕ → ℕ → Type 0
FindsNone f ask a workRoom = (rounds : ℕ) × IsNoneWithin f ask a workRoom rounds

-- what "found" (L, k, rounds) says: the first of the shortest accepting paths stands in entries 0 to L of the answer
-- table, and what lies past them is as before; from k on, which is below L, it is a closed walk with a mark; and all
-- rounds are done
pub record FoundSays (f : List ℕ) (ask : Ask) (a : List ℕ) (workRoom L k rounds : ℕ) : Type 0 where
  pub list : List ℕ
  pub first_shortest : FirstShortest (graph_asked f ask) ask.ceiling.0 list
  pub length_is : edges list ≡ L
  pub entries_are : length list ≡ L + 1
  pub fits : L + 1 ≤ length a
  pub written : search_answer f ask a workRoom ≡ list ++ drop (L + 1) a
  pub loop_start-below : k < L
  pub loops : T (loopsb (graph_asked f ask) list k)
  pub rounds_are : rounds ≡ length (candidates (graph_asked f ask))

-- what "none within the ceiling" (rounds) says: nothing is written, and all rounds are done
pub record NoneSays (f : List ℕ) (ask : Ask) (a : List ℕ) (workRoom rounds : ℕ) : Type 0 where
  pub unwritten : search_answer f ask a workRoom ≡ a
  pub rounds_are : rounds ≡ length (candidates (graph_asked f ask))

-- with an allowance not below the number of candidates: the answer is "found" or "none within the ceiling" and not
-- "stopped"; "found" exactly if an accepting path not longer than the ceiling exists, "none within the ceiling" exactly if
-- no accepting path has that length or less
pub record Searches (f : List ℕ) (ask : Ask) (a : List ℕ) (workRoom : ℕ) : Type 0 where
  pub answers : Finds f ask a workRoom ⊎ FindsNone f ask a workRoom
  pub not_stopped : (r : Record) → IsStopped f ask a workRoom r → ⊥
  pub found_exactly : Finds f ask a workRoom ↔ PathWithin (graph_asked f ask) ask.ceiling.0
  pub found_says : (L k rounds : ℕ) → IsFound f ask a workRoom L k rounds → FoundSays f ask a workRoom L k rounds
  pub none_exactly : FindsNone f ask a workRoom ↔ (PathWithin (graph_asked f ask) ask.ceiling.0 → ⊥)
  pub none_says : (rounds : ℕ) → IsNoneWithin f ask a workRoom rounds → NoneSays f ask a workRoom rounds

-- with a smaller allowance: "stopped" with the record after that many rounds, claiming neither "found" nor "none within the
-- ceiling", and nothing is written
pub record Stops (f : List ℕ) (ask : Ask) (a : List ℕ) (workRoom : ℕ) : Type 0 where
  pub stopped_with : IsStopped f ask a workRoom (after_rounds (graph_asked f ask) ask.ceiling.0 ask.allowance)
  pub rounds_done : (after_rounds (graph_asked f ask) ask.ceiling.0 ask.allowance).done ≡ ask.allowance
  pub not_found : Finds f ask a workRoom → ⊥
  pub not_none : FindsNone f ask a workRoom → ⊥
  pub unwritten : search_answer f ask a workRoom ≡ a

-- a search: by whether the allowance suffices
pub record Condition2 (f : List ℕ) (ask : Ask) (a : List ℕ) (workRoom : ℕ) : Type 0 where
  pub suffices : length (candidates (graph_asked f ask)) ≤ ask.allowance → Searches f ask a workRoom
  pub short : ask.allowance < length (candidates (graph_asked f ask)) → Stops f ask a workRoom

-- what it says that no reason of a search holds: it names mark table 0 or 1, the file breaks none of 1 to 11, the working
-- table has 6 × N entries, the ceiling is at most 4,096, and the answer table has L + 1 entries if a list is to be written
pub record SearchPasses (f : List ℕ) (ask : Ask) (answerRoom workRoom : ℕ) : Type 0 where
  pub names_one : ask.table ≤ 1
  pub accepted : Accepted f
  pub room : 6 * states f ≤ workRoom
  pub ceiling_low : ask.ceiling.0 ≤ highest_ceiling
  pub fits : length (candidates (graph_asked f ask)) ≤ ask.allowance
      → (l : ℕ) → least_length (graph_asked f ask) ≡ some l → l ≤ ask.ceiling.0 → l + 1 ≤ answerRoom

-- no reason of a search holds exactly if that is so
abbrev pub SearchPassesExactly : Type 0
SearchPassesExactly =
    (f : List ℕ) (ask : Ask) (answerRoom workRoom : ℕ)
    → NoneHolds (search_reasons f ask answerRoom workRoom) ↔ SearchPasses f ask answerRoom workRoom

-- condition 2: for every search, whatever its file, mark table, ceiling, allowance, answer table and working table, for
-- which no reason holds
abbrev pub Condition2Holds : Type 0
Condition2Holds =
    (f : List ℕ) (ask : Ask) (a : List ℕ) (workRoom : ℕ) → NoneHolds (search_reasons f ask (length a) workRoom)
    → Condition2 f ask a workRoom
