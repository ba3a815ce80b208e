-- The combination of a rule, a model whose states have letters, with a property, a model whose edges have sets of letters.
use Rattle.std.specs.Prelude.{ℕ, ◌+◌, ◌*◌, ◌/◌, ◌%◌, Bool, ◌&&◌, List, map, ltb}
use Rattle.lists.specs.Lists.{keep, collect}
use Rattle.lasso.specs.Graph.{Graph}

-- A property: its states, edges and marks, and which letters the mask of each edge holds.
pub record Property : Type 0 where
  pub graph : Graph
  -- the mask of the edge from q to q' holds the letter
  pub holds : (q q' letter : ℕ) → Bool

-- the number of the combined state (s, q): s times the property's state count plus q
abbrev pub pair_number : Property → (s q : ℕ) → ℕ
pair_number p s q = s * p.graph.size + q

-- the rule's state s of the combined state with number c = (s, q)
abbrev pub rule_state : Property → ℕ → ℕ
rule_state p c = c / p.graph.size

-- the property's state q of the combined state with number c = (s, q)
abbrev pub property_state : Property → ℕ → ℕ
property_state p c = c % p.graph.size

-- the property's states that an edge leads to from q whose mask holds the letter
abbrev pub agreeing : Property → (letter q : ℕ) → List ℕ
agreeing p letter q = keep (λ q'. p.holds q q' letter) (p.graph.succs q)

-- the combined states that an edge leads to from (s, q), where s has this letter: (s', q') for each edge from s to s' and
-- each edge from q to q' whose mask holds the letter
abbrev pub pair_succs : Graph → Property → (letter s q : ℕ) → List ℕ
pair_succs g p letter s q = collect (λ s'. map (pair_number p s') (agreeing p letter q)) (g.succs s)

-- the combined model: the initial states form the initial pair, and (s, q) is marked if q is
abbrev pub product : Graph → (letter : ℕ → ℕ) → Property → Graph
product g letter p =
    record {
      size = g.size * p.graph.size;
      start = pair_number p g.start p.graph.start;
      succs = λ c. pair_succs g p (letter (rule_state p c)) (rule_state p c) (property_state p c);
      marked = λ c. ltb c (g.size * p.graph.size) && p.graph.marked (property_state p c);
    }
