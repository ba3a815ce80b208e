-- The edges and the paths of a combination: exactly the pairs of edges, and of paths, that agree on letters.
use Rattle.std.specs.Prelude.{ℕ, ◌*◌, ◌<◌, ◌≡◌, Bool, true, false, ◌&&◌, List, [], ◌∷◌, map, length, T}
use Rattle.lists.specs.Lists.{memb}
use Rattle.lasso.specs.Graph.{Graph, WellFormed, edgeb, pathb}
use Rattle.combine_model.specs.Product.{Property, pair_number, rule_state, property_state, product}

-- the two lists agree on letters: they have the same length, and the mask of each edge of the property's list holds the
-- letter of the rule's state beside its source; the letter of the last state is not read
abbrev pub agreeb : (ℕ → ℕ) → Property → (ss qs : List ℕ) → Bool
agreeb letter p [] [] = true
agreeb letter p [] (q ∷ qs) = false
agreeb letter p (s ∷ ss) [] = false
agreeb letter p (s ∷ []) (q ∷ []) = true
agreeb letter p (s ∷ []) (q ∷ q' ∷ qs) = false
agreeb letter p (s ∷ s' ∷ ss) (q ∷ []) = false
agreeb letter p (s ∷ s' ∷ ss) (q ∷ q' ∷ qs) = p.holds q q' (letter s) && agreeb letter p (s' ∷ ss) (q' ∷ qs)

-- a pair of paths that agree on letters: one of the rule, one of the property
abbrev pub pair_of_pathsb : Graph → (ℕ → ℕ) → Property → (ss qs : List ℕ) → Bool
pair_of_pathsb g letter p ss qs = pathb g ss && (pathb p.graph qs && agreeb letter p ss qs)

-- the rule's states of a list of combined states
abbrev pub rule_states : Property → List ℕ → List ℕ
rule_states p cs = map (rule_state p) cs

-- the property's states of a list of combined states
abbrev pub property_states : Property → List ℕ → List ℕ
property_states p cs = map (property_state p) cs

-- the combined states of two lists, place by place
abbrev pub pair_numbers : Property → (ss qs : List ℕ) → List ℕ
pair_numbers p [] qs = []
pair_numbers p (s ∷ ss) [] = []
pair_numbers p (s ∷ ss) (q ∷ qs) = pair_number p s q ∷ pair_numbers p ss qs

-- each entry of the list is below n: a list of states of a model with n states
abbrev pub ListBelow : ℕ → List ℕ → Type 0
ListBelow n xs = (x : ℕ) → T (memb x xs) → x < n

-- A list of states of the combined model c, and the two lists that it stands for.
pub record Split (c g : Graph) (letter : ℕ → ℕ) (p : Property) (cs : List ℕ) : Type 0 where
  -- these are lists of states of the rule and of the property, of its length
  pub rule_states_below : ListBelow g.size (rule_states p cs)
  pub property_states_below : ListBelow p.graph.size (property_states p cs)
  pub rule_length : length (rule_states p cs) ≡ length cs
  pub property_length : length (property_states p cs) ≡ length cs
  -- from which it comes back
  pub back : pair_numbers p (rule_states p cs) (property_states p cs) ≡ cs
  -- it is a path exactly if they are paths that agree on letters
  pub path : pathb c cs ≡ pair_of_pathsb g letter p (rule_states p cs) (property_states p cs)

-- A list of the rule's states and one of the property's, of one length, and the list of combined states that they form.
pub record Joined (c g : Graph) (letter : ℕ → ℕ) (p : Property) (ss qs : List ℕ) : Type 0 where
  -- this is a list of combined states of their length
  pub states : ListBelow c.size (pair_numbers p ss qs)
  pub same_length : length (pair_numbers p ss qs) ≡ length ss
  -- from which they come back
  pub rule_back : rule_states p (pair_numbers p ss qs) ≡ ss
  pub property_back : property_states p (pair_numbers p ss qs) ≡ qs
  -- it is a path exactly if they are paths that agree on letters
  pub path : pathb c (pair_numbers p ss qs) ≡ pair_of_pathsb g letter p ss qs

-- What it says that c combines the rule g, whose states have these letters, with the property p: its states are the pairs,
-- its edges exist exactly as told, and its paths are exactly the pairs of paths that agree on letters, both ways. Paths are
-- lists of states.
pub record Combines (c g : Graph) (letter : ℕ → ℕ) (p : Property) : Type 0 where
  pub size : c.size ≡ g.size * p.graph.size
  -- the initial states form the initial pair
  pub start : c.start ≡ pair_number p g.start p.graph.start
  -- an edge from (s, q) to (s', q') exists exactly if s has an edge to s' and q one to q' whose mask holds the letter of s
  pub edge : (s q s' q' : ℕ) → q < p.graph.size → q' < p.graph.size
      → edgeb c (pair_number p s q) (pair_number p s' q')
      ≡ (edgeb g s s' && (edgeb p.graph q q' && p.holds q q' (letter s)))
  -- (s, q) is marked exactly if q is
  pub mark : (s q : ℕ) → s < g.size → q < p.graph.size → c.marked (pair_number p s q) ≡ p.graph.marked q
  pub split : (cs : List ℕ) → ListBelow c.size cs → Split c g letter p cs
  pub joined : (ss qs : List ℕ) → ListBelow g.size ss → ListBelow p.graph.size qs → length ss ≡ length qs
      → Joined c g letter p ss qs

-- So it is for every rule, its letters, and every property.
abbrev pub ProductCombines : Type 0
ProductCombines = (g : Graph) (letter : ℕ → ℕ) (p : Property) → WellFormed g → WellFormed p.graph
    → Combines (product g letter p) g letter p
