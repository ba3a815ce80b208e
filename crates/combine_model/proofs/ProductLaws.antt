-- A combination is a model: its initial state is a state, its edges are pairs of states, its successors ascend; only
-- states are marked. And its edges and marks are the ones told.
use Prim.Native.Nat.{ℕ, ◌+◌, ◌*◌, ◌<◌}
use native.Mathlib.Omega.{arith}
use mathlib.Core.Path.{◌≡◌, ap, ap₂, subst, ◌∙◌}
use mathlib.Core.Bool.{Bool, true, ◌&&◌}
use mathlib.Core.List.{List}
use lib.Dec.{T, ltb, ltb→lt, lt→ltb}
use Rattle.lists.specs.Lists.{memb, ascendingb}
use Rattle.lasso.specs.Graph.{Graph, WellFormed, edgeb}
use Rattle.lists.proofs.Tests.{fst, T_true, memb_mem}
use Rattle.combine_model.specs.Product.{Property, pair_number, rule_state, property_state, pair_succs, product}
use Rattle.combine_model.proofs.PairLaws.{pair_div, pair_mod, pair_back, pair_below}
use Rattle.combine_model.proofs.PairLists.{pairs_parts, pairs_memb, pairs_ascend}

-- the rule's state of a pair's number is its first part
pub rule_of_pair : (p : Property) (s q : ℕ) → q < p.graph.size → rule_state p (pair_number p s q) ≡ s
rule_of_pair p s q h = pair_div p.graph.size s q h

-- the property's state of a pair's number is its second part
pub property_of_pair : (p : Property) (s q : ℕ) → q < p.graph.size → property_state p (pair_number p s q) ≡ q
property_of_pair p s q h = pair_mod p.graph.size s q h

-- a number is that of the pair of its parts
pub pair_of_parts : (p : Property) (c : ℕ) → 0 < p.graph.size → pair_number p (rule_state p c) (property_state p c) ≡ c
pair_of_parts p c h = pair_back p.graph.size c h

-- only numbers of combined states are marked
pub product_marks : (g : Graph) (letter : ℕ → ℕ) (p : Property) (c : ℕ) → T ((product g letter p).marked c) → c < g.size * p.graph.size
product_marks g letter p c h = ltb→lt c (g.size * p.graph.size) (fst (ltb c (g.size * p.graph.size)) _ h)

-- (s, q) is marked exactly if q is
pub product_mark : (g : Graph) (letter : ℕ → ℕ) (p : Property) (s q : ℕ) → s < g.size → q < p.graph.size
    → (product g letter p).marked (pair_number p s q) ≡ p.graph.marked q
product_mark g letter p s q h k =
    let c : ℕ = pair_number p s q in
    let n : ℕ = g.size * p.graph.size in
    let b : ltb c n ≡ true = T_true (ltb c n) (lt→ltb c n (pair_below g.size p.graph.size s q h k)) in
    ap₂ (λ (x : Bool) (r : ℕ). x && p.graph.marked r) b (property_of_pair p s q k)

-- the successors of (s, q) are those of s and q for the letter of s
pub product_succs : (g : Graph) (letter : ℕ → ℕ) (p : Property) (s q : ℕ) → q < p.graph.size
    → (product g letter p).succs (pair_number p s q) ≡ pair_succs g p (letter s) s q
product_succs g letter p s q h = ap₂ (λ (t r : ℕ). pair_succs g p (letter t) t r) (rule_of_pair p s q h) (property_of_pair p s q h)

-- a state of a well-formed model makes its number of states more than nothing
pub some_state : (g : Graph) → WellFormed g → 0 < g.size
some_state g w = let h : g.start < g.size = w.start_state in omega arith

module _ (g : Graph) (letter : ℕ → ℕ) (p : Property) (w : WellFormed g) (v : WellFormed p.graph) where
  -- the successors of a state of the property are below its number of states
  targets_low : (q r : ℕ) → T (memb r (p.graph.succs q)) → r < p.graph.size
  targets_low q r h = (v.edge_states q r h).1

  -- (s', q') is a successor of (s, q) for a letter exactly if s has an edge to s' and q one to q' whose mask holds the letter
  pub succs_memb : (l s q s' q' : ℕ) → q' < p.graph.size
      → memb (pair_number p s' q') (pair_succs g p l s q) ≡ (edgeb g s s' && (edgeb p.graph q q' && p.holds q q' l))
  succs_memb l s q s' q' h =
      pairs_memb p.graph.size (λ r. p.holds q r l) (g.succs s) (p.graph.succs q) (targets_low q) s' q' h

  -- an edge from (s, q) to (s', q') exists exactly if s has an edge to s' and q one to q' whose mask holds the letter of s
  pub product_edge : (s q s' q' : ℕ) → q < p.graph.size → q' < p.graph.size
      → edgeb (product g letter p) (pair_number p s q) (pair_number p s' q')
      ≡ (edgeb g s s' && (edgeb p.graph q q' && p.holds q q' (letter s)))
  product_edge s q s' q' h k =
      ap (λ (ds : List ℕ). memb (pair_number p s' q') ds) (product_succs g letter p s q h) ∙ succs_memb (letter s) s q s' q' k

  -- an edge of the combination is a pair of combined states
  product-edges : (c d : ℕ) → T (edgeb (product g letter p) c d)
      → (c < g.size * p.graph.size) × (d < g.size * p.graph.size)
  product-edges c d h =
      let size : ℕ = p.graph.size in
      let s : ℕ = rule_state p c in
      let q : ℕ = property_state p c in
      let l : ℕ = letter s in
      let r : (s' : ℕ) × T (memb s' (g.succs s)) × ((q' : ℕ) × T (memb q' (p.graph.succs q)) × T (p.holds q q' l) × (s' * size + q' ≡ d)) =
      pairs_parts size (λ q'. p.holds q q' l) (g.succs s) (p.graph.succs q) (targets_low q) d (memb_mem d (pair_succs g p l s q) h) in
      let s' : ℕ = r.0 in
      let q' : ℕ = r.2.0 in
      let a : (s < g.size) × (s' < g.size) = w.edge_states s s' r.1 in
      let b : (q < size) × (q' < size) = v.edge_states q q' r.2.1 in (
        subst (λ (x : ℕ). x < g.size * size) (pair_of_parts p c (some_state p.graph v)) (pair_below g.size size s q a.0 b.0),
        subst (λ (x : ℕ). x < g.size * size) r.2.3 (pair_below g.size size s' q' a.1 b.1),
      )

  -- the successors of a combined state ascend
  product_ascends : (c : ℕ) → T (ascendingb ((product g letter p).succs c))
  product_ascends c =
      let s : ℕ = rule_state p c in
      let q : ℕ = property_state p c in
      pairs_ascend p.graph.size (λ q'. p.holds q q' (letter s)) (g.succs s) (p.graph.succs q) (targets_low q) (w.ascending s) (v.ascending q)

-- the combination of two well-formed models is well formed
pub product_well_formed : (g : Graph) (letter : ℕ → ℕ) (p : Property) → WellFormed g → WellFormed p.graph → WellFormed (product g letter p)
product_well_formed g letter p w v =
    record {
      start_state = pair_below g.size p.graph.size g.start p.graph.start w.start_state v.start_state;
      edge_states = product-edges g letter p w v;
      ascending = product_ascends g letter p w v;
    }
