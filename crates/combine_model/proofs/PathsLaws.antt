-- The paths of a combination are exactly the pairs of paths that agree on letters, both ways.
use Prim.Native.Nat.{ℕ, suc, ◌*◌, ◌<◌}
use native.Mathlib.Omega.{arith}
use native.Mathlib.Nat.{suc_inj}
use mathlib.Core.Path.{◌≡◌, refl, sym, ap, ap₂, ◌∙◌}
use mathlib.Core.Logic.{inl, inr}
use mathlib.Core.Bool.{Bool, true, false, ◌&&◌}
use mathlib.Core.List.{List, [], ◌∷◌, map}
use lib.ListN.{length, length-map}
use lib.Dec.{eqb, eqb→eq, eqb_refl}
use Rattle.lists.specs.Lists.{memb}
use Rattle.lasso.specs.Graph.{Graph, WellFormed, edgeb, pathb}
use Rattle.lists.proofs.Tests.{either, or_l, or_r}
use Rattle.combine_model.specs.Product.{Property, pair_number, rule_state, property_state, product}
use Rattle.combine_model.specs.Paths.{agreeb, pair_of_pathsb, rule_states, property_states, pair_numbers, ListBelow, Split, Joined, ProductCombines}
use Rattle.combine_model.proofs.PairLaws.{mod_below, pair_below, div_below}
use Rattle.combine_model.proofs.ProductLaws.{rule_of_pair, property_of_pair, pair_of_parts, some_state, product_edge, product_mark}

-- three tests of an edge and three of the rest of a path, put together test by test
regroup : (a b c x y z : Bool) → ((a && (b && c)) && (x && (y && z))) ≡ ((a && x) && ((b && y) && (c && z)))
regroup false b c x y z = refl
regroup true false c false y z = refl
regroup true false c true y z = refl
regroup true true false false y z = refl
regroup true true false true false z = refl
regroup true true false true true z = refl
regroup true true true x y z = refl

-- the first entry of a list of numbers below n is below n
pub list_below-head : (n x : ℕ) (xs : List ℕ) → ListBelow n (x ∷ xs) → x < n
list_below-head n x xs h = h x (or_l (eqb x x) (memb x xs) (eqb_refl x))

-- the rest of a list of numbers below n is one
pub list_below_tail : (n x : ℕ) (xs : List ℕ) → ListBelow n (x ∷ xs) → ListBelow n xs
list_below_tail n x xs h y m = h y (or_r (eqb y x) (memb y xs) m)

-- a number below n in front of a list of such numbers makes one
pub list_below_cons : (n x : ℕ) (xs : List ℕ) → x < n → ListBelow n xs → ListBelow n (x ∷ xs)
list_below_cons n x xs l h y m =
    elim (either (eqb y x) (memb y xs) m) [
      | inl e ↦ let q : y ≡ x = eqb→eq y x e in omega arith
      | inr k ↦ h y k
    ]

-- a map that takes numbers below n below m takes lists of them so
pub map_below : (f : ℕ → ℕ) (n m : ℕ) → ((x : ℕ) → x < n → f x < m) → (xs : List ℕ) → ListBelow n xs → ListBelow m (map f xs)
map_below f n m k [] h = λ y t. absurd t
map_below f n m k (x ∷ xs) h =
    list_below_cons m (f x) (map f xs) (k x (list_below-head n x xs h)) (map_below f n m k xs (list_below_tail n x xs h))

module _ (p : Property) where
  -- the list of pairs of two lists of one length has that length
  pub pairs_length : (ss qs : List ℕ) → length ss ≡ length qs → length (pair_numbers p ss qs) ≡ length ss
  pairs_length [] qs e = refl
  pairs_length (s ∷ ss) [] e = absurd (omega arith)
  pairs_length (s ∷ ss) (q ∷ qs) e = ap suc (pairs_length ss qs (suc_inj e))

  -- the pairs of states below n and states of the property have numbers below n times its number of states
  pub pairs_below : (n : ℕ) (ss qs : List ℕ) → ListBelow n ss → ListBelow p.graph.size qs → ListBelow (n * p.graph.size) (pair_numbers p ss qs)
  pairs_below n [] qs h k = λ y t. absurd t
  pairs_below n (s ∷ ss) [] h k = λ y t. absurd t
  pairs_below n (s ∷ ss) (q ∷ qs) h k =
      list_below_cons (n * p.graph.size) (pair_number p s q) (pair_numbers p ss qs)
      (pair_below n p.graph.size s q (list_below-head n s ss h) (list_below-head p.graph.size q qs k))
      (pairs_below n ss qs (list_below_tail n s ss h) (list_below_tail p.graph.size q qs k))

  -- the first parts of the pairs are the first list
  pub rule_states_back : (ss qs : List ℕ) → ListBelow p.graph.size qs → length ss ≡ length qs → rule_states p (pair_numbers p ss qs) ≡ ss
  rule_states_back [] qs k e = refl
  rule_states_back (s ∷ ss) [] k e = absurd (omega arith)
  rule_states_back (s ∷ ss) (q ∷ qs) k e =
      ap₂ (λ (x : ℕ) (xs : List ℕ). x ∷ xs) (rule_of_pair p s q (list_below-head p.graph.size q qs k))
      (rule_states_back ss qs (list_below_tail p.graph.size q qs k) (suc_inj e))

  -- the second parts of the pairs are the second list
  pub property_states_back : (ss qs : List ℕ) → ListBelow p.graph.size qs → length ss ≡ length qs → property_states p (pair_numbers p ss qs) ≡ qs
  property_states_back [] [] k e = refl
  property_states_back [] (q ∷ qs) k e = absurd (omega arith)
  property_states_back (s ∷ ss) [] k e = absurd (omega arith)
  property_states_back (s ∷ ss) (q ∷ qs) k e =
      ap₂ (λ (x : ℕ) (xs : List ℕ). x ∷ xs) (property_of_pair p s q (list_below-head p.graph.size q qs k))
      (property_states_back ss qs (list_below_tail p.graph.size q qs k) (suc_inj e))

  -- the pairs of the parts of a list's entries are its entries
  pub pairs_back : 0 < p.graph.size → (cs : List ℕ) → pair_numbers p (rule_states p cs) (property_states p cs) ≡ cs
  pairs_back l [] = refl
  pairs_back l (c ∷ cs) = ap₂ (λ (x : ℕ) (xs : List ℕ). x ∷ xs) (pair_of_parts p c l) (pairs_back l cs)

module _ (g : Graph) (letter : ℕ → ℕ) (p : Property) (w : WellFormed g) (v : WellFormed p.graph) where
  -- the pairs of two lists are a path exactly if these are paths that agree on letters
  pub pairs_path : (ss qs : List ℕ) → ListBelow p.graph.size qs → length ss ≡ length qs
      → pathb (product g letter p) (pair_numbers p ss qs) ≡ pair_of_pathsb g letter p ss qs
  pairs_path [] [] k e = refl
  pairs_path [] (q ∷ qs) k e = absurd (omega arith)
  pairs_path (s ∷ ss) [] k e = absurd (omega arith)
  pairs_path (s ∷ []) (q ∷ []) k e = refl
  pairs_path (s ∷ []) (q ∷ q' ∷ qs) k e = absurd (omega arith)
  pairs_path (s ∷ s' ∷ ss) (q ∷ []) k e = absurd (omega arith)
  pairs_path (s ∷ s' ∷ ss) (q ∷ q' ∷ qs) k e =
      let rest : ListBelow p.graph.size (q' ∷ qs) = list_below_tail p.graph.size q (q' ∷ qs) k in
      ap₂ (λ (a b : Bool). a && b)
      (product_edge g letter p w v s q s' q' (list_below-head p.graph.size q (q' ∷ qs) k) (list_below-head p.graph.size q' qs rest))
      (pairs_path (s' ∷ ss) (q' ∷ qs) rest (suc_inj e))
      ∙ regroup (edgeb g s s') (edgeb p.graph q q') (p.holds q q' (letter s))
      (pathb g (s' ∷ ss)) (pathb p.graph (q' ∷ qs)) (agreeb letter p (s' ∷ ss) (q' ∷ qs))

  -- two lists of states form a list of combined states that is a path exactly if they are paths that agree on letters
  pub product_joined : (ss qs : List ℕ) → ListBelow g.size ss → ListBelow p.graph.size qs → length ss ≡ length qs
      → Joined (product g letter p) g letter p ss qs
  product_joined ss qs h k e =
      record {
        states = pairs_below p g.size ss qs h k;
        same_length = pairs_length p ss qs e;
        rule_back = rule_states_back p ss qs k e;
        property_back = property_states_back p ss qs k e;
        path = pairs_path ss qs k e;
      }

  -- a list of combined states stands for two lists of states, and is a path exactly if they are paths that agree on letters
  pub product_split : (cs : List ℕ) → ListBelow (g.size * p.graph.size) cs → Split (product g letter p) g letter p cs
  product_split cs h =
      let size : ℕ = p.graph.size in
      let l : 0 < size = some_state p.graph v in
      let ss : List ℕ = rule_states p cs in
      let qs : List ℕ = property_states p cs in
      let k : ListBelow size qs = map_below (property_state p) (g.size * size) size (λ c m. mod_below size c l) cs h in
      let m : length ss ≡ length cs = length-map cs (rule_state p) in
      let n : length qs ≡ length cs = length-map cs (property_state p) in
      let b : pair_numbers p ss qs ≡ cs = pairs_back p l cs in
      record {
        rule_states_below = map_below (rule_state p) (g.size * size) g.size (λ c m. div_below g.size size c m) cs h;
        property_states_below = k;
        rule_length = m;
        property_length = n;
        back = b;
        path = ap (λ (ds : List ℕ). pathb (product g letter p) ds) (sym b) ∙ pairs_path ss qs k (m ∙ sym n);
      }

-- the edges and the paths of a combination are exactly the pairs of edges and of paths that agree on letters
pub product_combines : ProductCombines
product_combines g letter p w v =
    record {
      size = refl;
      start = refl;
      edge = product_edge g letter p w v;
      mark = product_mark g letter p;
      split = product_split g letter p w v;
      joined = product_joined g letter p w v;
    }
