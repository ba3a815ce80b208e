-- The numbers of all pairs of two lists: which they are, and that they ascend.
use Prim.Native.Nat.{ℕ, ◌+◌, ◌*◌, ◌<◌}
use native.Mathlib.Omega.{arith}
use mathlib.Core.Path.{◌≡◌, subst}
use mathlib.Core.Bool.{Bool, ◌&&◌}
use mathlib.Core.List.{List, map, Memᴰ}
use lib.Dec.{T}
use Rattle.lists.specs.Lists.{memb, keep, collect, ascendingb}
use Rattle.lists.proofs.Tests.{fst, snd, both, same_tests, memb_mem, mem_memb, keep_mem, mem_keep}
use Rattle.lists.proofs.Sorted.{All, all_of_mem, all_map, sorted_map, sorted_keep, sorted_collect}
use Rattle.lists.proofs.Ascending.{ascends, ascends_test}
use Rattle.lists.proofs.CollectLaws.{mem_collect, collect_mem}
use Rattle.combine_model.proofs.PairLaws.{pair_lt, pair_first, pair_second}

-- the numbers of the pairs of an entry of ss and one of qs that passes the test
abbrev pub pairs : (size : ℕ) → (ℕ → Bool) → (ss qs : List ℕ) → List ℕ
pairs size f ss qs = collect (λ s. map (λ q. s * size + q) (keep f qs)) ss

module _ (size : ℕ) (f : ℕ → Bool) (ss qs : List ℕ) (low : (q : ℕ) → T (memb q qs) → q < size) where
  -- each number among them is a pair of entries
  pub pairs_parts : (c : ℕ) → Memᴰ c (pairs size f ss qs)
      → (s : ℕ) × T (memb s ss) × ((q : ℕ) × T (memb q qs) × T (f q) × (s * size + q ≡ c))
  pairs_parts c m =
      let r : (s : ℕ) × Memᴰ s ss × Memᴰ c (map (λ q. s * size + q) (keep f qs)) =
      mem_collect (λ s. map (λ q. s * size + q) (keep f qs)) ss c m in
      let s : ℕ = r.0 in
      let k : (q : ℕ) × Memᴰ q (keep f qs) × (s * size + q ≡ c) = mathlib.Core.List.Memᴰ.of_map (λ q. s * size + q) (keep f qs) r.2 in
      let e : Memᴰ k.0 qs × T (f k.0) = keep_mem f qs k.1 in
      (s, mem_memb r.1, (k.0, mem_memb e.0, e.1, k.2))

  -- a pair among them consists of entries, the second of which passes the test
  pairs_found : (s q : ℕ) → q < size → T (memb (s * size + q) (pairs size f ss qs)) → T (memb s ss && (memb q qs && f q))
  pairs_found s q l h =
      let r : (t : ℕ) × T (memb t ss) × ((u : ℕ) × T (memb u qs) × T (f u) × (t * size + u ≡ s * size + q)) =
      pairs_parts (s * size + q) (memb_mem (s * size + q) (pairs size f ss qs) h) in
      let t : ℕ = r.0 in
      let u : ℕ = r.2.0 in
      let e : t ≡ s = pair_first size t u s q (low u r.2.1) l r.2.3 in
      let d : u ≡ q = pair_second size t u s q (low u r.2.1) l r.2.3 in
      both (memb s ss) (memb q qs && f q) (subst (λ (x : ℕ). T (memb x ss)) e r.1)
      (both (memb q qs) (f q) (subst (λ (x : ℕ). T (memb x qs)) d r.2.1) (subst (λ (x : ℕ). T (f x)) d r.2.2))

  -- a pair of entries, the second of which passes the test, is among them
  pairs_hold : (s q : ℕ) → T (memb s ss && (memb q qs && f q)) → T (memb (s * size + q) (pairs size f ss qs))
  pairs_hold s q h =
      let k : T (memb q qs && f q) = snd (memb s ss) (memb q qs && f q) h in
      mem_memb (collect_mem (λ s. map (λ q. s * size + q) (keep f qs)) ss s (s * size + q)
      (memb_mem s ss (fst (memb s ss) (memb q qs && f q) h))
      (mathlib.Core.List.Memᴰ.map (λ q. s * size + q) (mem_keep f (memb_mem q qs (fst (memb q qs) (f q) k)) (snd (memb q qs) (f q) k))))

  -- a pair is among them exactly if its parts are entries and the second passes the test
  pub pairs_memb : (s q : ℕ) → q < size → memb (s * size + q) (pairs size f ss qs) ≡ (memb s ss && (memb q qs && f q))
  pairs_memb s q l =
      same_tests (memb (s * size + q) (pairs size f ss qs)) (memb s ss && (memb q qs && f q)) (pairs_found s q l) (pairs_hold s q)

  -- every kept entry is below the size
  kept_low : (q : ℕ) → Memᴰ q (keep f qs) → q < size
  kept_low q m = low q (mem_memb (keep_mem f qs m).0)

  -- each number with first part s is less than each with the greater first part t
  blocks_ascend : (s t : ℕ) → s < t
      → All (λ c. All (λ d. c < d) (map (λ q. t * size + q) (keep f qs))) (map (λ q. s * size + q) (keep f qs))
  blocks_ascend s t l =
      all_map (λ c. All (λ d. c < d) (map (λ q. t * size + q) (keep f qs))) (λ q. s * size + q) (keep f qs)
      (all_of_mem (λ q. All (λ d. s * size + q < d) (map (λ q. t * size + q) (keep f qs))) (keep f qs)
      (λ q m. all_map (λ d. s * size + q < d) (λ r. t * size + r) (keep f qs)
      (all_of_mem (λ r. s * size + q < t * size + r) (keep f qs) (λ r n. pair_lt size s t q r l (kept_low q m)))))

  -- the numbers of the pairs of two ascending lists ascend
  pub pairs_ascend : T (ascendingb ss) → T (ascendingb qs) → T (ascendingb (pairs size f ss qs))
  pairs_ascend a b =
      ascends_test (pairs size f ss qs)
      (sorted_collect (λ (x y : ℕ). x < y) (λ (x y : ℕ). x < y) (λ s. map (λ q. s * size + q) (keep f qs)) ss
      (λ s. sorted_map (λ (x y : ℕ). x < y) (λ (x y : ℕ). x < y) (λ q. s * size + q) (keep f qs) (λ x y h. omega arith)
      (sorted_keep (λ (x y : ℕ). x < y) f qs (ascends qs b)))
      blocks_ascend (ascends ss a))
