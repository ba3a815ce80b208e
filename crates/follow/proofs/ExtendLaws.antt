-- Which lists begin some lasso of l edges: each but a whole lasso goes on by a successor of its last state, and the roll
-- itself begins with the start.
use Prim.Native.Nat.{ℕ, suc, ◌≤◌}
use native.Mathlib.Omega.{arith}
use mathlib.Core.Path.{◌≡◌, refl, ap, subst}
use mathlib.Core.Option.{some}
use mathlib.Core.List.{List, [], ◌∷◌, ◌++◌, append-nil}
use lib.ListN.{length, get_or, length-append}
use lib.Seq.{append_snoc}
use lib.Dec.{T, eqb, eqb→eq}
use Rattle.lasso.specs.Graph.{Graph, edgeb, pathb, edges, lassob}
use Rattle.lasso.specs.Roll.{least_length, of_length}
use Rattle.lists.proofs.Tests.{fst, both, parts, non_empty_some}
use Rattle.lasso.proofs.Walk.{next, done, run_append, run_path, path_run, path_tail}
use Rattle.lasso.specs.Extends.{Extends}
use Rattle.lasso.proofs.PlaceByPlace.{lasso_extends}
use Rattle.lasso.proofs.RollLaws.{least_length_occurs, Occurs, roll_of, roll_lasso, lasso_length}
use Rattle.lists.proofs.Least.{is_least_has}

-- a path goes on along an edge from its last state
pub path_snoc : (g : Graph) (x : ℕ) (xs : List ℕ) (t : ℕ) → T (pathb g (x ∷ xs)) → T (edgeb g (get_or (x ∷ xs) (length xs) 0) t) → T (pathb g (x ∷ xs ++ t ∷ []))
path_snoc g x xs t h e = run_path (run_append (path_run g x xs h) (next e (done refl)))

-- a path's state after its first ones is a successor of their last
pub path_edge : (g : Graph) (x : ℕ) (xs : List ℕ) (t : ℕ) (us : List ℕ) → T (pathb g (x ∷ xs ++ t ∷ us)) → T (edgeb g (get_or (x ∷ xs) (length xs) 0) t)
path_edge g x [] t us h = fst (edgeb g x t) (pathb g (t ∷ us)) h
path_edge g x (y ∷ ys) t us h = path_edge g y ys t us (path_tail g x (y ∷ ys ++ t ∷ us) h)

-- a path's beginning is a path
pub path_begin : (g : Graph) (xs us : List ℕ) → T (pathb g (xs ++ us)) → T (pathb g xs)
path_begin g [] us h = tt
path_begin g (x ∷ []) us h = tt
path_begin g (x ∷ y ∷ ys) us h =
    let e : T (edgeb g x y) = fst (edgeb g x y) (pathb g (y ∷ ys ++ us)) h in
    let r : T (pathb g (y ∷ ys)) = path_begin g (y ∷ ys) us (path_tail g x (y ∷ ys ++ us) h) in
    both (edgeb g x y) (pathb g (y ∷ ys)) e r

-- the path of a lasso
pub lasso_path : (g : Graph) (xs : List ℕ) → T (lassob g xs) → T (pathb g xs)
lasso_path g xs h = search parts

-- the first state of a lasso is the start
lasso_start : (g : Graph) (xs : List ℕ) → T (lassob g xs) → get_or xs 0 0 ≡ g.start
lasso_start g xs h = let e : T (eqb (get_or xs 0 0) g.start) = search parts in eqb→eq (get_or xs 0 0) g.start e

-- Lists that begin some lasso of l edges.
module _ (g : Graph) (l : ℕ) where
  -- what begins a lasso is a path
  pub extends_path : (q : List ℕ) → Extends g l q → T (pathb g q)
  extends_path q (us, h, e) = path_begin g q us (lasso_path g (q ++ us) h)

  -- a state that alone begins a lasso is the start
  pub extends_start : (y : ℕ) → Extends g l (y ∷ []) → y ≡ g.start
  extends_start y (us, h, e) = lasso_start g (y ∷ us) h

  -- a state after which a list still begins a lasso is a successor of the list's last state
  pub extends_edge : (x : ℕ) (xs : List ℕ) (t : ℕ) → Extends g l (x ∷ xs ++ t ∷ []) → T (edgeb g (get_or (x ∷ xs) (length xs) 0) t)
  extends_edge x xs t h = path_edge g x xs t [] (extends_path (x ∷ xs ++ t ∷ []) h)

  -- what begins a lasso and has at most l entries goes on by some state
  pub extends_step : (q : List ℕ) → length q ≤ l → Extends g l q → (t : ℕ) × Extends g l (q ++ t ∷ [])
  extends_step q short ([], h, e) = absurd (omega (arith, lasso_length g l (q ++ []) h e, ap length (append-nil q)))
  extends_step q short (t ∷ us, h, e) = (t, (us, rw (append_snoc q t us) h, rw (append_snoc q t us) e))

  -- what begins a lasso and has l + 1 entries is that lasso
  pub extends_whole : (q : List ℕ) → length q ≡ suc l → Extends g l q → T (lassob g q) × (edges q ≡ l)
  extends_whole q long ([], h, e) = (rw (append-nil q) at h, rw (append-nil q) at e)
  extends_whole q long (t ∷ us, h, e) = absurd (omega (arith, lasso_length g l (q ++ t ∷ us) h e, length-append q (t ∷ us)))

-- a list of the roll begins with the start, so the start begins a lasso of the least length
pub start_extends : (g : Graph) (l : ℕ) → least_length g ≡ some l → Extends g l (g.start ∷ [])
start_extends g l e =
    let o : Occurs g l = is_least_has (Occurs g) (least_length g) (least_length_occurs g) l e in
    let (xs, m) = non_empty_some (of_length g l) o.2 in
    let (h, long) = roll_lasso g l e xs (rw (roll_of g l e) m) in
    subst (λ (y : ℕ). Extends g l (y ∷ [])) (lasso_start g xs h) (lasso_extends g l xs h long 0 (omega (arith, lasso_length g l xs h long)))
