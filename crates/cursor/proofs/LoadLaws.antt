-- Region 0 while a list is put into it: the entries from place 1 on stand at the front of the working table.
use Prim.Native.Nat.{ℕ, suc, ◌+◌, ◌-◌, ◌≤◌, ◌<◌}
use mathlib.Core.Path.{◌≡◌, ◌∙◌, ap}
use mathlib.Core.List.{List, [], ◌∷◌, ◌++◌}
use native.Mathlib.Omega.{arith}
use lib.ListN.{length, get_or, take, drop, set, length-append, length-drop}
use lib.Seq.{take_all, take_at, get_or-append-add, get_or-drop}
use Rattle.lasso.specs.Graph.{edges}
use Rattle.current.proofs.CurrentLaws.{front_store, front_length}

-- the table with the entries of xs from place 1 up to j in front
abbrev pub loaded_to : ℕ → List ℕ → List ℕ → List ℕ
loaded_to j xs d = take (j - 1) (drop 1 xs) ++ drop (j - 1) d

-- the table with all entries of xs from place 1 on in front
abbrev pub loaded : List ℕ → List ℕ → List ℕ
loaded xs d = drop 1 xs ++ drop (edges xs) d

-- the entry at place j is put after those before it
pub load_more : (xs d p : List ℕ) (j v : ℕ) → p ≡ loaded_to j xs d → v ≡ get_or xs j 0 → 1 ≤ j → j < length xs → j ≤ length d
    → set p (j - 1) v ≡ loaded_to (j + 1) xs d
load_more xs d p j v at_p at-v low high fits =
    let q : j ≡ 1 + (j - 1) = omega arith in
    let next : j - 1 + 1 ≡ j + 1 - 1 = omega arith in
    front_store xs d p 1 (j - 1) v at_p (at-v ∙ ap (λ (i : ℕ). get_or xs i 0) q) (omega arith) (omega arith)
    ∙ ap (λ (i : ℕ). take i (drop 1 xs) ++ drop i d) next

-- the table keeps its length
pub load_length : (xs d : List ℕ) (j : ℕ) → j ≤ length xs → j ≤ length d + 1 → length (loaded_to j xs d) ≡ length d
load_length xs d j high fits = front_length (drop 1 xs) d (j - 1) (rw length-drop (omega arith)) (omega arith)

-- at the end of the list all entries are there
pub load_done : (xs d : List ℕ) (j : ℕ) → j ≡ length xs → loaded_to j xs d ≡ loaded xs d
load_done xs d j e = rw (e, take_all (length xs - 1) (drop 1 xs) (rw length-drop (omega arith)))

-- the list from the start: it is the one that was put there
pub loaded_list : (s : ℕ) (xs w : List ℕ) (l : ℕ) → length xs ≡ suc l → get_or xs 0 0 ≡ s → s ∷ take l (loaded xs w) ≡ xs
loaded_list s [] w l long e = absurd (omega arith)
loaded_list s (x ∷ ys) w l long e =
    let rest : take l (ys ++ drop (edges (x ∷ ys)) w) ≡ ys = take_at ys (drop (edges (x ∷ ys)) w) l (omega arith) in
    cc

-- what lies past the list is as before
pub loaded_after : (xs w : List ℕ) (i : ℕ) → 1 ≤ length xs → edges xs ≤ i → get_or (loaded xs w) i 0 ≡ get_or w i 0
loaded_after [] w i some past = absurd (omega arith)
loaded_after (x ∷ ys) w i some past =
    let n : ℕ = length ys in
    let e : i ≡ n + (i - n) = omega arith in
    let q : edges (x ∷ ys) + (i - n) ≡ i = omega arith in
    ap (λ (k : ℕ). get_or (ys ++ drop (edges (x ∷ ys)) w) k 0) e
    ∙ get_or-append-add ys (drop (edges (x ∷ ys)) w) (i - n) 0
    ∙ get_or-drop (edges (x ∷ ys)) w (i - n) 0
    ∙ ap (λ (k : ℕ). get_or w k 0) q

-- the table keeps its length when the whole list is there
pub loaded_length : (xs w : List ℕ) → edges xs ≤ length w → length (loaded xs w) ≡ length w
loaded_length xs w fits = simp (length-append, length-drop) (omega arith)
