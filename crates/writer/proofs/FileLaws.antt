-- Laws of the parts that a model file is put together from: 16-bit numbers as bytes, the edge and row tables, mark bytes.
use Prim.Native.Nat.{ℕ, zero, suc, ◌+◌, ◌*◌, ◌/◌, ◌%◌, ◌^◌, ◌-◌, ◌≤◌, ◌<◌}
use mathlib.Core.Path.{◌≡◌, refl, sym, ap, ◌∙◌}
use mathlib.Core.Logic.{inl, inr}
use mathlib.Core.Bool.{Bool, true, false}
use mathlib.Core.List.{List, [], ◌∷◌, ◌++◌, map, append-nil}
use native.Mathlib.Omega.{arith}
use native.Mathlib.Numerals.{add-one}
use native.Mathlib.Nat.{add-zero, one-mul, pow-suc, eq-or-lt_of_le, div-eq_of_lt, add-mul-div_right, add-mul-mod_self_right}
use lib.ListN.{length, get_or, length-append}
use lib.Pow.{pow_pos, pow-add}
use lib.Dec.{eqb}
use Rattle.lists.specs.Lists.{pick, collect, below}
use Rattle.lasso.specs.Graph.{Graph}
use Rattle.lists.proofs.BelowLaws.{below_next, map-below-length, map-below_next}
use Rattle.format.specs.Bytes.{word, bitb}
use Rattle.format.specs.Layout.{mark_bytes, total_of}
use Rattle.lists.proofs.CollectLaws.{collect-append}
use Rattle.writer.specs.File.{words16, edges_below, edge_total, header_words, row_words, worth, mark_byte, file_of}

-- each number takes two bytes
pub words16-length : (xs : List ℕ) → length (words16 xs) ≡ 2 * length xs
words16-length [] = refl
words16-length (x ∷ xs) = omega (arith, words16-length xs)

-- numbers after numbers are bytes after bytes
pub words16-append : (xs ys : List ℕ) → words16 (xs ++ ys) ≡ words16 xs ++ words16 ys
words16-append [] ys = refl
words16-append (x ∷ xs) ys = ap (λ (r : List ℕ). x % 256 ∷ x / 256 ∷ r) (words16-append xs ys)

-- the two bytes of a number give it back
pub bytes_number : (x : ℕ) → x % 256 + 256 * (x / 256) ≡ x
bytes_number x = omega arith

-- at twice a place stands the number at that place
pub word-words16 : (xs rest : List ℕ) (k : ℕ) → k < length xs → word (words16 xs ++ rest) (2 * k) ≡ get_or xs k 0
word-words16 [] rest k h = absurd (omega arith)
word-words16 (x ∷ xs) rest zero h = bytes_number x
word-words16 (x ∷ xs) rest (suc k) h =
    let e : 2 * suc k ≡ suc (suc (2 * k)) = omega arith in
    rw (e, add-one) (rw add-one at (word-words16 xs rest k (omega arith)))

-- the edges of one state more
pub edges_next : (g : Graph) (s : ℕ) → edges_below g (s + 1) ≡ edges_below g s ++ g.succs s
edges_next g s =
    ap (λ (r : List ℕ). collect g.succs r) (below_next s)
    ∙ collect-append g.succs (below s) (s ∷ [])
    ∙ ap (λ (r : List ℕ). edges_below g s ++ r) (append-nil (g.succs s))

-- the row table of one state more
pub row_words_next : (g : Graph) (s : ℕ)
    → map (λ s. length (edges_below g s)) (below (s + 1)) ≡ map (λ s. length (edges_below g s)) (below s) ++ length (edges_below g s) ∷ []
row_words_next g s = map-below_next (λ (t : ℕ). length (edges_below g t)) s

-- d states more have no fewer edges
edges_add : (g : Graph) (s d t : ℕ) → s + d ≡ t → length (edges_below g s) ≤ length (edges_below g t)
edges_add g s zero t e = let q : s ≡ t = omega arith in rw q (omega arith)
edges_add g s (suc d) t e =
    omega (arith, edges_add g (s + 1) d t (omega arith), ap length (edges_next g s), length-append (edges_below g s) (g.succs s))

-- more states have no fewer edges
pub edges-below_le : (g : Graph) (s t : ℕ) → s ≤ t → length (edges_below g s) ≤ length (edges_below g t)
edges-below_le g s t l = edges_add g s (t - s) t (omega arith)

-- the row table has an entry more than there are states
pub row_words-length : (g : Graph) → length (row_words g) ≡ g.size + 1
row_words-length g = map-below-length _ (suc g.size) ∙ sym (add-one g.size)

-- the marks take a byte for each place
pub marks_length : (g : Graph) (n : ℕ) → length (map (mark_byte g) (below n)) ≡ n
marks_length g n = map-below-length (mark_byte g) n

-- four parts, three of them numbers, take the bytes that their lengths give
parts_length :
    (xs ys zs marks : List ℕ)
    → length (words16 xs ++ words16 ys ++ words16 zs ++ marks) ≡ 2 * length xs + 2 * length ys + 2 * length zs + length marks
parts_length xs ys zs marks = simp (length-append, words16-length) (omega arith)

-- the file has the length that its states and edges give
pub file_length_is : (g : Graph) → length (file_of g) ≡ total_of g.size (edge_total g)
file_length_is g =
    let n : ℕ = g.size in
    parts_length (header_words n (edge_total g) g.start) (row_words g) (edges_below g n) (map (mark_byte g) (below (mark_bytes n)))
    ∙ omega (arith, row_words-length g, marks_length g (mark_bytes n))

-- k bits are worth less than 2 ^ k
pub worth-below : (set : ℕ → Bool) (k : ℕ) → worth set k < 2 ^ k
worth-below set zero = omega arith
worth-below set (suc k) =
    elim (set k) as (λ b. worth set k + pick b (2 ^ k) 0 < 2 ^ suc k) [
      | true ↦ omega (arith, worth-below set k, pow-suc 2 k)
      | false ↦ omega (arith, worth-below set k, pow-suc 2 k)
    ]

-- bit k of a number below 2 ^ k with a bit added on top is the added one
top_bit : (w k : ℕ) (b : Bool) → w < 2 ^ k → bitb (w + pick b (2 ^ k) 0) k ≡ b
top_bit w k true l =
    let q : (w + 2 ^ k) / 2 ^ k ≡ 1 =
    ap (λ (x : ℕ). (w + x) / 2 ^ k) (sym (one-mul (2 ^ k))) ∙ add-mul-div_right w 1 (pow_pos k) ∙ ap (λ (x : ℕ). x + 1) (div-eq_of_lt l) in
    ap (λ (x : ℕ). eqb (x % 2) 1) q
top_bit w k false l =
    let q : (w + 0) / 2 ^ k ≡ 0 = ap (λ (x : ℕ). x / 2 ^ k) (add-zero w) ∙ div-eq_of_lt l in
    ap (λ (x : ℕ). eqb (x % 2) 1) q

-- 2 ^ k added leaves binary digit j as it is, for j below k
power_above : (w j d k : ℕ) → suc d + j ≡ k → (w + 2 ^ k) / 2 ^ j % 2 ≡ w / 2 ^ j % 2
power_above w j d k e =
    let p : 2 ^ k ≡ (2 ^ d * 2) * 2 ^ j = ap (λ (x : ℕ). 2 ^ x) (sym e) ∙ pow-add 2 (suc d) j ∙ ap (λ (x : ℕ). x * 2 ^ j) (pow-suc 2 d) in
    let q : (w + 2 ^ k) / 2 ^ j ≡ w / 2 ^ j + 2 ^ d * 2 =
    ap (λ (x : ℕ). (w + x) / 2 ^ j) p ∙ add-mul-div_right w (2 ^ d * 2) (pow_pos j) in
    ap (λ (x : ℕ). x % 2) q ∙ add-mul-mod_self_right (w / 2 ^ j) (2 ^ d) 2

-- a higher bit added leaves bit j as it is
low_bit : (w j k : ℕ) (b : Bool) → j < k → bitb (w + pick b (2 ^ k) 0) j ≡ bitb w j
low_bit w j k true l = ap (λ (x : ℕ). eqb x 1) (power_above w j (k - suc j) k (omega arith))
low_bit w j k false l = ap (λ (x : ℕ). bitb x j) (add-zero w)

-- bit j of what the bits 0 to k − 1 are worth is set exactly if the test says so
pub worth_bit : (set : ℕ → Bool) (k j : ℕ) → j < k → bitb (worth set k) j ≡ set j
worth_bit set zero j l = absurd (omega arith)
worth_bit set (suc k) j l =
    elim (eq-or-lt_of_le l) [
      | inl e ↦ let q : j ≡ k = omega arith in rw q (top_bit (worth set k) k (set k) (worth-below set k))
      | inr m ↦ low_bit (worth set k) j k (set k) (omega arith) ∙ worth_bit set k j (omega arith)
    ]
