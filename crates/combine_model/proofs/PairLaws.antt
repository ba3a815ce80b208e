-- The number of a pair: s times a size plus a q below that size. Division gives the parts back.
use Prim.Native.Nat.{ℕ, zero, suc, ◌+◌, ◌*◌, ◌/◌, ◌%◌, ◌≤◌, ◌<◌}
use native.Mathlib.Omega.{arith}
use native.Mathlib.Nat.{add_comm, suc-mul, mul-le-mul_right, add-mul-div_right, mul-add-mod_self_right, div-add-mod', mod-lt, mod-eq_of_lt, div-eq_of_lt, div-lt_iff_lt-mul}
use mathlib.Core.Path.{◌≡◌, sym, ap, subst, ◌∙◌}

-- the first part of a pair comes back by division
pub pair_div : (size s q : ℕ) → q < size → (s * size + q) / size ≡ s
pair_div size s q h =
    ap (λ (x : ℕ). x / size) (add_comm (s * size) q) ∙ add-mul-div_right q s (omega arith) ∙ ap (λ (x : ℕ). x + s) (div-eq_of_lt h)
    ∙ omega arith

-- the second part of a pair is the remainder
pub pair_mod : (size s q : ℕ) → q < size → (s * size + q) % size ≡ q
pair_mod size s q h = mul-add-mod_self_right s size q ∙ mod-eq_of_lt h

-- a number is the pair of its parts
pub pair_back : (size c : ℕ) → 0 < size → c / size * size + c % size ≡ c
pair_back size c h = div-add-mod' c size

-- the second part is below the size
pub mod_below : (size c : ℕ) → 0 < size → c % size < size
mod_below size c h = mod-lt c h

-- a first part that is smaller makes the whole block of pairs smaller
pub blocks_apart : (size s t : ℕ) → s < t → s * size + size ≤ t * size
blocks_apart size s t h = subst (λ (x : ℕ). x ≤ t * size) (suc-mul s size) (mul-le-mul_right size h)

-- a pair with a smaller first part has the smaller number
pub pair_lt : (size s t q r : ℕ) → s < t → q < size → s * size + q < t * size + r
pair_lt size s t q r h k = omega (arith, blocks_apart size s t h)

-- pairs of numbers below n and below the size have numbers below n times the size
pub pair_below : (n size s q : ℕ) → s < n → q < size → s * size + q < n * size
pair_below n size s q h k = omega (arith, blocks_apart size s n h)

-- a number below a product makes the second factor more than nothing
pub size_positive : (n size c : ℕ) → c < n * size → 0 < size
size_positive n zero c h = absurd (omega arith)
size_positive n (suc size) c h = omega arith

-- the first part of a number below n times the size is below n
pub div_below : (n size c : ℕ) → c < n * size → c / size < n
div_below n size c h = (div-lt_iff_lt-mul (size_positive n size c h)).1 h

-- pairs with equal numbers have equal first parts
pub pair_first : (size s q t r : ℕ) → q < size → r < size → s * size + q ≡ t * size + r → s ≡ t
pair_first size s q t r h k e = sym (pair_div size s q h) ∙ ap (λ (x : ℕ). x / size) e ∙ pair_div size t r k

-- pairs with equal numbers have equal second parts
pub pair_second : (size s q t r : ℕ) → q < size → r < size → s * size + q ≡ t * size + r → q ≡ r
pair_second size s q t r h k e = sym (pair_mod size s q h) ∙ ap (λ (x : ℕ). x % size) e ∙ pair_mod size t r k
