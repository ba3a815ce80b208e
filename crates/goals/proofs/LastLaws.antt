-- The last place with a property: of a list that grows or shrinks, and found by looking back from the end.
use Prim.Native.Nat.{ℕ, ◌+◌, ◌-◌, ◌≤◌}
use native.Mathlib.Omega.{arith}
use mathlib.Core.Path.{◌≡◌, subst}
use mathlib.Core.Logic.{inl, inr}
use Rattle.lists.proofs.Tests.{lt_or_ge}
use Rattle.goals.specs.Goals.{LastOf}

-- the property holds at the next place
pub last_here : (P : ℕ → Type 0) (place r : ℕ) → r ≡ place + 2 → P (place + 1) → LastOf P (place + 1) r
last_here P place r e x =
    record {
      low = omega arith;
      is = λ b q. let z : place + 1 ≡ b = omega arith in subst P z x;
      last = λ k i y. omega arith;
    }

-- it does not
pub last_skip : (P : ℕ → Type 0) (place r : ℕ) → LastOf P place r → (P (place + 1) → ⊥) → LastOf P (place + 1) r
last_skip P place r o never =
    record {
      low = omega (arith, o.low);
      is = o.is;
      last = λ k i y. elim (lt_or_ge place k) [
        | inl j ↦ let z : k ≡ place + 1 = omega arith in absurd (never (subst P z y))
        | inr j ↦ o.last k j y
      ];
    }

-- up to an earlier place
pub last_down : (P : ℕ → Type 0) (place r : ℕ) → LastOf P (place + 1) r → r ≤ place + 1 → LastOf P place r
last_down P place r o low = record { low = low; is = o.is; last = λ k i y. o.last k (omega arith) y }

-- for an equivalent property
pub last_iff : (P Q : ℕ → Type 0) (place r : ℕ) → ((k : ℕ) → k ≤ place → P k → Q k) → ((k : ℕ) → k ≤ place → Q k → P k) → LastOf P place r → LastOf Q place r
last_iff P Q place r to back o =
    record {
      low = o.low;
      is = λ b e. to b (omega (arith, o.low)) (o.is b e);
      last = λ k i y. o.last k i (back k i y);
    }

-- no place from k on has the property
abbrev pub NoneFrom : (ℕ → Type 0) → ℕ → ℕ → Type 0
NoneFrom P place k = (r : ℕ) → k ≤ r → r ≤ place → P r → ⊥

-- the place before has it
pub scan_found : (P : ℕ → Type 0) (place k : ℕ) → 1 ≤ k → k ≤ place + 1 → NoneFrom P place k → P (k - 1) → LastOf P place k
scan_found P place k low high none-on x =
    record {
      low = high;
      is = λ b e. let z : k - 1 ≡ b = omega arith in subst P z x;
      last = λ r i y. elim (lt_or_ge r k) [ inl j ↦ j | inr j ↦ absurd (none-on r j i y) ];
    }

-- the place before does not have it
pub scan_more : (P : ℕ → Type 0) (place k : ℕ) → 1 ≤ k → NoneFrom P place k → (P (k - 1) → ⊥) → NoneFrom P place (k - 1)
scan_more P place k low none-on never r i j y =
    elim (lt_or_ge r k) [
      | inl q ↦ let z : r ≡ k - 1 = omega arith in never (subst P z y)
      | inr q ↦ none-on r q j y
    ]

-- no place has it
pub scan_none : (P : ℕ → Type 0) (place k r : ℕ) → r ≡ 0 → k ≤ 0 → NoneFrom P place k → LastOf P place r
scan_none P place k r e z none-on =
    record { low = omega arith; is = λ b q. absurd (omega arith); last = λ x i y. absurd (none-on x (omega arith) i y) }
