-- The list completed place by place, with the least state that may stand at each.
use Prim.Native.Nat.{ℕ, suc, ◌+◌, ◌*◌, ◌≤◌, ◌<◌}
use native.Mathlib.Omega.{arith}
use mathlib.Core.Path.{◌≡◌, refl, sym, ◌∙◌, ap, subst}
use mathlib.Core.Logic.{inl, inr}
use mathlib.Core.List.{List, [], ◌∷◌, ◌++◌}
use lib.ListN.{length, get_or, take, set, length-append, length-take, get_or-append}
use lib.Seq.{take-append-le, take_at, get_or_at, take-set-le, length-take-le}
use lib.Dec.{T}
use Rattle.lasso.specs.Graph.{Graph, edges, lassob}
use Rattle.lists.proofs.Tests.{lt_or_ge}
use Rattle.lasso.specs.Extends.{Extends}
use Rattle.model.specs.declared.Header.{Header}
use Rattle.model.specs.Model.{graph_in}
use Rattle.model.proofs.Laws.{Sizes, valid_sizes}
use Rattle.table.specs.Changes.{SameOutside}
use Rattle.current.specs.Current.{list_in}
use Rattle.follow.specs.Follow.{Prepared}
use Rattle.follow.specs.Places.{LeastFollower, Kept, Completed}
use Rattle.follow.proofs.ExtendLaws.{extends_whole}
use Rattle.follow.proofs.PlacesTable.{same_take, length_fits, kept_refl, kept_trans, prepared_kept, stored_kept, stored_take}

-- at each place of the list after a given one the least state stands that may stand there
abbrev pub LeastAfter : Graph → ℕ → ℕ → List ℕ → Type 0
LeastAfter g l from xs = (i y : ℕ) → from < i → i < length xs → y < get_or xs i 0 → Extends g l (take i xs ++ y ∷ []) → ⊥

-- the list made longer by the least state that may stand there
least_snoc : (g : Graph) (l from : ℕ) (xs : List ℕ) (t : ℕ) → LeastAfter g l from xs → ((y : ℕ) → y < t → Extends g l (xs ++ y ∷ []) → ⊥) → LeastAfter g l from (xs ++ t ∷ [])
least_snoc g l from xs t before here i y p q less x =
    elim (lt_or_ge i (length xs)) [
      | inl b ↦
          let short : i ≤ length xs = omega arith in
          before i y p b (rw (get_or-append xs (t ∷ []) 0 i b) at less) (subst (λ (zs : List ℕ). Extends g l (zs ++ y ∷ [])) (take-append-le i xs (t ∷ []) short) x)
      | inr b ↦
          let e : length xs ≡ i = omega (arith, length-append xs (t ∷ [])) in
          here y (rw (get_or_at xs t [] 0 i e) at less) (subst (λ (zs : List ℕ). Extends g l (zs ++ y ∷ [])) (take_at xs (t ∷ []) i e) x)
    ]

-- the list was completed after place `from` as far as to a place: what is needed to go on, and what is kept
pub record Completing (f : List ℕ) (h : Header) (l from : ℕ) (w w' : List ℕ) (place : ℕ) : Type 0 where
  pub prepared : Prepared f h w' l
  pub kept : Kept h.states w w'
  pub from_le : from ≤ place
  pub within : place ≤ l
  pub prefix : take from w' ≡ take from w
  pub extends : Extends (graph_in f h) l (list_in (graph_in f h).start w' place)
  pub least : LeastAfter (graph_in f h) l from (list_in (graph_in f h).start w' place)

-- at first no place is completed
pub completing_none : {f w : List ℕ} {h : Header} {l from : ℕ} → Prepared f h w l → from ≤ l → Extends (graph_in f h) l (list_in (graph_in f h).start w from) → Completing f h l from w w from
completing_none {f} {w} {h} {l} {from} p within x =
    record {
      prepared = p;
      kept = kept_refl h.states w;
      from_le = omega arith;
      within = within;
      prefix = refl;
      extends = x;
      least = λ i y a b. absurd (omega (arith, length-take from w));
    }

-- the least state that may stand at the next place, stored there, completes one place more
pub completing_more : {f w w' v : List ℕ} {h : Header} {l from place : ℕ} (t : ℕ) → Completing f h l from w w' place → place < l
    → SameOutside (2 * h.states) (6 * h.states) w' v → LeastFollower (graph_in f h) l (list_in (graph_in f h).start w' place) 0 t → Completing f h l from w (set v place t) (place + 1)
completing_more {f} {w} {w'} {v} {h} {l} {from} {place} t c inside same o =
    record {
      prepared = prepared_kept c.prepared change;
      kept = kept_trans c.kept change;
      from_le = omega (arith, c.from_le);
      within = omega arith;
      prefix = take-set-le from v place t c.from_le ∙ same_take h.states from same (omega (arith, c.from_le, length_fits c.prepared)) ∙ c.prefix;
      extends = subst (λ (xs : List ℕ). Extends (graph_in f h) l ((graph_in f h).start ∷ xs)) (sym longer) o.extends;
      least = subst (λ (xs : List ℕ). LeastAfter (graph_in f h) l from ((graph_in f h).start ∷ xs)) (sym longer)
          (least_snoc (graph_in f h) l from (list_in (graph_in f h).start w' place) t c.least (λ y. o.least y (omega arith)));
    }
  where
    change : Kept h.states w' (set v place t)
    change = stored_kept t c.prepared inside same

    longer : take (place + 1) (set v place t) ≡ take place w' ++ t ∷ []
    longer = stored_take t c.prepared inside same

-- a list completed as far as to its last place is completed
pub completing_all : {f w w' : List ℕ} {h : Header} {l from place : ℕ} → Completing f h l from w w' place → l ≤ place → Completed (graph_in f h) l from w w'
completing_all {f} {w} {w'} {h} {l} {from} {place} c all =
    record {
      kept = c.kept;
      prefix = c.prefix;
      lasso = whole.0;
      length = whole.1;
      least = λ i y a b. least i y (omega arith) (omega (arith, long));
    }
  where
    sizes : Sizes f h
    sizes = valid_sizes c.prepared.valid

    last : place ≡ l
    last = omega (arith, c.within)

    long : length (list_in (graph_in f h).start w' l) ≡ suc l
    long = ap suc (length-take-le l w' (omega (arith, length_fits c.prepared, c.prepared.room)))

    whole : T (lassob (graph_in f h) (list_in (graph_in f h).start w' l)) × (edges (list_in (graph_in f h).start w' l) ≡ l)
    whole = extends_whole (graph_in f h) l (list_in (graph_in f h).start w' l) long (subst (λ (p : ℕ). Extends (graph_in f h) l (list_in (graph_in f h).start w' p)) last c.extends)

    least : LeastAfter (graph_in f h) l from (list_in (graph_in f h).start w' l)
    least = subst (λ (p : ℕ). LeastAfter (graph_in f h) l from (list_in (graph_in f h).start w' p)) last c.least
