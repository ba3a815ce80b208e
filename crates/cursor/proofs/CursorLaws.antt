-- What the first list, a given list and a step of the listing say in terms of places of the roll.
use Prim.Native.Nat.{ℕ}
use mathlib.Core.Path.{◌≡◌, sym, ◌∙◌, subst}
use mathlib.Core.Bool.{Bool, true, false}
use mathlib.Core.List.{List, [], head?, Memᴰ}
use mathlib.Core.Option.{some, none}
use native.Mathlib.Omega.{arith}
use lib.ListN.{length}
use Rattle.lists.proofs.ElemLaws.{mem_get_d}
use Rattle.lasso.specs.Roll.{least_length, roll}
use Rattle.lasso.specs.Following.{following}
use Rattle.model.specs.declared.Header.{Header}
use Rattle.model.specs.Model.{graph_in}
use Rattle.candidates.specs.Promises.{RoundsReady}
use Rattle.stems.specs.Stems.{StemEntries}
use Rattle.current.specs.Current.{list_in}
use Rattle.follow.specs.Follow.{Prepared}
use Rattle.follow.specs.Places.{Kept, Replaced}
use Rattle.follow.proofs.PlacesTable.{prepared_kept}
use Rattle.cursor.specs.Cursor.{At, PlacedAt, MovedOn}
use Rattle.cursor.proofs.RollPlaces.{stands_first, stands_next, stands_last, follows_next, follows_none}

-- the stems are there: the table is prepared
pub prepared_start : {f : List ℕ} {h : Header} {l : ℕ} {w w' : List ℕ} → RoundsReady f h w → least_length (graph_in f h) ≡ some l
    → StemEntries (graph_in f h) l w' → length w' ≡ length w → Prepared f h w' l
prepared_start r e stems same =
    record { valid = r.valid; room = omega (arith, r.room); least = e; stems = stems }

-- the table is at the first list
pub at_first : {f : List ℕ} {h : Header} {l : ℕ} {w : List ℕ} → Prepared f h w l
    → head? (roll (graph_in f h)) ≡ some (list_in (graph_in f h).start w l) → At f h l 0 w
at_first p e = record { prepared = p; current = stands_first e }

-- the table is at the place of a list of the roll
pub placed_at : {f : List ℕ} {h : Header} {l : ℕ} {w : List ℕ} (xs : List ℕ) → Prepared f h w l → list_in (graph_in f h).start w l ≡ xs
    → Memᴰ xs (roll (graph_in f h)) → PlacedAt f h l xs w
placed_at {f} {h} xs p e m =
    let (i, low, at) = mem_get_d (roll (graph_in f h)) [] m in
    record {
      placed = record { place = i; at = record { prepared = p; current = record { place_in = low; list_at = at ∙ sym e } } };
      list_is = e;
    }

-- a step of the listing is one to the next place, or there is none
pub moved_on : {f : List ℕ} {h : Header} {l : ℕ} {w w' : List ℕ} (r : Bool) → Replaced (graph_in f h) l w w' r
    → Kept h.states w w' → MovedOn f h l w w' r
moved_on {w' = w'} true a kept place at =
    record { prepared = prepared_kept at.prepared kept; current = stands_next w' at.current a }
moved_on false a kept place at = stands_last at.current a.0

-- from the place of a list to the next: the list there follows
pub moved_some : {f : List ℕ} {h : Header} {l : ℕ} {xs w : List ℕ} (w' : List ℕ) (r : Bool) → PlacedAt f h l xs w
    → MovedOn f h l w w' r → r ≡ true → following xs (roll (graph_in f h)) ≡ some (list_in (graph_in f h).start w' l)
moved_some {f} {h} {l} w' true p m e =
    let at = p.placed.at in
    subst (λ (zs : List ℕ). following zs (roll (graph_in f h)) ≡ some (list_in (graph_in f h).start w' l)) p.list_is
    (follows_next w' at.current (m p.placed.place at).current)
moved_some w' false p m e = let z : ◌≡◌ {A = ℕ} 0 1 = cc in absurd (omega arith)

-- no place is left: nothing follows
pub moved_none : {f : List ℕ} {h : Header} {l : ℕ} {xs w : List ℕ} (w' : List ℕ) (r : Bool) → PlacedAt f h l xs w
    → MovedOn f h l w w' r → r ≡ false → following xs (roll (graph_in f h)) ≡ none
moved_none w' true p m e = let z : ◌≡◌ {A = ℕ} 0 1 = cc in absurd (omega arith)
moved_none {f} {h} w' false p m e =
    let at = p.placed.at in
    subst (λ (zs : List ℕ). following zs (roll (graph_in f h)) ≡ none) p.list_is
    (follows_none at.current (m p.placed.place at))
