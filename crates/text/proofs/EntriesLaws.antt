-- Entries of a list written one after another: one entry more, and the room it takes.
use Prim.Native.Nat.{ℕ, ◌+◌, ◌≤◌, ◌<◌}
use mathlib.Core.Path.{◌≡◌, sym, ap}
use mathlib.Core.List.{List}
use native.Mathlib.Omega.{arith}
use lib.ListN.{length, get_or, take}
use lib.Seq.{take_all}
use Rattle.lists.specs.Lists.{collect}
use Rattle.lists.proofs.CollectLaws.{collect_next, collect_room}
use Rattle.text.specs.declared.Output.{Output}
use Rattle.text.specs.Writing.{Wrote, Adds, HasRoom}
use Rattle.text.proofs.WroteLaws.{wrote_then, wrote_as, wrote_length, adds_then, adds_as}

module _ {A : Type 0} (f : A → List ℕ) where
  -- a writer of the next entry, after writers of those before it
  pub wrote_next : {t t' t'' : List ℕ} {at next next' : ℕ} (ss : List A) (i : ℕ) (d s : A) → i < length ss → s ≡ get_or ss i d
      → Wrote t at (collect f (take i ss)) t' next → Wrote t' next (f s) t'' next'
      → Wrote t at (collect f (take (i + 1) ss)) t'' next'
  wrote_next ss i d s less e w v =
      wrote_as (sym (collect_next f ss i d less)) (wrote_then w (wrote_as (ap f e) v))

  -- the next entry has room in the text where all have
  pub next_room : {t t' : List ℕ} {at next : ℕ} (ss : List A) (i : ℕ) (d s : A) → i < length ss → s ≡ get_or ss i d
      → at + length (collect f ss) ≤ length t → Wrote t at (collect f (take i ss)) t' next
      → next + length (f s) ≤ length t'
  next_room ss i d s less e room w =
      omega (arith, collect_room f ss i d less, ap (λ (x : A). length (f x)) e, wrote_length w, w.place)

  -- all entries are written once the first i are, if there are no more
  pub wrote_all : {t t' : List ℕ} {at next : ℕ} (ss : List A) (i : ℕ) → length ss ≤ i
      → Wrote t at (collect f (take i ss)) t' next → Wrote t at (collect f ss) t' next
  wrote_all ss i all w = wrote_as (ap (λ (r : List A). collect f r) (take_all i ss all)) w

  -- the next entry added to an output, after those before it
  pub adds_next : {o o' o'' : Output} (ss : List A) (i : ℕ) (d s : A) → i < length ss → s ≡ get_or ss i d
      → Adds o (collect f (take i ss)) o' → Adds o' (f s) o'' → Adds o (collect f (take (i + 1) ss)) o''
  adds_next ss i d s less e w v =
      adds_as (sym (collect_next f ss i d less)) (adds_then w (adds_as (ap f e) v))

  -- the next entry has room in the output where all have
  pub entry_room : {o o' : Output} (ss : List A) (i : ℕ) (d s : A) → i < length ss → s ≡ get_or ss i d
      → HasRoom o (length (collect f ss)) → Adds o (collect f (take i ss)) o' → HasRoom o' (length (f s))
  entry_room ss i d s less e room w = next_room ss i d s less e room w.wrote
