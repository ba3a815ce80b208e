-- What happens where `out`, the table for the figures, is too short: 100, and no table changes.
use Rattle.std.specs.Prelude.{ℕ, Bool, List, [], length, ltb}
use Rattle.lists.specs.Lists.{pick}
use Rattle.gate.specs.Gate.{work_of}
use Rattle.figures.specs.Kinds.{Report}

-- 100, with no figures: a table that every answer needs is too short
abbrev pub out_too_short : Report
out_too_short = record { kind = 100; figures = [] }

-- so many entries are too few for `out`
abbrev pub too_few : ℕ → Bool
too_few entries = ltb entries 4

-- `out` has fewer than 4 entries
abbrev pub out_short : List ℕ → Bool
out_short out = too_few (length out)

-- what happens with `out` as it is: the one thing if it has fewer than 4 entries, else the other
abbrev pub if_short : {A : Type 0} → List ℕ → A → A → A
if_short out short enough = pick (out_short out) short enough

-- the working table after step, search and next by mark table t, and after a distance call, which is as one by table 0:
-- untouched if `out` is too short
abbrev pub work_after_call : List ℕ → (t : ℕ) → (w out : List ℕ) → List ℕ
work_after_call f t w out = if_short out w (work_of f t w)
