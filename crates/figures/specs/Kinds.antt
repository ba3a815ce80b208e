-- Answers as numbers: a kind, and figures that go to a table from entry 0 on.
use Rattle.std.specs.Prelude.{ℕ, ◌≡◌, List, [], ◌∷◌, Result, Ok, Err, eqb}
use Rattle.std.proofs.Math.Option.{Option, some, none}
use Rattle.lists.specs.Lists.{pick}
use Rattle.lasso.specs.Rounds.{Record}
use Rattle.outcomes.specs.Outcome.{Outcome, refused, answered}
use Rattle.outcomes.specs.Tables.{written}

-- A kind of answer, or the number of a refusal in its place, with its figures in order.
pub record Report : Type 0 where
  pub kind : ℕ
  pub figures : List ℕ

-- whether there is one, a best length or a place: 0 for none, else 1
abbrev pub is_there : Option ℕ → ℕ
is_there none = 0
is_there (some x) = 1

-- the best length: 0 for none
abbrev pub best_figure : Option ℕ → ℕ
best_figure none = 0
best_figure (some l) = l

-- the three figures of a record: the rounds done, whether there is a best length, and that length
abbrev pub record_figures : Record → List ℕ
record_figures rec = rec.done ∷ is_there rec.best ∷ best_figure rec.best ∷ []

-- the record that three figures stand for: every `has` but 0 says that there is a best length
abbrev pub record_given : (done has best : ℕ) → Record
record_given done has best = record { done = done; best = pick (eqb has 0) none (some best) }

-- a refusal: its number stands for the kind, and there are no figures
abbrev pub refusal : ℕ → Report
refusal n = record { kind = n; figures = [] }

-- which kind the report of a result has: the number that its error tells, or the kind of what is reported of its answer
abbrev pub KindTold : {A E : Type 0} → (tells : E → ℕ → Type 0) → (A → Report) → Result A E → ℕ → Type 0
KindTold tells report (Err e) kind = tells e kind
KindTold tells report (Ok a) kind = kind ≡ (report a).kind

-- the table after the report of a result: nothing goes there for an error
abbrev pub figures_told : {A E : Type 0} → List ℕ → (A → Report) → Result A E → List ℕ
figures_told out report (Err e) = out
figures_told out report (Ok a) = written (some (report a).figures) out

-- a combination or a distance call: 107 written (bytes of the one, entries of the other)
abbrev pub written_report : Outcome ℕ → Report
written_report (refused n) = refusal n
written_report (answered count) = record { kind = 107; figures = count ∷ [] }

-- a table afterwards: the figures from entry 0 on; later entries do not change
abbrev pub figures_in : List ℕ → Report → List ℕ
figures_in out r = written (some r.figures) out
