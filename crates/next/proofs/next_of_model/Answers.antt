-- `next_of_model` meets its contract: without an accepting path 13, else what next answers where the length is
-- known.
use mathlib.Core.Path.{◌≡◌, sym, ◌∙◌, ap, subst}
use mathlib.Core.Option.{none}
use lib.ListN.{length}
use Rattle.lasso.specs.Graph.{Graph}
use Rattle.lasso.specs.Roll.{least_length}
use Rattle.lasso.specs.Values.{length_of}
use Rattle.model.specs.Model.{graph_of}
use Rattle.model.proofs.Laws.{valid_graph}
use Rattle.outcomes.proofs.OutcomeLaws.{call_answer}
use Rattle.gate.proofs.GateLaws.{valid_room}
use Rattle.next.proofs.NextLaws.{not_shortest_none, next_not_shortest}
use Rattle.next.proofs.next_of_model.Goals as goal

pub returns-in-None : goal.returns-in-None
returns-in-None c =
    let a = c.args in
    let v = c.requires.valid in
    let none-least : least_length (graph_of a.file.now a.h.table) ≡ none =
    subst (λ (g : Graph). least_length g ≡ none) (valid_graph v) (c.all_rounds.ensures.says.least_is ∙ ap length_of c.in-None.is) in
    let none-shortest = not_shortest_none (graph_of a.file.now a.h.table) a.earlier.now none-least in
    let is = next_not_shortest a.file.now a.h.table v.accepted v.table_limit a.earlier.now (length a.answer.now) (length a.work.now) (valid_room v c.requires.states_in_bounds) none-shortest in record {
      outcome = sym is.outcome_is;
      answer = sym (call_answer a.answer.now is);
      kept = c.all_rounds.ensures.kept;
    }
