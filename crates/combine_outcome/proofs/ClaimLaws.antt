-- The file that a combination writes is accepted and holds the combined model; the rule's marks do not matter; the example.
use Prim.Native.Nat.{ℕ, ◌≤◌}
use mathlib.Core.Path.{◌≡◌, refl, sym, ap, ap₂, subst, fun_ext, ◌∙◌}
use mathlib.Core.Bool.{false}
use mathlib.Core.List.{List}
use mathlib.Core.Option.{Option, some, none}
use native.Mathlib.Omega.{arith}
use lib.ListN.{length, drop}
use lib.Dec.{ltb, nltb→le}
use Rattle.lasso.specs.Graph.{Graph}
use Rattle.format.specs.Layout.{states, start_of, stays_word}
use Rattle.format.specs.Rules.{rules, Accepted}
use Rattle.lists.proofs.Fails.{neither_l, neither_r}
use Rattle.format.proofs.Reasons.{none_clear, append_clear, clear_append}
use Rattle.model.specs.Model.{graph_of}
use Rattle.model.proofs.Laws.{accepted_well_formed}
use Rattle.outcomes.specs.Outcome.{Outcome, answered, outcome}
use Rattle.outcomes.specs.Tables.{unless_refused, written}
use Rattle.writer.specs.File.{edge_total, file_of}
use Rattle.writer.specs.Holds.{Writable}
use Rattle.writer.proofs.ReadLaws.{file_stays}
use Rattle.writer.proofs.HoldsLaws.{file_laid_out, files_hold}
use Rattle.combine_model.specs.Product.{product}
use Rattle.combine_model.specs.Paths.{Combines}
use Rattle.combine_model.proofs.ProductLaws.{product_well_formed, product_marks}
use Rattle.combine_model.proofs.PathsLaws.{product_combines}
use Rattle.property.specs.Property.{property_of, bad_property}
use Rattle.property.proofs.PropertyLaws.{bad_kept, property_well_formed}
use Rattle.combine_graph.specs.Combined.{letter_of, combined}
use Rattle.combine_letters.specs.Letters.{bad_letters}
use Rattle.combine_outcome.specs.Combination.{too_large, combined_file, combine_reasons, combine_broken, combine_outcome}
use Rattle.combine_outcome.specs.Claim.{CombinationHolds, SameButMarks, RuleMarksUnused}
use Rattle.combine_outcome.specs.Examples.{ExamplesOfCombining}
use Rattle.combine_outcome.proofs.ReasonLaws.{first_behind, reasons_behind_decide}

-- the combined model of a combination that is not refused can be written, and combines the rule with the property
written_model : (f letters p : List ℕ) (out : ℕ) → combine_broken f letters p out ≡ none
    → Writable (combined f letters p) × Combines (combined f letters p) (graph_of f 0) (letter_of letters) (property_of p)
written_model f letters p out e =
    let accepted : Accepted f = append_clear (rules f) (drop 11 (combine_reasons f letters p out)) e in
    let own = none_clear (drop 11 (combine_reasons f letters p out)) (sym (clear_append (rules f) (drop 11 (combine_reasons f letters p out)) accepted) ∙ e) in
    let property = own.1.0 in
    let large = own.1.1.0 in
    let rule-formed = accepted_well_formed f 0 accepted in
    let property-formed = property_well_formed (bad_kept p property) in (
      record {
        well_formed = product_well_formed (graph_of f 0) (letter_of letters) (property_of p) rule-formed property-formed;
        marks_states = product_marks (graph_of f 0) (letter_of letters) (property_of p);
        states_limit = nltb→le 4096 (combined f letters p).size (neither_l (ltb 4096 (combined f letters p).size) (ltb 8192 (edge_total (combined f letters p))) large);
        edges_limit = nltb→le 8192 (edge_total (combined f letters p)) (neither_r (ltb 4096 (combined f letters p).size) (ltb 8192 (edge_total (combined f letters p))) large);
      },
      product_combines (graph_of f 0) (letter_of letters) (property_of p) rule-formed property-formed,
    )

-- bytes 6–7 of the file that a combination writes are zero
zero_written : (f letters p : List ℕ) → stays_word (combined_file f letters p) ≡ 0
unfolding combined_file
zero_written f letters p = file_stays (combined f letters p)

-- a combination that is not refused has written the file of the combined model
pub combination_holds : CombinationHolds
unfolding combined_file
combination_holds f letters p out e =
    let model = written_model f letters p (length out) e in
    let back = files_hold (combined f letters p) model.0 in
    record {
      bytes_are = ap (λ (o : Option ℕ). outcome o (length (combined_file f letters p))) e;
      output_is = ap (λ (o : Option ℕ). written (unless_refused o (some (combined_file f letters p))) out) e;
      bytes_limit = omega (arith, back.file_length, model.0.states_limit, model.0.edges_limit);
      accepted = back.accepted;
      one_table = (file_laid_out (combined f letters p)).length_is;
      stays_word_zero = zero_written f letters p;
      same_graph = back.same_graph;
      no_second_marks = back.no_second_marks;
      combines = subst (λ (c : Graph). Combines c (graph_of f 0) (letter_of letters) (property_of p)) (sym back.same_graph) model.1;
    }

-- an answer that says so many bytes says how many the file has: no more than 25,114
pub answered_bytes : (f letters p out : List ℕ) (n : ℕ) → answered n ≡ combine_outcome f letters p (length out) → n ≤ 25114
answered_bytes f letters p out n e = go (combine_broken f letters p (length out)) refl e
  where
    go : (o : Option ℕ) → combine_broken f letters p (length out) ≡ o → answered n ≡ outcome o (length (combined_file f letters p)) → n ≤ 25114
    go (some m) q e = let z : ◌≡◌ {A = ℕ} 0 1 = cc in absurd (omega arith)
    go none q e = let same : length (combined_file f letters p) ≡ n = cc in omega (arith, (combination_holds f letters p out q).bytes_limit)

-- rules with the same states, initial state and edges give the same combined model
same_combined : {f f' : List ℕ} → SameButMarks f f' → (letters p : List ℕ) → combined f letters p ≡ combined f' letters p
same_combined {f} {f'} same letters p =
    let with : ℕ → ℕ → (ℕ → List ℕ) → Graph =
    λ n i ss. product (record { size = n; start = i; succs = ss; marked = λ s. false }) (letter_of letters) (property_of p) in
    ap₂ (λ (n i : ℕ). with n i (graph_of f 0).succs) same.same_states same.same_start
    ∙ ap (with (states f') (start_of f')) (fun_ext same.same_edges)

-- the rule's own marks are not used
pub rule_marks_unused : RuleMarksUnused
unfolding combined_file
rule_marks_unused f f' letters p out a a' same =
    let broken : ℕ → Graph → Option ℕ =
    λ n g. first_behind (bad_letters n letters) (bad_property p) (too_large g) (ltb (length out) (length (file_of g))) in
    let answer : ℕ → Graph → Outcome ℕ = λ n g. outcome (broken n g) (length (file_of g)) in
    let output : ℕ → Graph → List ℕ = λ n g. written (unless_refused (broken n g) (some (file_of g))) out in
    let told = reasons_behind_decide f letters p (length out) a in
    let told' = reasons_behind_decide f' letters p (length out) a' in
    let g : Graph = combined f letters p in
    let g' : Graph = combined f' letters p in (
      ap (λ (o : Option ℕ). outcome o (length (file_of g))) told
          ∙ ap₂ answer same.same_states (same_combined same letters p)
          ∙ sym (ap (λ (o : Option ℕ). outcome o (length (file_of g'))) told'),
      ap (λ (o : Option ℕ). written (unless_refused o (some (file_of g))) out) told
          ∙ ap₂ output same.same_states (same_combined same letters p)
          ∙ sym (ap (λ (o : Option ℕ). written (unless_refused o (some (file_of g'))) out) told'),
    )

-- the worked examples
pub examples_of_combining : ExamplesOfCombining
unfolding combined_file
examples_of_combining =
    record {
      bytes = refl;
      output = refl;
      short = refl;
      untouched = refl;
      shortest = refl;
      second = refl;
      staying_rule_shown = refl;
      ended_property_shown = refl;
      two_tables_rule_shown = refl;
      two_tables_property_shown = refl;
      either_role_shown = refl;
    }
