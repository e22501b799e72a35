-- `norwythai_deficiency`: nothing is written, or the results of the answer.
use mathlib.Core.Path.{◌∙◌}
use Rattle.matched.specs.Deficiency.{measured_values}
use Rattle.capi.specs.Interface.{deficiency_results}
use Rattle.capi.proofs.CallLaws.{deficiency_unwritten, deficiency_written}
use Rattle.capi.proofs.ResultsLaws.{refused_code, told}
use Rattle.capi.proofs.norwythai_deficiency.Goals as goal

pub returns-then-results-ne-RESULTS_SIZE : goal.returns-then-results-ne-RESULTS_SIZE
returns-then-results-ne-RESULTS_SIZE c =
    let a = c.args in
    deficiency_unwritten a.input.now a.results.now c.if-results-ne-RESULTS_SIZE.true

pub returns : goal.returns
returns c =
    let a = c.args in
    deficiency_written a.input.now a.results.now _ _ c.if-results-ne-RESULTS_SIZE.false
    c.deficiency.ensures
    (c.put_results.ensures ∙ told (λ r. deficiency_results (measured_values r)) (λ e. rw refused_code) _ _ c.map.ensures.cases)
