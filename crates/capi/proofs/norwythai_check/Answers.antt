-- `norwythai_check`: nothing is written, or the results of the answer.
use mathlib.Core.Path.{refl, ◌∙◌}
use Rattle.formula.specs.Check.{verdict_values}
use Rattle.capi.specs.Interface.{check_results}
use Rattle.capi.proofs.CallLaws.{check_unwritten, check_written}
use Rattle.capi.proofs.ResultsLaws.{told}
use Rattle.capi.proofs.norwythai_check.Goals as goal

pub returns-then-results-ne-RESULTS_SIZE : goal.returns-then-results-ne-RESULTS_SIZE
returns-then-results-ne-RESULTS_SIZE c =
    let a = c.args in
    check_unwritten a.input.now a.results.now a.assignment c.if-results-ne-RESULTS_SIZE.true

pub returns : goal.returns
returns c =
    let a = c.args in
    check_written a.input.now a.results.now a.assignment _ _ c.if-results-ne-RESULTS_SIZE.false
    c.check.ensures
    (c.put_results.ensures ∙ told (λ r. check_results (verdict_values r)) (λ e. refl) _ _ c.map.ensures.cases)
