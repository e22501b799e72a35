-- `norwythai_from_dimacs`: nothing is written, or the results of the answer beside the buffer.
use mathlib.Core.Path.{◌∙◌}
use Rattle.dimacs.specs.Convert.{converted_values}
use Rattle.capi.specs.Interface.{conversion_results}
use Rattle.capi.proofs.CallLaws.{conversion_unwritten, conversion_written}
use Rattle.capi.proofs.ResultsLaws.{refused_code, told}
use Rattle.capi.proofs.norwythai_from_dimacs.Goals as goal

pub returns-then-results-ne-RESULTS_SIZE : goal.returns-then-results-ne-RESULTS_SIZE
returns-then-results-ne-RESULTS_SIZE c =
    let a = c.args in
    conversion_unwritten _ a.buffer.now a.results.now c.if-results-ne-RESULTS_SIZE.true

pub returns : goal.returns
returns c =
    let a = c.args in
    conversion_written _ a.buffer.now a.results.now _ _ _ c.if-results-ne-RESULTS_SIZE.false c.read.ensures
    (c.put_results.ensures ∙ told (λ r. conversion_results (converted_values r)) (λ e. rw refused_code) _ _ c.map.ensures.cases)
