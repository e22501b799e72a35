-- `norwythai_weigh`: nothing is written, or the results of the answer.
use mathlib.Core.Path.{◌∙◌}
use Rattle.assumptions.specs.Bytes.{of_bytes}
use Rattle.matched.specs.Weigh.{weighed_values}
use Rattle.capi.specs.Interface.{weigh_results, weigh_called}
use Rattle.capi.proofs.CallLaws.{asked_wrongly, weigh_written}
use Rattle.capi.proofs.ResultsLaws.{refused_code, told}
use Rattle.capi.proofs.norwythai_weigh.Goals as goal

pub returns-then-assumptions-ne0 : goal.returns-then-assumptions-ne0
unfolding weigh_called
returns-then-assumptions-ne0 c =
    let a = c.args in
    asked_wrongly a.assumptions.now a.results.now _ _ c.then-assumptions-ne0.either

pub returns : goal.returns
returns c =
    let a = c.args in
    weigh_written a.input.now a.assumptions.now a.buffer.now a.results.now
    c.if-assumptions-ne0.false
    c.if-results-ne-RESULTS_SIZE.false
    _ _
    (c.weigh_marks_under-w.ensures (of_bytes a.assumptions.now) c.assumptions_in-u.ensures)
    (c.put_results.ensures ∙ told (λ r. weigh_results (weighed_values r)) (λ e. rw refused_code) _ _ c.map.ensures.cases)
