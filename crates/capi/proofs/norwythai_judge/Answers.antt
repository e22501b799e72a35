-- `norwythai_judge`: nothing is written, or the results of the answer beside the buffer.
use mathlib.Core.Path.{◌∙◌}
use Rattle.assumptions.specs.Bytes.{of_bytes}
use Rattle.matched.specs.Judge.{judgement_values}
use Rattle.capi.specs.Interface.{judge_results, judge_called}
use Rattle.capi.proofs.CallLaws.{asked_wrongly, judge_written}
use Rattle.capi.proofs.ResultsLaws.{refused_code, told}
use Rattle.capi.proofs.norwythai_judge.Goals as goal

pub returns-then-assumptions-ne0 : goal.returns-then-assumptions-ne0
unfolding judge_called
returns-then-assumptions-ne0 c =
    let a = c.args in
    asked_wrongly a.assumptions.now a.results.now _ _ c.then-assumptions-ne0.either

pub returns : goal.returns
returns c =
    let a = c.args in
    let f = c.find_matching_under-j.ensures (of_bytes a.assumptions.now) c.assumptions_in-u.ensures in
    judge_written a.input.now a.assumptions.now a.buffer.now a.results.now
    c.if-assumptions-ne0.false
    c.if-results-ne-RESULTS_SIZE.false
    _ _ _
    f.0
    f.1
    (c.put_results.ensures ∙ told (λ r. judge_results (judgement_values r)) (λ e. rw refused_code) _ _ c.map.ensures.cases)
