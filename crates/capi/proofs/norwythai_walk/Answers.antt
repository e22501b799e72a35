-- `norwythai_walk`: nothing is written, or the results of the call and its checkpoint.
use mathlib.Core.Path.{◌≡◌, refl, sym, ap, ◌∙◌}
use Rattle.assumptions.specs.Bytes.{of_bytes}
use Rattle.enumeration.specs.Values.{checkpoint_values, call_values}
use Rattle.capi.specs.Interface.{checkpoint_bytes, walk_results, walk_called}
use Rattle.capi.proofs.CallLaws.{asked_wrongly_behind, walk_written}
use Rattle.capi.proofs.ResultsLaws.{told, beside}
use Rattle.capi.proofs.SliceLaws.{kept}
use Rattle.capi.proofs.norwythai_walk.Goals.{After-map, in-Ok, in_default}
use Rattle.capi.proofs.norwythai_walk.Goals as goal

pub returns-then-assumptions-ne0 : goal.returns-then-assumptions-ne0
unfolding walk_called
returns-then-assumptions-ne0 c =
    let a = c.args in
    asked_wrongly_behind a.assumptions.now a.results.now _ _ a.checkpoint.now c.then-assumptions-ne0.either

-- the checkpoint that comes back
left : (c : After-map) → c.match-w.checkpoint ≡ checkpoint_bytes ((call_values (checkpoint_values c.checkpoint_in.result) c.walk_under-w.result).checkpoint)
left c =
    elim c.match-w.branch [
      | in-Ok w ↦ rw w.in-Ok.is (w.checkpoint-is ∙ w.put_checkpoint.ensures ∙ ap checkpoint_bytes (sym (beside w.in-Ok.walked.answer _ _ _)))
      | in_default w ↦ rw w.in_default.is (kept c.checkpoint_in.ensures c.if-checkpoint-ne-CHECKPOINT_SIZE.false w.checkpoint-is)
    ]

-- the call's answer is told as it came
same : (c : After-map) → c.match-w.w ≡ c.walk_under-w.result
same c = elim c.match-w.branch [ in-Ok w ↦ w.w-is ∙ sym w.in-Ok.is | in_default w ↦ w.w-is ]

pub walk_under-w-requires : goal.walk_under-w-requires
walk_under-w-requires c = (of_bytes c.args.assumptions.now, c.assumptions_in-u.ensures)

pub returns : goal.returns
returns c =
    let a = c.args in
    let from = checkpoint_values c.checkpoint_in.result in
    walk_written a.input.now a.assumptions.now a.checkpoint.now a.results.now a.budget _ c.walk_under-w.result _ _
    c.if-assumptions-ne0.false
    c.if-checkpoint-ne-CHECKPOINT_SIZE.false
    c.if-results-ne-RESULTS_SIZE.false
    c.checkpoint_in.ensures
    (c.walk_under-w.ensures (of_bytes a.assumptions.now) c.assumptions_in-u.ensures)
    (left (goal.at.returns c).After-map)
    (c.put_results.ensures ∙ told (λ r. walk_results (call_values from r)) (λ e. refl) _ _ c.map.ensures.cases ∙ ap (λ r. walk_results (call_values from r)) (same (goal.at.returns c).After-map))
