-- `norwythai_list`: nothing is written, or the models, the results of the last call and its checkpoint.
use mathlib.Core.Path.{◌≡◌, refl, sym, ap, ◌∙◌}
use Rattle.assumptions.specs.Bytes.{of_bytes}
use Rattle.enumeration.specs.Values.{checkpoint_values, list_values, list_count}
use Rattle.capi.specs.Interface.{checkpoint_bytes, list_results, list_called}
use Rattle.capi.proofs.CallLaws.{asked_wrongly_behind, list_written}
use Rattle.capi.proofs.ResultsLaws.{told, beside}
use Rattle.capi.proofs.SliceLaws.{kept}
use Rattle.capi.proofs.norwythai_list.Goals.{After-map, in-Ok, in_default}
use Rattle.capi.proofs.norwythai_list.Goals as goal

pub returns-then-assumptions-ne0 : goal.returns-then-assumptions-ne0
unfolding list_called
returns-then-assumptions-ne0 c =
    let a = c.args in
    asked_wrongly_behind a.assumptions.now a.results.now _ _ a.checkpoint.now c.then-assumptions-ne0.either

-- the checkpoint that comes back
left : (c : After-map) → c.match-l.checkpoint ≡ checkpoint_bytes ((list_values (checkpoint_values c.checkpoint_in.result) c.list_under-l.result).checkpoint)
left c =
    elim c.match-l.branch [
      | in-Ok w ↦ rw w.in-Ok.is (w.checkpoint-is ∙ w.put_checkpoint.ensures ∙ ap checkpoint_bytes (sym (beside w.in-Ok.listed.answer _ _ _)))
      | in_default w ↦ rw w.in_default.is (kept c.checkpoint_in.ensures c.if-checkpoint-ne-CHECKPOINT_SIZE.false w.checkpoint-is)
    ]

-- the call's answer is told as it came
same : (c : After-map) → c.match-l.l ≡ c.list_under-l.result
same c = elim c.match-l.branch [ in-Ok w ↦ w.l-is ∙ sym w.in-Ok.is | in_default w ↦ w.l-is ]

pub list_under-l-requires : goal.list_under-l-requires
list_under-l-requires c = (of_bytes c.args.assumptions.now, c.assumptions_in-u.ensures)

pub returns : goal.returns
returns c =
    let a = c.args in
    let from = checkpoint_values c.checkpoint_in.result in
    list_written a.input.now a.assumptions.now a.checkpoint.now a.models.now a.results.now _ c.list_under-l.result _ _ _
    c.if-assumptions-ne0.false
    c.if-checkpoint-ne-CHECKPOINT_SIZE.false
    c.if-results-ne-RESULTS_SIZE.false
    c.checkpoint_in.ensures
    (c.list_under-l.ensures (of_bytes a.assumptions.now) c.assumptions_in-u.ensures)
    (left (goal.at.returns c).After-map)
    (c.put_results.ensures ∙ told (λ r. list_results (list_count r) (list_values from r)) (λ e. refl) _ _ c.map.ensures.cases ∙ ap (λ r. list_results (list_count r) (list_values from r)) (same (goal.at.returns c).After-map))
