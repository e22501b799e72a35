-- `norwythai_page`: nothing is written, or the page, the results and the checkpoint behind it.
use mathlib.Core.Path.{◌≡◌, sym, ap, ◌∙◌}
use Rattle.assumptions.specs.Bytes.{of_bytes}
use Rattle.enumeration.specs.Values.{checkpoint_values}
use Rattle.page.specs.Pages.{page_values, page_checkpoint}
use Rattle.capi.specs.Interface.{checkpoint_bytes, page_results, page_called}
use Rattle.capi.proofs.CallLaws.{asked_wrongly_behind, page_written}
use Rattle.capi.proofs.ResultsLaws.{refused_code, told}
use Rattle.capi.proofs.SliceLaws.{kept}
use Rattle.capi.proofs.norwythai_page.Goals.{After-map, in-Ok, in_default}
use Rattle.capi.proofs.norwythai_page.Goals as goal

pub returns-then-assumptions-ne0 : goal.returns-then-assumptions-ne0
unfolding page_called
returns-then-assumptions-ne0 c =
    let a = c.args in
    asked_wrongly_behind a.assumptions.now a.results.now _ _ a.checkpoint.now c.then-assumptions-ne0.either

-- the checkpoint that comes back
left : (c : After-map) → c.match-p.checkpoint ≡ checkpoint_bytes (page_checkpoint (checkpoint_values c.checkpoint_in.result) c.write_page_under-p.result)
left c =
    elim c.match-p.branch [
      | in-Ok w ↦ rw w.in-Ok.is (w.checkpoint-is ∙ w.put_checkpoint.ensures)
      | in_default w ↦ rw w.in_default.is (kept c.checkpoint_in.ensures c.if-checkpoint-ne-CHECKPOINT_SIZE.false w.checkpoint-is)
    ]

-- the call's answer is told as it came
same : (c : After-map) → c.match-p.p ≡ c.write_page_under-p.result
same c = elim c.match-p.branch [ in-Ok w ↦ w.p-is ∙ sym w.in-Ok.is | in_default w ↦ w.p-is ]

pub write_page_under-p-requires : goal.write_page_under-p-requires
write_page_under-p-requires c = (of_bytes c.args.assumptions.now, c.assumptions_in-u.ensures)

pub returns : goal.returns
returns c =
    let a = c.args in
    let from = checkpoint_values c.checkpoint_in.result in
    page_written a.input.now a.assumptions.now a.checkpoint.now a.page.now a.results.now a.serial _ c.write_page_under-p.result _ _ _
    c.if-assumptions-ne0.false
    c.if-checkpoint-ne-CHECKPOINT_SIZE.false
    c.if-results-ne-RESULTS_SIZE.false
    c.checkpoint_in.ensures
    (c.write_page_under-p.ensures (of_bytes a.assumptions.now) c.assumptions_in-u.ensures)
    (left (goal.at.returns c).After-map)
    (c.put_results.ensures ∙ told (λ r. page_results (page_values r)) (λ e. rw refused_code) _ _ c.map.ensures.cases ∙ ap (λ r. page_results (page_values r)) (same (goal.at.returns c).After-map))
