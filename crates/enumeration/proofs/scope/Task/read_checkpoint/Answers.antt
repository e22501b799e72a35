-- `read_checkpoint` meets its contract: the form, the trail, the mode.
use Rattle.std.proofs.Common.{sym, refl, ◌∙◌}
use Rattle.enumeration.proofs.PlaceLaws.{taken_unformed, taken_unreplayed, taken_read}
use Rattle.enumeration.proofs.scope.Task.read_checkpoint.Goals as goal

pub returns-then-not-is_well_formed : goal.returns-then-not-is_well_formed
returns-then-not-is_well_formed c = λ K F. taken_unformed K _ (sym c.is_well_formed.ensures ∙ c.if-not-is_well_formed.true)

pub returns-in_err-s : goal.returns-in_err-s
returns-in_err-s c =
    λ K F. rw c.from_residual.ensures (taken_unreplayed K _ (sym c.is_well_formed.ensures ∙ c.if-not-is_well_formed.false) (c.in_err-s.ensures K F))

pub returns : goal.returns
returns c =
    λ K F.
    taken_read K _ _ (sym c.is_well_formed.ensures ∙ c.if-not-is_well_formed.false) _ ((c.in_ok-s.ensures K F).node _ refl) (c.take_place.ensures K F)
