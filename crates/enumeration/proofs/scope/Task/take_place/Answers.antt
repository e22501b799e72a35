-- `take_place` meets its contract: by the mode.
use Rattle.std.proofs.Common.{arith}
use Rattle.enumeration.proofs.PlaceLaws.{taken_start, taken_end, taken_model, taken_assigned, taken_root_none}
use Rattle.enumeration.proofs.scope.Task.take_place.Goals as goal

pub returns-in-0 : goal.returns-in-0
returns-in-0 c = λ K F n. rw c.at_root.ensures (taken_start _ _ K F _ n _ c.in-0.is)

pub returns-then-s-self : goal.returns-then-s-self
returns-then-s-self c = λ K F n. taken_model _ _ K F _ n _ c.in-1.is c.if-s-self.true

pub returns-then-s-ne0 : goal.returns-then-s-ne0
returns-then-s-ne0 c = λ K F n. taken_assigned _ _ K F _ n _ c.in-1.is c.if-s-self.false c.if-s-ne0.true

pub returns-else-s-ne0 : goal.returns-else-s-ne0
returns-else-s-ne0 c = λ K F n. taken_root_none _ _ K F _ n _ c.in-1.is c.if-s-self.false c.if-s-ne0.false

pub returns-in_default : goal.returns-in_default
returns-in_default c = λ K F n. rw c.at_root-in_default.ensures (taken_end _ _ K F _ n _ (omega arith))
