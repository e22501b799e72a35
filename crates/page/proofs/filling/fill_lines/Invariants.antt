-- `fill_lines` writes the lines of the next models. The invariant: i lines are written, and the others go on from the state.
use Rattle.walk.specs.InnerStack.{Tree}
use Rattle.enumeration.specs.InnerScope.{visible_in}
use Rattle.enumeration.specs.InnerState.{position_in, Follows, Holds}
use Rattle.page.proofs.GoingLaws.{Going}
use Rattle.page.proofs.filling.fill_lines.Given as goal

abbrev pub invariant-loop-i : goal.invariant-loop-i
invariant-loop-i l =
    (K : Tree) → Follows l.task.formula l.task.scope K → Holds K l.initial.state
    → Going K l.n (visible_in l.task.scope) l.serial (position_in l.initial.state) l.initial.page l.page l.state l.i
