-- `replay` meets its contract. The invariant: the state is the node of the bytes so far.
use Rattle.std.proofs.Common.{take}
use Rattle.walk.specs.InnerStack.{empty, Tree}
use Rattle.walk.specs.InnerTest.{pushed}
use Rattle.enumeration.specs.InnerState.{Follows}
use Rattle.enumeration.specs.InnerRead.{Node}
use Rattle.enumeration.proofs.scope.Task.replay.Given as goal

abbrev pub invariant-loop-b : goal.invariant-loop-b
invariant-loop-b l = (K : Tree) → Follows l.self.formula l.self.scope K → Node K (pushed empty (take l.b-index l.b-items)) l.s
