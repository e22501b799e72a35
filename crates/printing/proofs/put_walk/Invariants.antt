-- `put_walk` writes the lines of a walk. The invariant: the lines so far are written, and the others go on from s.
use Prim.Native.Nat.{◌-◌}
use Rattle.walk.specs.InnerStack.{Tree}
use Rattle.enumeration.specs.InnerState.{Follows}
use Rattle.printing.specs.Printed.{max_models}
use Rattle.printing.proofs.GoingLaws.{Going}
use Rattle.printing.proofs.put_walk.Given as goal

abbrev pub invariant-loop : goal.invariant-loop
invariant-loop l = (K : Tree) → Follows l.task.formula l.task.scope K → Going K l.n l.mask l.initial.w l.w l.state (max_models - l.counter)
