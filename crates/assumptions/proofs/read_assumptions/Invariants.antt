-- `read_assumptions`: the loop has read the first i assumptions.
use Rattle.assumptions.proofs.TakenLaws.{Taken}
use Rattle.assumptions.proofs.read_assumptions.Given as goal

abbrev pub invariant-loop-i : goal.invariant-loop-i
invariant-loop-i l = Taken l.n l.list l.i l.a
