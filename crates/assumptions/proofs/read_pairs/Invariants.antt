-- `read_pairs`: the loop has read the first i pairs.
use Rattle.assumptions.specs.Bytes.{of_bytes}
use Rattle.assumptions.proofs.TakenLaws.{Taken}
use Rattle.assumptions.proofs.read_pairs.Given as goal

abbrev pub invariant-loop-i : goal.invariant-loop-i
invariant-loop-i l = Taken l.n (of_bytes l.bytes) l.i l.a
