-- `read_literals`: the invariant is that reading has passed from r to the reader. The measure is the number of bytes that are left.
use Prim.Native.Nat.{◌-◌}
use lib.ListN.{length}
use Rattle.formula.specs.InnerReader.{Passes}
use Rattle.formula.proofs.read_literals.Given as goal

abbrev pub invariant-loop-after : goal.invariant-loop-after
invariant-loop-after l = Passes l.input l.initial.reader l.reader

abbrev pub decreases-loop-after : goal.decreases-loop-after
decreases-loop-after l = length l.input - l.reader.at
