-- `formula::decode` meets its contract. The loop keeps `Reads`: what is left to read gives what the whole gives.
use Prim.Native.Nat.{◌-◌}
use lib.ListN.{length}
use Rattle.formula.specs.InnerReader.{Reads}
use Rattle.formula.proofs.decode.Given as goal

abbrev pub invariant-loop-after : goal.invariant-loop-after
invariant-loop-after l = Reads l.input l.reader l.clauses.items

abbrev pub decreases-loop-after : goal.decreases-loop-after
decreases-loop-after l = length l.input - l.reader.at
