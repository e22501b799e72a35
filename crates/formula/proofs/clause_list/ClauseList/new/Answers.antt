-- `new` has the clause without literals in every place.
use native.Mathlib.Omega.{arith}
use mathlib.Core.Path.{refl}
use Rattle.lists.specs.Padded.{padded}
use Rattle.formula.proofs.clause_list.ClauseList.new.Goals as goal

pub invariant_of-result : goal.invariant_of-result
unfolding padded
invariant_of-result c = rw c.empty.ensures (omega arith, refl)
