-- `new` has a zero in every place.
use mathlib.Core.Path.{sym}
use native.Mathlib.Omega.{arith}
use Rattle.lists.proofs.PaddedLaws.{padded_none}
use Rattle.formula.proofs.byte_list.ByteList.new.Goals as goal

pub invariant_of-result : goal.invariant_of-result
invariant_of-result g c = (omega arith, sym (padded_none g.row.CAP 0))
