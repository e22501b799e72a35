-- `new`: no variable has an owner.
use lib.ListN.{get_or-replicate}
use Rattle.std.proofs.Common.{Option, None, ℕ}
use Rattle.matching.proofs.WholeLaws.{stored_none}
use Rattle.matching.proofs.Pairs.new.Goals as goal

pub invariant_of-result : goal.invariant_of-result
invariant_of-result c = record { owned = λ k d h x e. let z = get_or-replicate {A = Option ℕ} 64 k None d h in cc }

pub returns : goal.returns
returns c = stored_none
