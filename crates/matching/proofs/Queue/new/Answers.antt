-- `new`: an array of zeros.
use lib.ListN.{get_or-replicate}
use native.Mathlib.Omega.{arith}
use Rattle.std.proofs.Common.{ℕ}
use Rattle.matching.proofs.Queue.new.Goals as goal

pub invariant_of-result-clause-low : goal.invariant_of-result-clause-low
invariant_of-result-clause-low c k d h = let z = get_or-replicate {A = ℕ} 96 k 0 d h in omega arith
