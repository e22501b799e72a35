-- `with` counts one more of each member. The invariant: the digits before this one are changed, and those from it on are still to be,
-- by what is carried.
use mathlib.Core.List.{◌++◌}
use mathlib.Core.Path.{◌≡◌}
use lib.ListN.{take, drop}
use Rattle.splitting.proofs.CounterLaws.{added}
use Rattle.splitting.proofs.counts.Counts.with.Given as goal

abbrev pub invariant-loop-digit : goal.invariant-loop-digit
invariant-loop-digit l = take l.digit-index l.digit-items ++ added (drop l.digit-index l.digit-items) l.carry ≡ added l.fn.self.digits l.mask
