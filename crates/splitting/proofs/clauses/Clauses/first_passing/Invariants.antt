-- `first_passing` tries the busiest variables first. The invariant: what is left to try is a list in order, from here on the choice among
-- it is the whole one, and the trials' expansions are few.
use Prim.Native.Nat.{ℕ, ◌+◌, ◌*◌, ◌^◌, ◌≤◌, ◌<◌}
use mathlib.Core.List.{List}
use mathlib.Core.Path.{◌≡◌}
use lib.ListN.{length}
use Rattle.masks.specs.Mask.{size}
use Rattle.splitting.specs.Choosing.{by_count}
use Rattle.formula.specs.InnerAssignment.{unassigned}
use Rattle.splitting.specs.InnerChoose.{passing, formula_in, count_at, max_count}
use Rattle.splitting.proofs.MaskTrialLaws.{Lists}
use Rattle.splitting.proofs.clauses.Clauses.first_passing.Given as goal

abbrev pub invariant-loop-rest : goal.invariant-loop-rest
invariant-loop-rest l = (l.rest < 2 ^ 64)
    × ((vs : List ℕ) × Lists (count_at l.counts) vs l.rest
    × (passing (formula_in l.self) unassigned vs l.cost
    ≡ passing (formula_in l.self) unassigned (by_count (count_at l.counts) 64 max_count) 0)
    × (l.cost + 9312 * length vs ≤ 9312 * 64))

abbrev pub decreases-loop-rest : goal.decreases-loop-rest
decreases-loop-rest l = size l.rest
