-- `rematch` is the definition's re-matching. The invariant: what is left to re-match gives what the whole gives. The measure is the number of
-- links from u back to the new clause.
use mathlib.Core.Path.{◌≡◌}
use lib.ListN.{take}
use Rattle.matching.specs.Search.{search_bound, rematch_from as rematched}
use Rattle.matching.specs.Inner.{numbers_in, distance, Augments}
use Rattle.matching.proofs.Pairs.rematch.Given as goal

abbrev pub invariant-loop-clause : goal.invariant-loop-clause
invariant-loop-clause l = Augments l.clause l.self.table (numbers_in l.self) l.links l.u
    × (rematched search_bound l.links (take l.clause l.self.table) l.u ≡ rematched search_bound l.links (take l.clause l.initial.self.table) l.v)

abbrev pub decreases-loop-clause : goal.decreases-loop-clause
decreases-loop-clause l = distance search_bound l.links (take l.clause l.self.table) l.u
