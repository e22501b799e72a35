-- `match_sets` is the definition's outcome. The invariant: what is left to do gives the outcome.
use Rattle.matching.specs.Inner.{numbers_in}
use Rattle.matching.proofs.WholeLaws.{Running}
use Rattle.matching.proofs.match_sets.Given as goal

abbrev pub invariant-loop-clause : goal.invariant-loop-clause
invariant-loop-clause l = Running l.sets l.count l.clause l.pairs.table (numbers_in l.pairs) l.expansions
