-- `violator` marks the first clauses of the queue.
use borrow.Author.Rules.{rules}
use lib.ListN.{take}
use Rattle.limits.specs.Limits.{max_clauses}
use Rattle.matching.specs.Search.{marks}
use Rattle.matching.proofs.WholeLaws.{marks_next}
use Rattle.matching.proofs.Queue.violator.Goals as goal

pub loop-clause-init : goal.loop-clause-init
unfolding marks
loop-clause-init c = search rules

pub loop-clause-preserved : goal.loop-clause-preserved
loop-clause-preserved c =
    rw (c.loop-clause.invariant, c.from.ensures) (marks_next max_clauses (take c.args.n c.args.self.now.clauses) c.loop-clause.clause-index c.loop-clause-test.true)
