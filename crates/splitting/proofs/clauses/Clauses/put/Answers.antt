-- `put` writes both sides of the clause.
use native.Mathlib.Omega.{arith}
use Rattle.splitting.proofs.OpenClauseLaws.{clause_written}
use Rattle.splitting.proofs.clauses.Clauses.put.Goals as goal

pub returns-clause-written : goal.returns-clause-written
returns-clause-written c =
    clause_written c.args.self.now.positives c.args.self.now.negatives c.args.i c.args.c.positive c.args.c.negative (omega arith) (omega arith)
