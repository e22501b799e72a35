-- `first_named` passes the clauses that do not name v. The invariant: the first i are such.
use mathlib.Core.Path.{◌≡◌}
use Rattle.splitting.specs.InnerChoose.{clauses_in, clauses_of, unnamed}
use Rattle.splitting.proofs.clauses.Clauses.first_named.Given as goal

abbrev pub invariant-loop-i : goal.invariant-loop-i
invariant-loop-i l = unnamed (clauses_of l.self) l.v l.i ≡ clauses_in l.self.positives l.self.negatives l.i
