-- `drop_named` keeps the clauses that do not name v. The invariant: those of the first i are written, and the clauses from i on stand
-- as they were.
use Prim.Native.Nat.{ℕ, ◌≤◌}
use mathlib.Core.Path.{◌≡◌}
use Rattle.splitting.specs.InnerChoose.{clause_in, clauses_in, clauses_of, unnamed}
use Rattle.splitting.proofs.clauses.Clauses.drop_named.Given as goal

abbrev pub invariant-loop-i : goal.invariant-loop-i
invariant-loop-i l = (l.kept ≤ l.i)
    × (clauses_in l.self.positives l.self.negatives l.kept ≡ unnamed (clauses_of l.initial.self) l.v l.i)
    × ((j : ℕ) → l.i ≤ j → clause_in l.self.positives l.self.negatives j ≡ clause_in l.initial.self.positives l.initial.self.negatives j)
