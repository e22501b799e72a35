-- `compact` keeps what is left of the open clauses. The invariant: of the first i clauses it is written, and those from i on stand as
-- they were.
use Prim.Native.Nat.{ℕ, ◌≤◌}
use mathlib.Core.Path.{◌≡◌}
use Rattle.splitting.specs.InnerChoose.{clause_in, clauses_in, clauses_of, open_clauses}
use Rattle.splitting.proofs.clauses.Clauses.compact.Given as goal

abbrev pub invariant-loop-i : goal.invariant-loop-i
invariant-loop-i l = (l.kept ≤ l.i)
    × (clauses_in l.self.positives l.self.negatives l.kept ≡ open_clauses (clauses_of l.initial.self) l.a l.i)
    × ((j : ℕ) → l.i ≤ j → clause_in l.self.positives l.self.negatives j ≡ clause_in l.initial.self.positives l.initial.self.negatives j)
