-- `count_names` counts how many clauses name each variable. The invariant: those of the first i clauses are counted.
use Prim.Native.Nat.{ℕ}
use mathlib.Core.Path.{◌≡◌}
use Rattle.splitting.specs.InnerChoose.{clauses_in, occurrences_in, count_at}
use Rattle.splitting.proofs.clauses.Clauses.count_names.Given as goal

abbrev pub invariant-loop-i : goal.invariant-loop-i
invariant-loop-i l = (v : ℕ) → count_at l.counts v ≡ occurrences_in (clauses_in l.self.positives l.self.negatives l.i) v
