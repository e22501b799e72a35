-- `run_files`: the invariant is that each count is at most 65,536 for each file.
use Rattle.std.proofs.Common.{◌*◌, ◌≤◌}
use Rattle.cases.proofs.run_files.Given as goal

abbrev pub invariant-loop-i : goal.invariant-loop-i
invariant-loop-i g l = (l.t.vectors ≤ l.i * 65536) × (l.t.differences ≤ l.i * 65536)
