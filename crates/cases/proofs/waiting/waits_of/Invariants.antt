-- `waits_of`: the invariant is that the tally with the calls that are left is that of all, and that the steps and the waits so far are few.
use Rattle.std.proofs.Common.{◌≡◌, ◌-◌, ◌*◌, ◌≤◌}
use Rattle.vectors.specs.Corpus.{parts_of}
use Rattle.cases.specs.Waiting.{budgets_from, calls_of, tallied_in, tallied, calls_left}
use Rattle.cases.proofs.waiting.waits_of.Given as goal

abbrev pub invariant-loop-i : goal.invariant-loop-i
invariant-loop-i l = record {
  steps : l.w.steps ≤ l.i * 4294967296;
  closed : l.w.closed ≤ l.i;
  tally : tallied l.w (calls_left (parts_of l.v) l.w (budgets_from l.v.expected.now (4 * l.i) (l.i-end - l.i))) ≡ tallied_in (calls_of (parts_of l.v));
}
