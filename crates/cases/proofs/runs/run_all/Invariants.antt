-- `run_all`: the invariant is that the run over what is left, with the totals and the checkpoint so far, gives what the whole run gives, and
-- that no count has grown by more than the bytes that are behind. The measure is the number of bytes that are left.
use Rattle.std.proofs.Common.{◌-◌, ◌≤◌, length}
use Rattle.enumeration.specs.Values.{checkpoint_values}
use Rattle.vectors.specs.Totals.{Grown}
use Rattle.cases.proofs.RunLaws.{Stands}
use Rattle.cases.proofs.runs.run_all.Given as goal

abbrev pub invariant-loop-v : goal.invariant-loop-v
invariant-loop-v g l = record {
  fewer : length l.left ≤ length l.bytes;
  grown : Grown (length l.bytes - length l.left) l.initial.totals l.totals;
  stands : Stands l.act l.bytes l.initial.totals l.left l.totals (checkpoint_values l.last);
}

abbrev pub decreases-loop-v : goal.decreases-loop-v
decreases-loop-v g l = length l.left
