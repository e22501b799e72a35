-- `norwythai_start`: nothing is written, or the start checkpoint.
use Rattle.capi.proofs.CallLaws.{start_unwritten, start_written}
use Rattle.capi.proofs.norwythai_start.Goals as goal

pub returns-then-checkpoint-ne-CHECKPOINT_SIZE : goal.returns-then-checkpoint-ne-CHECKPOINT_SIZE
returns-then-checkpoint-ne-CHECKPOINT_SIZE c = start_unwritten c.args.checkpoint.now c.if-checkpoint-ne-CHECKPOINT_SIZE.true

pub returns : goal.returns
returns c =
    start_written c.args.checkpoint.now _ _ c.if-checkpoint-ne-CHECKPOINT_SIZE.false
    c.start_checkpoint.ensures
    c.put_checkpoint.ensures
