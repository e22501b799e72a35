-- `put_checkpoint`: two bytes are stored, and the trail is copied behind them.
use Rattle.capi.proofs.SliceLaws.{written}
use Rattle.capi.proofs.put_checkpoint.Goals as goal

pub returns : goal.returns
returns c = written c.args.checkpoint.now c.args.c.bytes c.copy_from_slice.new.self c.args.c.mode c.args.c.length c.requires c.copy_from_slice.ensures.after
