-- `main`: write counts no more bytes than the buffer has.
use Rattle.filters.proofs.WithinLaws.{write_within}
use Rattle.to_dimacs.proofs.main.Goals as goal

pub put_converted-requires : goal.put_converted-requires
put_converted-requires c = write_within _ _ _ _ c.write-converted.ensures
