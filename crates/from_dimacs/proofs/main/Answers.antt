-- `main`: read counts no more bytes than the buffer has.
use Rattle.filters.proofs.WithinLaws.{read_within}
use Rattle.from_dimacs.proofs.main.Goals as goal

pub put_converted-requires : goal.put_converted-requires
put_converted-requires c = read_within _ _ _ _ c.read-converted.ensures
