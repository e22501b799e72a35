-- `put_text`: the lines of the clauses behind the p line.
use Rattle.dimacs.proofs.LineLaws.{opening_room, readable_clauses, readable_written}
use Rattle.dimacs.proofs.writer.put_text.Goals as goal

pub put_opening-requires : goal.put_opening-requires
put_opening-requires c = opening_room c.requires

pub put_clauses-requires : goal.put_clauses-requires
put_clauses-requires c = readable_clauses c.requires c.put_opening.ensures

pub returns : goal.returns
returns c = readable_written c.requires c.put_opening.ensures _ c.put_clauses.ensures
