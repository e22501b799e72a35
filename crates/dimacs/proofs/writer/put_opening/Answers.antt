-- `put_opening`: one word behind the other.
use Rattle.writing.proofs.PlacedLaws.{puts_more}
use Rattle.dimacs.proofs.writer.put_opening.Goals as goal

pub returns : goal.returns
returns c = puts_more c.put_word.ensures c.put_numbers.ensures
