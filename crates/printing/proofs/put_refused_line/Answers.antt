-- `put_refused_line` meets its contract: one word behind the other.
use Rattle.writing.proofs.PlacedLaws.{puts_more}
use Rattle.printing.proofs.put_refused_line.Goals as goal

pub returns : goal.returns
returns c = puts_more c.put_word.ensures c.put_numbers.ensures
