-- `put_literal`: one word behind the other.
use Rattle.writing.proofs.PlacedLaws.{puts_more}
use Rattle.dimacs.proofs.writer.put_literal.Goals as goal

pub returns : goal.returns
returns c = puts_more c.put_sign.ensures (puts_more (rw c.from.ensures at c.put_decimal.ensures) c.put_byte.ensures)
