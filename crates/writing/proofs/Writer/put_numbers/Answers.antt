-- `Writer::put_numbers` meets its contract: one method behind the other.
use Rattle.writing.proofs.PlacedLaws.{puts_more}
use Rattle.writing.proofs.Writer.put_numbers.Goals as goal

pub returns : goal.returns
returns c = puts_more c.put_decimal.ensures (puts_more c.put_byte.ensures (puts_more c.put_decimal-2.ensures c.put_byte-2.ensures))
