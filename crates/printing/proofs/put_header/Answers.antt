-- `put_header` meets its contract: one word behind the other.
use Rattle.writing.proofs.PlacedLaws.{puts_more}
use Rattle.printing.proofs.put_header.Goals as goal

pub returns : goal.returns
returns c =
    puts_more c.put_word.ensures (puts_more c.put_decimal.ensures (puts_more c.put_word-2.ensures (puts_more c.put_decimal-2.ensures c.put_byte.ensures)))
