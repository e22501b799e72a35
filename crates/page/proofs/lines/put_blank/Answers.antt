-- `put_blank` writes a line: the part that is lent comes back as a blank one.
use Rattle.page.proofs.LineLaws.{blank-length, line_lent}
use Rattle.page.proofs.lines.put_blank.Goals as goal

pub returns : goal.returns
returns c = line_lent c.args.i c.args.page.now c.write_blank.new.line _ c.write_blank.ensures blank-length
