-- `put_line` writes a line: the part that is lent comes back as it.
use Rattle.page.proofs.LineLaws.{page_line-length, line_lent}
use Rattle.page.proofs.lines.put_line.Goals as goal

pub returns : goal.returns
returns c =
    line_lent c.args.i c.args.page.now c.write_line.new.line _ c.write_line.ensures
    (page_line-length c.args.serial c.args.n c.args.mask c.args.a c.args.steps c.requires.2 c.requires.3 c.requires.4)
