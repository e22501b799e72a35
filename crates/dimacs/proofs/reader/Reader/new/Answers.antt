-- `new`: the record of kind 1 is kept.
use Rattle.dimacs.proofs.KeepLaws.{keeps-start}
use Rattle.dimacs.proofs.reader.Reader.new.Goals as goal

pub returns : goal.returns
returns c =
    rw (c.push-2.ensures.items, c.push.ensures.items, c.new-kept.ensures, c.from.ensures)
    (keeps-start c.args.variables c.empty.result c.requires.0 c.requires.1 c.empty.ensures)
