-- `take_end`: a clause too many, or one more.
use native.Mathlib.Omega.{arith}
use borrow.Author.Rules.{rules}
use Rattle.dimacs.proofs.KeepLaws.{end_room, end_kept}
use Rattle.dimacs.proofs.reader.Reader.take_end.Goals as goal

pub push-requires : goal.push-requires
push-requires c = (search rules, end_room c.requires.keeps)

pub returns : goal.returns
returns c = λ n s k. rw (c.push.ensures.items, c.from.ensures) (end_kept k c.args.at _ (omega arith) c.empty-self.ensures)
