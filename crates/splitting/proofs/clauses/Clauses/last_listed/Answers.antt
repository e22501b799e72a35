-- `last_listed` opens the values that empty no clause.
use Rattle.splitting.specs.InnerChoose.{listed_last}
use Rattle.splitting.proofs.clauses.Clauses.last_listed.Goals as goal

pub returns : goal.returns
unfolding listed_last
returns c = rw (c.has_empty-2.ensures, c.with-2.ensures, c.none-2.ensures, c.has_empty.ensures, c.with.ensures, c.none.ensures)
