-- `match_open` is the outcome of matching the node: what is left of the open clauses is the node, where nothing else is assigned.
use Rattle.splitting.proofs.CompactLaws.{matching_in}
use Rattle.splitting.proofs.match_open.Goals as goal

pub returns : goal.returns
returns c = rw (c.match_with.ensures, c.none.ensures) (matching_in c.args.f.now c.args.a c.take_open.new.self c.take_open.ensures)
