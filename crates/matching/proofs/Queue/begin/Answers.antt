-- `begin` is the definition's start.
use borrow.Author.Rules.{rules}
use Rattle.matching.specs.Search.{begin, no_links}
use Rattle.matching.proofs.Queue.begin.Goals as goal

pub returns : goal.returns
unfolding begin no_links
returns c = search rules
