-- `expand` is one expansion: the seen variables of the clause are passed over.
use mathlib.Core.Path.{◌∙◌}
use native.Mathlib.Omega.{arith}
use Rattle.matching.specs.Inner.{at, owner_in}
use Rattle.matching.proofs.FrontLaws.{counted_tail, minus_apart, expand_unseen}
use Rattle.matching.proofs.Front.expand.Goals as goal

pub bounds-queue-self : goal.bounds-queue-self
bounds-queue-self c = let s = c.args.self in omega (arith, counted_tail s.seen s.tail s.counted, c.requires.1)

pub scan-requires : goal.scan-requires
scan-requires c = (c.requires.0, rw c.minus-unseen.ensures (minus_apart (at c.args.sets.now c.from.result) c.args.self.seen))

pub returns : goal.returns
returns c =
    let a = c.args in
    c.scan.ensures ∙ rw (c.minus-unseen.ensures, c.from.ensures) (expand_unseen a.sets.now (owner_in a.pairs.now) a.self a.queue.now c.requires.1)
