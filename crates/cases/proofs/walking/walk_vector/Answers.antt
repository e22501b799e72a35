-- `walk_vector`: the comparison is that of `walk_agrees`, since each side is what its function ensures.
use Rattle.enumeration.specs.Values.{checkpoint_values}
use Rattle.vectors.specs.Corpus.{parts_of}
use Rattle.cases.specs.Walking.{walk_agrees, walk_leaves, Leaves}
use Rattle.cases.proofs.WalkingLaws.{from_on, compared}
use Rattle.cases.proofs.walking.walk_vector.Given.{Over}
use Rattle.cases.proofs.walking.walk_vector.Goals.{After-agrees}
use Rattle.cases.proofs.walking.walk_vector.Goals as goal

-- what the comparison gives, and the checkpoint that is left
told :
    (g : Over) (c : After-agrees g) →
    Leaves (walk_agrees (parts_of c.args.v.now) (checkpoint_values c.args.last.now)) (walk_leaves (parts_of c.args.v.now) (checkpoint_values c.args.last.now)) c.new-got.result.checkpoint c.agrees.result
told g c =
    compared (parts_of c.args.v.now) (checkpoint_values c.args.last.now) _ _ _ _ _ _ _
    (rw (from_on c.args.v.now.fields.now 72) at c.origin-from.ensures) c.four_bytes.ensures c.call.ensures c.new-got.ensures c.expected-expected.ensures c.checkpoint_wrong-wrong.ensures c.agrees.ensures

pub returns-then-agrees : goal.returns-then-agrees
returns-then-agrees g c = rw c.if-agrees.true at (told g (goal.at.returns-then-agrees g c).After-agrees)

pub returns : goal.returns
returns g c = rw c.if-agrees.false at (told g (goal.at.returns g c).After-agrees)
