-- `list_vector`: the comparison is that of `list_agrees`, since each side is what its function ensures.
use Rattle.std.proofs.Common.{rules, arith}
use Rattle.enumeration.specs.Values.{checkpoint_values}
use Rattle.vectors.specs.Corpus.{parts_of}
use Rattle.cases.specs.Walking.{Leaves}
use Rattle.cases.specs.Listing.{wanted_model, list_agrees, list_leaves}
use Rattle.cases.proofs.WalkingLaws.{from_on}
use Rattle.cases.proofs.ListingLaws.{lists, list_compared}
use Rattle.cases.proofs.listing.list_vector.Given.{Over}
use Rattle.cases.proofs.listing.list_vector.Goals.{After-agree}
use Rattle.cases.proofs.listing.list_vector.Goals as goal

-- what the comparison gives, and the checkpoint that is left
told :
    (g : Over) (c : After-agree g) →
    Leaves (list_agrees (parts_of c.args.v.now) (checkpoint_values c.args.last.now)) (list_leaves (parts_of c.args.v.now) (checkpoint_values c.args.last.now)) c.new-got.result.checkpoint c.agree.result
told g c =
    let v = parts_of c.args.v.now in
    let L = lists v (checkpoint_values c.args.last.now) _ _ _ _ _ _ _ _
    (rw (from_on c.args.v.now.fields.now 72) at c.origin-from.ensures) c.from-room.ensures c.from-fill.ensures (omega (arith, c.from-room.ensures))
    c.list-listed.ensures c.count_of-count.ensures (c.last_call.ensures _) c.new-got.ensures in
    list_compared v (checkpoint_values c.args.last.now) _ _ _ _ _ _ _ _ _ L c.expected-expected.ensures c.checkpoint_wrong-wrong.ensures
    (c.first_wrong-other.ensures.place (wanted_model v.expected c.from-fill.result) (λ i r lt p. search rules))
    c.agrees.ensures c.agree.ensures

pub returns-then-agree : goal.returns-then-agree
returns-then-agree g c = rw c.if-agree.true at (told g (goal.at.returns-then-agree g c).After-agree)

pub returns : goal.returns
returns g c = rw c.if-agree.false at (told g (goal.at.returns g c).After-agree)
