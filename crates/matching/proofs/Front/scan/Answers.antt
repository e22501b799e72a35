-- `scan` goes through the unseen variables by the lowest member of what is left.
use mathlib.Core.Path.{sym, ◌∙◌}
use Rattle.matching.proofs.FrontLaws.{Next, next_is, going_on, going_found, going_none}
use Rattle.matching.proofs.Front.scan.Goals.{After-lowest-v}
use Rattle.matching.proofs.Front.scan.Goals as goal

-- the variable that is next
next : (c : After-lowest-v) → Next c.loop-rest.rest c.lowest-v.result
next c = next_is c.loop-rest.rest c.lowest-v.result c.loop-rest.invariant.word c.loop-rest-test.true c.lowest-v.ensures

pub see-front-requires : goal.see-front-requires
see-front-requires c =
    let N = next (goal.at.see-front-requires c).After-lowest-v in
    (N.low, c.loop-rest.invariant.apart c.lowest-v.result N.in_rest)

pub returns-then-is_some : goal.returns-then-is_some
returns-then-is_some c =
    let r = c.see-front in
    going_found r.result r.new.queue c.without-rest.result c.loop-rest.invariant (next (goal.at.returns-then-is_some c).After-lowest-v) c.without-rest.ensures r.ensures
    (sym c.is_some.ensures ∙ c.if-is_some.true)

pub loop-rest-smaller : goal.loop-rest-smaller
loop-rest-smaller c =
    rw c.without-rest.ensures (next (goal.at.loop-rest-smaller c).After-lowest-v).fewer

pub loop-rest-preserved : goal.loop-rest-preserved
loop-rest-preserved c =
    let r = c.see-front in
    going_on r.result r.new.queue c.without-rest.result c.loop-rest.invariant (next (goal.at.loop-rest-preserved c).After-lowest-v) c.without-rest.ensures r.ensures
    (sym c.is_some.ensures ∙ c.if-is_some.false)

pub returns : goal.returns
returns c = going_none c.loop-rest.invariant c.loop-rest-test.false
