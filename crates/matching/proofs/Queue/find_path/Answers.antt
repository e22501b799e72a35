-- `find_path` is the definition's search.
use mathlib.Core.Path.{sym, ◌∙◌}
use native.Mathlib.Omega.{arith}
use Rattle.matching.specs.Inner.{owner_in}
use Rattle.matching.proofs.FrontLaws.{counted_tail, searching_begin, searching_taken, searching_on, searching_found, searching_none}
use Rattle.matching.proofs.Queue.find_path.Goals as goal

pub loop-front-init : goal.loop-front-init
loop-front-init c = searching_begin c.args.sets.now (owner_in c.args.pairs.now) c.begin-front.result c.begin-front.new.self c.args.clause c.begin-front.ensures

pub returns-then-is_some : goal.returns-then-is_some
returns-then-is_some c =
    let r = c.expand-front in
    searching_found c.loop-front.invariant r.result r.new.queue c.loop-front-test.true r.ensures
    (sym c.is_some.ensures ∙ c.if-is_some.true)

pub loop-front-smaller : goal.loop-front-smaller
loop-front-smaller c =
    let f = c.loop-front.front in
    let r = c.expand-front in
    omega (arith, counted_tail f.seen f.tail f.counted, c.loop-front-test.true, searching_taken c.loop-front.invariant r.result r.new.queue c.loop-front-test.true r.ensures)

pub loop-front-preserved : goal.loop-front-preserved
loop-front-preserved c =
    let r = c.expand-front in
    searching_on c.loop-front.invariant r.result r.new.queue c.loop-front-test.true r.ensures (sym c.is_some.ensures ∙ c.if-is_some.false)

pub returns : goal.returns
returns c = searching_none c.loop-front.invariant c.loop-front-test.false
