-- `first_wrong`: the invariant is that no value before i is wrong.
use Rattle.std.proofs.Common.{◌≡◌, length, arith, sym, ◌∙◌}
use Rattle.vectors.proofs.ComparingLaws.{from_first, none_wrong, wrong_here, right_here, compared_here}
use Rattle.vectors.proofs.comparing.first_wrong.Goals as goal

pub loop-i-init : goal.loop-i-init
loop-i-init g c w h = from_first _ _ _

pub returns-then-ne-clause-place : goal.returns-then-ne-clause-place
returns-then-ne-clause-place g c w h =
    sym (wrong_here _ _ _ _ _ c.loop-i-test.true
    (compared_here g.T.PartialEq.eq w _ _ _ _ _ c.loop-i-test.true c.index-got-i.is
    (h _ _ c.loop-i-test.true c.wanted.ensures) (sym c.if-ne.true ∙ c.ne.ensures)))
    ∙ c.loop-i.invariant w h

pub loop-i-preserved : goal.loop-i-preserved
loop-i-preserved g c w h =
    sym (right_here _ _ _ _ _ c.loop-i-test.true
    (compared_here g.T.PartialEq.eq w _ _ _ _ _ c.loop-i-test.true c.index-got-i.is
    (h _ _ c.loop-i-test.true c.wanted.ensures) (sym c.if-ne.false ∙ c.ne.ensures)))
    ∙ c.loop-i.invariant w h

pub returns-clause-place : goal.returns-clause-place
returns-clause-place g c w h =
    let e : length c.args.got.now ≡ c.loop-i.i = omega arith in
    e ∙ sym (none_wrong _ _ _ _ _ c.loop-i-test.false) ∙ c.loop-i.invariant w h
