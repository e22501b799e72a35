-- `reduce` strips pure literals.
use Prim.Native.Nat.{◌-◌, ◌<◌}
use native.Mathlib.Omega.{arith}
use mathlib.Core.Path.{◌≡◌, sym, ap, ◌∙◌}
use lib.Bits.{bit_xor}
use Rattle.masks.specs.Mask.{bit}
use Rattle.masks.specs.InnerMask.{lowest}
use Rattle.formula.specs.declared.Formula.{Formula}
use Rattle.splitting.specs.declared.clauses.Reduced.{Reduced}
use Rattle.splitting.specs.declared.clauses.Survey.{Survey}
use Rattle.splitting.specs.InnerChoose.{node, clauses_of, formula_in, survey_of, pure_of, reduce_from, reduced_at}
use Rattle.splitting.proofs.ReduceLaws.{pure_lowest, reduce_done, reduce_more}
use Rattle.splitting.proofs.CompactLaws.{node_in, small_in, strip_more}
use Rattle.splitting.proofs.clauses.Clauses.reduce.Goals.{After-lowest-v, In-loop}
use Rattle.splitting.proofs.clauses.Clauses.reduce.Goals as goal

-- a result with the survey of its node
as_reduced : (f : Formula) (r : Reduced) → r.survey ≡ survey_of (node f r.assignment) → r ≡ reduced_at f r.assignment r.noted r.last
as_reduced f r e = λ i. record { assignment = r.assignment; noted = r.noted; last = r.last; survey = e i }

-- the pure variables of a turn
pure : (c : In-loop) → bit_xor c.loop.r.survey.positive c.loop.r.survey.negative ≡ pure_of (formula_in c.args.self.now) c.loop.r.assignment
pure c = ap (λ (t : Survey). bit_xor t.positive t.negative) c.loop.invariant.1

-- the lowest of them is below 64
low : (c : After-lowest-v) → c.lowest-v.result < 64
low c =
    let p = pure (goal.at.After-lowest-v c).In-loop in
    rw (c.lowest-v.ensures, p) (pure_lowest (formula_in c.args.self.now) (small_in c.args.self.now) c.loop.r.assignment (λ z. c.if-pure-eq0.false (p ∙ z))).below

pub loop-init : goal.loop-init
loop-init c =
    let e : c.args.variables - 0 ≡ c.args.variables = omega arith in
    let n : clauses_of c.args.self.now ≡ node (formula_in c.args.self.now) c.none.result = rw c.none.ensures (sym (node_in c.args.self.now)) in
    (n, c.survey.ensures ∙ ap survey_of n, rw (e, c.none.ensures))

pub returns-then-pure-eq0 : goal.returns-then-pure-eq0
returns-then-pure-eq0 c =
    let f = formula_in c.args.self.now in
    let r = c.loop.r in
    let z = sym (pure (goal.at.returns-then-pure-eq0 c).In-loop) ∙ c.if-pure-eq0.true in
    as_reduced f r c.loop.invariant.1
    ∙ sym (reduce_done f r.assignment r.noted r.last (c.args.variables - c.loop.counter) z) ∙ c.loop.invariant.2

pub drop_named-requires : goal.drop_named-requires
drop_named-requires c = low (goal.at.drop_named-requires c).After-lowest-v

pub member-requires : goal.member-requires
member-requires c = low (goal.at.member-requires c).After-lowest-v

pub with-requires : goal.with-requires
with-requires c = low (goal.at.with-requires c).After-lowest-v

pub with-requires-in-loop : goal.with-requires-in-loop
with-requires-in-loop c = low (goal.at.with-requires-in-loop c).After-lowest-v

pub loop-preserved : goal.loop-preserved
loop-preserved c =
    let f = formula_in c.args.self.now in
    let r = c.loop.r in
    let p = pure (goal.at.loop-preserved c).In-loop in
    let v = c.lowest-v.result in
    let n : clauses_of c.drop_named.new.self ≡ node f c.with.result =
    c.drop_named.ensures
    ∙ strip_more f (small_in c.args.self.now) r.assignment c.loop.copy c.loop.invariant.0 (λ e. c.if-pure-eq0.false (p ∙ e)) v (c.lowest-v.ensures ∙ ap lowest p) c.member.result
    (c.member.ensures ∙ ap (λ (t : Survey). bit t.positive v) c.loop.invariant.1)
    ∙ ap (node f) (sym c.with.ensures) in (
      n,
      c.survey-in-loop.ensures ∙ ap survey_of n,
      sym (reduce_more f r.assignment r.noted r.last c.args.variables c.loop.counter r.survey v c.member.result c.with.result c.with-in-loop.result c.loop-test.true
          c.loop.invariant.1 c.if-pure-eq0.false c.lowest-v.ensures c.member.ensures c.with.ensures c.with-in-loop.ensures)
          ∙ c.loop.invariant.2,
    )

pub returns : goal.returns
unfolding reduce_from
returns c =
    let e : c.args.variables - c.loop.counter ≡ 0 = omega arith in
    as_reduced (formula_in c.args.self.now) c.loop.r c.loop.invariant.1 ∙ rw e at c.loop.invariant.2
