-- `waits_of`: the invariant is that the tally with the calls that are left is that of all, and that the steps and the waits so far are few.
use Rattle.std.proofs.Common.{arith}
use Rattle.vectors.specs.Corpus.{parts_of}
use Rattle.cases.proofs.WaitingLaws.{within_budget, first_left, tally_more, tally_done}
use Rattle.cases.proofs.waiting.waits_of.Goals as goal

pub loop-i-init : goal.loop-i-init
loop-i-init c =
    let N = c.none-w.ensures in
    record { steps = omega (arith, N.steps); closed = omega (arith, N.closed); tally = first_left (parts_of c.args.v.now) c.none-w.result N }

pub loop-i-preserved : goal.loop-i-preserved
loop-i-preserved c =
    let A = c.after_call-w.ensures in
    let k = within_budget _ _ _ _ _ c.call.ensures in
    record {
      steps = omega (arith, A.steps, k);
      closed = omega (arith, A.closed);
      tally = tally_more (parts_of c.args.v.now) c.loop-i.w c.after_call-w.result _ _ _ _ c.loop-i-test.true c.four_bytes-budget.ensures c.call.ensures A c.loop-i.invariant.tally;
    }

pub returns : goal.returns
returns c = tally_done (parts_of c.args.v.now) c.loop-i.w _ _ c.loop-i-test.false c.loop-i.invariant.tally

pub after_call-w-requires : goal.after_call-w-requires
after_call-w-requires c =
    let k = within_budget _ _ _ _ _ c.call.ensures in
    (omega (arith, k), omega arith)
