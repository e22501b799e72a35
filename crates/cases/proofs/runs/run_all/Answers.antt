-- `run_all`: the invariant is that the run over what is left, with the totals and the checkpoint so far, gives what the whole run gives, and
-- that no count has grown by more than the bytes that are behind. The measure is the number of bytes that are left.
use Rattle.std.proofs.Common.{arith}
use Rattle.vectors.proofs.FrameLaws.{within}
use Rattle.vectors.proofs.TotalsLaws.{counted_grown}
use Rattle.cases.proofs.RunLaws.{stands_next, stands_done}
use Rattle.cases.proofs.runs.run_all.Goals as goal

pub run_vector-requires-clause-fields : goal.run_vector-requires-clause-fields
run_vector-requires-clause-fields g c =
    let W = within _ _ _ _ c.in-Some.ensures in
    omega (arith, W.fields_size, c.fields.ensures)

pub run_vector-requires-clause-calls : goal.run_vector-requires-clause-calls
run_vector-requires-clause-calls g c =
    let W = within _ _ _ _ c.in-Some.ensures in
    omega (arith, W.expected, c.loop-v.invariant.fewer)

pub count-totals-requires : goal.count-totals-requires
count-totals-requires g c =
    let W = within _ _ _ _ c.in-Some.ensures in
    let I = c.loop-v.invariant in
    record {
      vectors = omega (arith, W.shorter, I.fewer, I.grown.vectors, c.requires.room.vectors);
      differences = omega (arith, W.shorter, I.fewer, I.grown.differences, c.requires.room.differences);
    }

pub loop-v-smaller : goal.loop-v-smaller
loop-v-smaller g c =
    let W = within _ _ _ _ c.in-Some.ensures in
    omega (arith, W.shorter)

pub loop-v-preserved : goal.loop-v-preserved
loop-v-preserved g c =
    let W = within _ _ _ _ c.in-Some.ensures in
    let I = c.loop-v.invariant in
    let o = c.in_ok-run_vector.ensures in
    let b = counted_grown c.loop-v.totals c.in_ok-run_vector.field-0 in
    record {
      fewer = omega (arith, W.shorter, I.fewer);
      grown = rw c.count-totals.ensures (record {
        vectors = omega (arith, W.shorter, I.fewer, I.grown.vectors, b.vectors);
        differences = omega (arith, W.shorter, I.fewer, I.grown.differences, b.differences);
      });
      stands =
          rw (c.count-totals.ensures, o.agrees, o.leaves)
          (stands_next _ _ _ _ _ _ I.stands _ _ (rw c.fields.ensures at c.in-Some.ensures));
    }

pub returns : goal.returns
returns g c =
    let I = c.loop-v.invariant in
    record {
      run = stands_done _ _ _ _ _ _ I.stands (rw c.fields.ensures at c.in_default.ensures);
      grown = record { vectors = omega (arith, I.grown.vectors); differences = omega (arith, I.grown.differences) };
    }
