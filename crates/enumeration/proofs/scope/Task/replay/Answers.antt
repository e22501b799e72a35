-- `replay` meets its contract. The invariant: the state is the node of the bytes so far.
use Rattle.std.proofs.Common.{refl, arith}
use Rattle.enumeration.proofs.FormLaws.{formed_means, numbered_at}
use Rattle.enumeration.proofs.ReplayLaws.{replayed_next, replayed_stops}
use Rattle.enumeration.proofs.scope.Task.replay.Goals as goal

pub shared_ref_as_front-b-items : goal.shared_ref_as_front-b-items
shared_ref_as_front-b-items c = let w = formed_means _ c.requires.2 in omega (arith, w.length, c.from.ensures)

pub replay_byte-requires : goal.replay_byte-requires
replay_byte-requires c =
    let t = c.requires.1 in
    let w = formed_means _ c.requires.2 in
    let some = numbered_at _ _ c.loop-b-test.true (rw c.from.ensures w.numbers) in
    (c.requires.0, record { tree = t.tree; follows = t.follows; holds = (c.loop-b.invariant t.tree t.follows).holds }, omega (arith, some))

pub returns-in_err-s : goal.returns-in_err-s
returns-in_err-s c =
    λ K F.
    let n = c.loop-b.invariant K F in
    rw (c.from_residual.ensures, ← c.from.ensures)
    (replayed_stops K _ _ (replayed_next K _ _ c.loop-b.b-index c.loop-b.s c.loop-b-test.true n (c.in_err-s.ensures K F n.holds)))

pub loop-b-preserved : goal.loop-b-preserved
loop-b-preserved c =
    λ K F.
    let n = c.loop-b.invariant K F in
    (replayed_next K _ _ c.loop-b.b-index c.loop-b.s c.loop-b-test.true n (c.in_ok-s.ensures K F n.holds)).node _ refl
