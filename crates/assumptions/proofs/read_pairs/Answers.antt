-- `read_pairs`: the loop has read the first i pairs.
use Prim.Native.Nat.{◌<◌}
use mathlib.Core.Path.{◌≡◌, sym, ◌∙◌}
use native.Mathlib.Omega.{arith}
use lib.ListN.{length, get_or}
use Rattle.std.proofs.lemmas.Result.{err_from_is_err_and}
use Rattle.assumptions.specs.Bytes.{of_bytes}
use Rattle.assumptions.proofs.PairsLaws.{pairs_length, pairs_at}
use Rattle.assumptions.proofs.TakenLaws.{taken_none, taken_all, taken_bad, taken_next}
use Rattle.assumptions.proofs.read_pairs.Goals.{After-pair}
use Rattle.assumptions.proofs.read_pairs.Goals as goal

-- the pair is one of the list's
inside : (c : After-pair) → c.loop-i.i < length (of_bytes c.args.bytes.now)
inside c = omega (arith, pairs_length c.args.bytes.now)

read : (c : After-pair) → get_or (of_bytes c.args.bytes.now) c.loop-i.i c.pair.result ≡ c.pair.result
read c = pairs_at _ _ _ (inside c) ∙ sym c.pair.ensures

pub loop-i-init : goal.loop-i-init
loop-i-init c = rw c.none-a.ensures (taken_none _ _)

pub returns-in_err-a : goal.returns-in_err-a
returns-in_err-a c =
    let p = err_from_is_err_and c.from_residual.result c.from_residual.ensures.1 in
    let h = (goal.at.returns-in_err-a c).After-pair in
    rw (p.1, p.2) (sym (taken_bad c.loop-i.invariant _ _ (inside h) (read h) _ (sym c.take.ensures ∙ c.in_err-a.was)))

pub loop-i-preserved : goal.loop-i-preserved
loop-i-preserved c =
    let h = (goal.at.loop-i-preserved c).After-pair in
    taken_next c.loop-i.invariant _ _ (inside h) (read h) _ (sym c.take.ensures ∙ c.in_ok-a.was)

pub returns : goal.returns
returns c = sym (taken_all c.loop-i.invariant (omega (arith, pairs_length c.args.bytes.now)))
