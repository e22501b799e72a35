-- `frame`: each return by the bytes that were there to split.
use Rattle.std.proofs.Common.{refl, arith, ◌∙◌}
use Rattle.vectors.proofs.FrameLaws.{framed_cut, framed_whole}
use Rattle.vectors.proofs.corpus.frame.Goals as goal

pub returns-in_err-head : goal.returns-in_err-head
returns-in_err-head c = rw c.from_residual.ensures (framed_cut _ _ _ refl (omega (arith, c.in_err-head.ensures.cases)))

pub returns-in_err-input : goal.returns-in_err-input
returns-in_err-input c =
    rw c.from_residual-in_err-input.ensures
    (framed_cut _ _ _ c.in_ok-head.ensures.cases.1 (omega (arith, c.in_ok-head.ensures.cases.4, c.in_err-input.ensures.cases)))

pub returns-in_err-assumptions : goal.returns-in_err-assumptions
returns-in_err-assumptions c =
    rw c.from_residual-in_err-assumptions.ensures
    (framed_cut _ _ _ c.in_ok-head.ensures.cases.1 (omega (arith, c.in_ok-head.ensures.cases.4, c.in_ok-input.ensures.cases.4, c.in_err-assumptions.ensures.cases)))

pub returns-in_err-expected : goal.returns-in_err-expected
returns-in_err-expected c =
    rw c.from_residual-in_err-expected.ensures
    (framed_cut _ _ _ c.in_ok-head.ensures.cases.1 (omega (arith, c.in_ok-head.ensures.cases.4, c.in_ok-input.ensures.cases.4, c.in_ok-assumptions.ensures.cases.4, c.in_err-expected.ensures.cases)))

pub returns-in_err-fields : goal.returns-in_err-fields
returns-in_err-fields c =
    rw c.from_residual-in_err-fields.ensures
    (framed_cut _ _ _ c.in_ok-head.ensures.cases.1 (omega (arith, c.in_ok-head.ensures.cases.4, c.in_ok-input.ensures.cases.4, c.in_ok-assumptions.ensures.cases.4, c.in_ok-expected.ensures.cases.4, c.in_err-fields.ensures.cases)))

pub returns : goal.returns
returns c =
    framed_whole _ _ _ _ _ _ _ _ _ _ _ _ _ _ _ _
    c.in_ok-head.ensures.cases
    (c.from.ensures ∙ c.two_bytes.ensures) c.in_ok-input.ensures.cases
    (c.from-2.ensures ∙ c.two_bytes-2.ensures) c.in_ok-assumptions.ensures.cases
    (c.from-3.ensures ∙ c.two_bytes-3.ensures) c.in_ok-expected.ensures.cases
    c.in_ok-fields.ensures.cases
    (c.from-4.ensures ∙ c.two_bytes-4.ensures)
