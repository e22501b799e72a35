-- `matched::find_matching_under` meets its contract: by the buffer's length, then by what comes of the input.
use native.Mathlib.Omega.{arith}
use Prim.Native.Nat.{ℕ}
use mathlib.Core.List.{List}
use mathlib.Core.Path.{refl, sym, ap, ◌∙◌}
use Rattle.lists.specs.Over.{over}
use Rattle.matched.proofs.JudgeLaws.{told, judge_short, accepted_judged, declined_judged}
use Rattle.matched.proofs.find_matching_under.Goals as goal

-- ---- what is answered
pub returns-then-buffer-lt-MAX_CLAUSES : goal.returns-then-buffer-lt-MAX_CLAUSES
returns-then-buffer-lt-MAX_CLAUSES c us g = told (judge_short c.args.input.now us c.args.buffer.now c.if-buffer-lt-MAX_CLAUSES.true) refl

pub returns-in-Ok : goal.returns-in-Ok
returns-in-Ok c us g =
    rw c.len.ensures.value
    (told (accepted_judged _ us _ c.if-buffer-lt-MAX_CLAUSES.false _ (sym (c.accept.ensures us g) ∙ c.in-Ok.is)) (c.write.ensures ∙ ap (λ (l : List ℕ). over l c.args.buffer.now) c.as_slice.ensures.value))

pub returns-in-Err : goal.returns-in-Err
returns-in-Err c us g =
    told (declined_judged _ us _ c.if-buffer-lt-MAX_CLAUSES.false _ (sym (c.accept.ensures us g) ∙ c.in-Err.is)) (c.write-in-Err.ensures ∙ ap (λ (l : List ℕ). over l c.args.buffer.now) c.as_slice-in-Err.ensures.value)

-- ---- what is asked on the way
pub write-requires : goal.write-requires
write-requires c = omega (arith, c.as_slice.ensures.fits, c.if-buffer-lt-MAX_CLAUSES.false)

pub write-requires-in-Err : goal.write-requires-in-Err
write-requires-in-Err c = omega (arith, c.as_slice-in-Err.ensures.fits, c.if-buffer-lt-MAX_CLAUSES.false)
