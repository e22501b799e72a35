-- `trail_of`: the bytes before the length, or all.
use Rattle.std.proofs.Common.{ℕ, map, min, ap, ◌∙◌, rules}
use Rattle.limits.specs.Limits.{max_variables}
use Rattle.walk.specs.Checkpoints as walk
use Rattle.cases.proofs.WaitingLaws.{trail_bytes}
use Rattle.cases.proofs.waiting.trail_of.Goals as goal

pub returns-clause-trail : goal.returns-clause-trail
unfolding walk.trail_in
returns-clause-trail c =
    ap (map walk.byte_literal)
    (trail_bytes c.args.c.now.bytes c.args.c.now.length max_variables c.min.result (c.min.ensures ∙ ap (λ (n : ℕ). min n max_variables) c.from.ensures) (search rules))
