-- `first_wrong`: the invariant is that no value before i is wrong.
use Rattle.std.proofs.Common.{ℕ, ◌≡◌, ◌-◌, length}
use Rattle.vectors.specs.Comparing.{wrong_from, first_wrong, Gives}
use Rattle.vectors.proofs.comparing.first_wrong.Given as goal

abbrev pub invariant-loop-i : goal.invariant-loop-i
invariant-loop-i g l =
    (w : ℕ → g.row.T.Denot) →
    Gives (goal.F-post g l.wanted) w (length l.got) →
    wrong_from g.T.PartialEq.eq w l.got (length l.got - l.i) l.i ≡ first_wrong g.T.PartialEq.eq w l.got
