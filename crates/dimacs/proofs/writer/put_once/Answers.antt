-- `put_once` writes nothing, or the literal.
use Prim.Native.Nat.{◌-◌}
use mathlib.Core.Bool.{Bool}
use mathlib.Core.Path.{◌≡◌, sym, ◌∙◌}
use Rattle.masks.specs.Mask.{bit}
use Rattle.masks.proofs.MembersLaws.{with_member}
use Rattle.writing.proofs.PlacedLaws.{puts_none}
use Rattle.dimacs.proofs.writer.put_once.Goals.{After-member}
use Rattle.dimacs.proofs.writer.put_once.Goals as goal

-- the line has the variable, or not
has : (d : After-member) (b : Bool) → d.member.result ≡ b → bit d.args.seen (d.args.k - 1) ≡ b
has d b e = rw d.from-v.ensures at (sym d.member.ensures ∙ e)

pub returns-then-member : goal.returns-then-member
returns-then-member c =
    let a = c.args in
    let b = has (goal.at.returns-then-member c).After-member _ c.if-member.true in
    rw b (puts_none a.w.now (rw b at c.requires.2), sym (with_member a.seen (a.k - 1) b))
