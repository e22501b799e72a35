-- `put_clause`: the invariant is that the line is written up to the literals that are left. The measure is the number of bytes that are left.
use mathlib.Core.Bool.{Bool}
use mathlib.Core.Path.{sym, ◌∙◌}
use native.Mathlib.Omega.{arith}
use borrow.Author.Rules.{rules}
use Rattle.dimacs.proofs.LineLaws.{LiteralAt, Ahead, ahead, Lining, lining_first, lining_inside, literal_room, lining_more, end_room, lining_last}
use Rattle.dimacs.proofs.writer.put_clause.Goals.{At-loop-sign, In-Some-Literal, Joined-of, in_default, in_default-2}
use Rattle.dimacs.proofs.writer.put_clause.Goals as goal

-- how far the line of the clause that stands there is written
going : (l : At-loop-sign) → (Lining l.args.input.now l.requires.rest l.requires.clause l.args.w.now l.loop-sign.w l.loop-sign.seen l.loop-sign.i)
going l = let v = l.requires in l.loop-sign.invariant v.clause v.rest v.bytes v.over

-- a literal stands at i
literal : (t : In-Some-Literal) → LiteralAt t.args.input.now t.loop-sign.i t.in-Some-Literal.sign
literal t = let s = t.in-Some-Literal in rw (s.field-0-is) at (sym t.of.ensures ∙ s.is)

-- and it is the first that is left
next : (t : In-Some-Literal) → (Ahead t.args.input.now t.requires.rest t.loop-sign.i (going (goal.at.In-Some-Literal t).At-loop-sign).left t.in-Some-Literal.sign)
next t = let d = (goal.at.In-Some-Literal t).At-loop-sign in ahead _ _ t.loop-sign.i (going d).left _ (going d).bytes (literal t)

-- or none stands there
none : (t : Joined-of) (p : Bool) → LiteralAt t.args.input.now t.loop-sign.i p → ⊥
none t p e = elim t.match-of.branch [ in_default w ↦ search rules | in_default-2 w ↦ search rules ]

pub loop-sign-init : goal.loop-sign-init
loop-sign-init c = let r = c.requires.room in λ v rest e o. lining_first c.args.input.now rest c.args.from v c.args.w.now e o (omega arith)

pub bounds-input-i : goal.bounds-input-i
bounds-input-i c = lining_inside (going (goal.at.bounds-input-i c).At-loop-sign)

pub put_once-seen-requires : goal.put_once-seen-requires
put_once-seen-requires c =
    let t = (goal.at.put_once-seen-requires c).In-Some-Literal in
    literal_room (going (goal.at.put_once-seen-requires c).At-loop-sign) (next t) c.requires.room

pub loop-sign-preserved : goal.loop-sign-preserved
loop-sign-preserved c =
    λ v rest e o.
    let g = c.loop-sign.invariant v rest e o in
    rw c.put_once-seen.ensures.1
    (lining_more g (ahead _ _ c.loop-sign.i g.left _ g.bytes (literal (goal.at.loop-sign-preserved c).In-Some-Literal)) _ c.put_once-seen.ensures.0)

pub put_word-requires : goal.put_word-requires
put_word-requires c =
    end_room (going (goal.at.put_word-requires c).At-loop-sign) (none (goal.at.put_word-requires c).Joined-of) c.requires.room

pub returns : goal.returns
returns c = λ v rest e o. lining_last (c.loop-sign.invariant v rest e o) (none (goal.at.returns c).Joined-of) _ c.put_word.ensures
