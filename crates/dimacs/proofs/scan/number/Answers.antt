-- `number`: the bytes before the index are digits, so those from there on decide, and they write the number behind `a`.
use Rattle.std.proofs.Common.{rules, ◌≡◌, ◌+◌, ◌*◌, ◌-◌, get_or, sym, ap, ◌∙◌, arith}
use Rattle.std.specs.Prelude.{Bool, Some}
use Rattle.writing.specs.Text.{digit_zero}
use Rattle.dimacs.specs.Text.{is_digit}
use Rattle.dimacs.proofs.ScanLaws.{digits_next, digits_bad, digits_end, capped_le, value_next, value_end, number_digits, number_other}
use Rattle.dimacs.proofs.scan.number.Goals.{After-is_ascii_digit}
use Rattle.dimacs.proofs.scan.number.Goals as goal

-- the byte there is a digit, or not
digit : (d : After-is_ascii_digit) (b : Bool) → d.is_ascii_digit.result ≡ b → is_digit (get_or d.args.word.now d.loop-x.x-index 0) ≡ b
digit d b e = search rules

pub returns-then-not-is_ascii_digit : goal.returns-then-not-is_ascii_digit
returns-then-not-is_ascii_digit c =
    let w = c.args.word.now in
    let d = digit (goal.at.returns-then-not-is_ascii_digit c).After-is_ascii_digit _ c.if-not-is_ascii_digit.true in
    sym (number_other w (search rules) (sym c.loop-x.invariant.1 ∙ digits_bad w c.loop-x.x-index (omega arith) d))

pub loop-x-preserved : goal.loop-x-preserved
loop-x-preserved c =
    let w = c.args.word.now in
    let i = c.loop-x.x-index in
    let d = digit (goal.at.loop-x-preserved c).After-is_ascii_digit _ c.if-not-is_ascii_digit.false in
    rw c.push_digit-a.ensures
    (capped_le (10 * c.loop-x.a + (get_or w i 0 - digit_zero)), digits_next w i (omega arith) d ∙ c.loop-x.invariant.1, value_next c.loop-x.a w i (omega arith) ∙ c.loop-x.invariant.2)

pub returns : goal.returns
returns c =
    let w = c.args.word.now in
    let i = c.loop-x.x-index in
    ap Some (value_end c.loop-x.a w i c.loop-x.invariant.0 (omega arith) ∙ c.loop-x.invariant.2)
    ∙ sym (number_digits w (search rules) (sym c.loop-x.invariant.1 ∙ digits_end w i (omega arith)))
