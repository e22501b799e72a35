-- `read_opening`: word by word.
use Rattle.std.proofs.Common.{◌≡◌, refl, sym, ◌∙◌}
use Rattle.std.specs.Prelude.{true}
use Rattle.dimacs.specs.Text.{opening, same, p_word, cnf_word}
use Rattle.dimacs.specs.InnerPiece.{piece_of}
use Rattle.dimacs.proofs.OpeningLaws.{word_compared, opening-first, opening_second, opening_more, words_end, opening_third, opening_fourth, opening_all}
use Rattle.dimacs.proofs.ScanLaws.{number-none, number-some}
use Rattle.dimacs.proofs.opening.read_opening.Goals as goal

pub returns-in_err-next : goal.returns-in_err-next
unfolding opening
returns-in_err-next c = rw (c.from_residual.ensures, ← c.new-words.ensures, c.in_err-next.ensures.steps.0) refl

pub returns-then-ne : goal.returns-then-ne
returns-then-ne c = rw (← c.new-words.ensures, c.in_ok-next.ensures.steps, opening-first (piece_of c.in_ok-next.field-0) _ (word_compared _ _ _ _ _ c.ne.ensures c.if-ne.true c.as_slice.ensures)) refl

pub returns-in_err-next-2 : goal.returns-in_err-next-2
unfolding opening
returns-in_err-next-2 c = rw (c.from_residual-in_err-next-2.ensures, ← c.new-words.ensures, c.in_ok-next.ensures.steps, c.in_err-next-2.ensures.steps.0) refl

pub returns-then-ne-2 : goal.returns-then-ne-2
returns-then-ne-2 c =
    rw (← c.new-words.ensures, c.in_ok-next.ensures.steps, c.in_ok-next-2.ensures.steps, opening_second (piece_of c.in_ok-next.field-0) (piece_of c.in_ok-next-2.field-0) _ (word_compared _ _ _ _ _ c.ne-2.ensures c.if-ne-2.true c.as_slice-2.ensures)) refl

pub returns-in_err-third : goal.returns-in_err-third
unfolding opening
returns-in_err-third c = rw (c.from_residual-in_err-third.ensures, ← c.new-words.ensures, c.in_ok-next.ensures.steps, c.in_ok-next-2.ensures.steps, c.in_err-third.ensures.steps.0) refl

pub returns-in_err-fourth : goal.returns-in_err-fourth
unfolding opening
returns-in_err-fourth c =
    rw (c.from_residual-in_err-fourth.ensures, ← c.new-words.ensures, c.in_ok-next.ensures.steps, c.in_ok-next-2.ensures.steps, c.in_ok-third.ensures.steps, c.in_err-fourth.ensures.steps.0) refl

pub returns-then-is_some : goal.returns-then-is_some
returns-then-is_some c =
    rw (
      ← c.new-words.ensures,
      c.in_ok-next.ensures.steps,
      c.in_ok-next-2.ensures.steps,
      c.in_ok-third.ensures.steps,
      c.in_ok-fourth.ensures.steps,
      opening_more _ _ _ _ _ _ c.next-5.result piece_of (sym c.is_some.ensures ∙ c.if-is_some.true) c.next-5.ensures.steps,
    ) refl

pub returns-in_err-number : goal.returns-in_err-number
returns-in_err-number c =
    rw (
      c.from_residual-in_err-number.ensures,
      ← c.new-words.ensures,
      c.in_ok-next.ensures.steps,
      c.in_ok-next-2.ensures.steps,
      c.in_ok-third.ensures.steps,
      c.in_ok-fourth.ensures.steps,
      words_end _ _ c.next-5.result piece_of (sym c.is_some.ensures ∙ c.if-is_some.false) c.next-5.ensures.steps,
      opening_third _ _ (piece_of c.in_ok-third.third) _ (number-none _ (sym c.number.ensures ∙ c.in_err-number.was)),
    ) refl

pub returns-in_err-number-2 : goal.returns-in_err-number-2
returns-in_err-number-2 c =
    rw (
      c.from_residual-in_err-number-2.ensures,
      ← c.new-words.ensures,
      c.in_ok-next.ensures.steps,
      c.in_ok-next-2.ensures.steps,
      c.in_ok-third.ensures.steps,
      c.in_ok-fourth.ensures.steps,
      words_end _ _ c.next-5.result piece_of (sym c.is_some.ensures ∙ c.if-is_some.false) c.next-5.ensures.steps,
      opening_fourth _ _ _ (piece_of c.in_ok-fourth.fourth) (number-none _ (sym c.number-2.ensures ∙ c.in_err-number-2.was)),
    ) refl

pub returns : goal.returns
returns c =
    let p : same c.in_ok-next.field-0.bytes.now p_word ≡ true = word_compared _ _ _ _ _ c.ne.ensures c.if-ne.false c.as_slice.ensures in
    let q : same c.in_ok-next-2.field-0.bytes.now cnf_word ≡ true = word_compared _ _ _ _ _ c.ne-2.ensures c.if-ne-2.false c.as_slice-2.ensures in
    let m = number-some _ _ (sym c.number.ensures ∙ c.in_ok-number.was) in
    let n = number-some _ _ (sym c.number-2.ensures ∙ c.in_ok-number-2.was) in
    rw (
      ← c.new-words.ensures,
      c.in_ok-next.ensures.steps,
      c.in_ok-next-2.ensures.steps,
      c.in_ok-third.ensures.steps,
      c.in_ok-fourth.ensures.steps,
      words_end _ _ c.next-5.result piece_of (sym c.is_some.ensures ∙ c.if-is_some.false) c.next-5.ensures.steps,
      opening_all (piece_of c.in_ok-next.field-0) (piece_of c.in_ok-next-2.field-0) (piece_of c.in_ok-third.third) (piece_of c.in_ok-fourth.fourth) p q m.0 n.0,
      m.1,
      n.1,
    ) refl
