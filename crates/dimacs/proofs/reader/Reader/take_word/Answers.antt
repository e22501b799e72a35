-- `take_word`: by the token.
use mathlib.Core.Path.{sym, ◌∙◌}
use Rattle.dimacs.specs.Text.{token}
use Rattle.dimacs.proofs.GoesLaws.{Named, held_ends, held_literal, word_literal}
use Rattle.dimacs.proofs.reader.Reader.take_word.Goals.{In-Some-Literal}
use Rattle.dimacs.proofs.reader.Reader.take_word.Goals as goal

-- the token of a word that names a variable
literal : (c : In-Some-Literal) → Named (token c.args.word.bytes.now) c.in-Some-Literal.sign c.in-Some-Literal.k
literal c = let s = c.in-Some-Literal in held_literal _ _ _ (rw s.field-0-is at (sym c.read_token.ensures ∙ s.is))

pub returns-in-Some-Ends : goal.returns-in-Some-Ends
returns-in-Some-Ends c = λ n s k.
    let e = c.in-Some-Ends in
    rw (held_ends (token c.args.word.bytes.now) (rw e.field-0-is at (sym c.read_token.ensures ∙ e.is))) (c.take_end.ensures n s k)

pub returns-in-Some-Literal : goal.returns-in-Some-Literal
returns-in-Some-Literal c = λ n s k.
    let w = c.args.word in
    rw (word_literal n w.at s w.bytes.now _ _ k.sized.most (literal (goal.at.returns-in-Some-Literal c).In-Some-Literal)) (c.take_literal.ensures n s k)
