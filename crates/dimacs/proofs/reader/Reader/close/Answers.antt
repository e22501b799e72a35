-- `close`: a clause is open, the number differs, or the last record is kept.
use mathlib.Core.Path.{◌≡◌, sym, ◌∙◌}
use borrow.Author.Rules.{rules}
use Rattle.formula.specs.InnerFits.{clause_variables}
use Rattle.dimacs.proofs.KeepLaws.{end_room, close_open, close_differs, close_done}
use Rattle.dimacs.proofs.reader.Reader.close.Goals.{After-variables}
use Rattle.dimacs.proofs.reader.Reader.close.Goals as goal

-- no clause is open
none : (t : After-variables) → t.variables.result ≡ 0 → clause_variables t.args.self.now.current ≡ 0
none t e = sym t.variables.ensures ∙ e

pub returns-then-variables-ne0 : goal.returns-then-variables-ne0
returns-then-variables-ne0 c = λ n s c' d k e. close_open k c.args.len d (λ z. c.if-variables-ne0.true (c.variables.ensures ∙ z))

pub returns-then-self-p : goal.returns-then-self-p
returns-then-self-p c =
    let t = (goal.at.returns-then-self-p c).After-variables in
    λ n s c' d k e. close_differs k c.args.len d (none t c.if-variables-ne0.false) c' c.args.p e c.if-self-p.true

pub push-requires : goal.push-requires
push-requires c = (search rules, end_room c.requires.keeps)

pub returns : goal.returns
returns c =
    let t = (goal.at.returns c).After-variables in
    λ n s c' d k e. rw (c.push.ensures.items, c.from.ensures) (close_done k c.args.len d (none t c.if-variables-ne0.false) c' c.args.p e c.if-self-p.false)
