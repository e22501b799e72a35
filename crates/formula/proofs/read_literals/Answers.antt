-- `read_literals`: the invariant is that reading has passed from r to the reader. The measure is the number of bytes that are left.
use mathlib.Core.Path.{sym, ◌∙◌}
use Rattle.formula.proofs.LiteralLaws.{passes_more, passes_all}
use Rattle.formula.proofs.read_literals.Goals as goal

pub loop-after-preserved : goal.loop-after-preserved
loop-after-preserved c = passes_more _ _ _ _ c.loop-after.invariant (sym c.past_literal.ensures ∙ c.in-Some.is)

pub returns : goal.returns
returns c = passes_all _ _ _ c.loop-after.invariant (sym c.past_literal.ensures ∙ c.in_default.is)
