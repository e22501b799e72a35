-- `matched::named_by` meets its contract.
use borrow.Author.Rules.{rules}
use mathlib.Core.List.{◌∷◌}
use mathlib.Core.Logic.{inl, inr, ⊎_elim}
use mathlib.Core.Path.{◌≡◌, sym, ◌∙◌}
use Rattle.matched.proofs.WeighLaws.{gathers_marked, gathers_unmarked, gathers_all}
use Rattle.matched.proofs.named_by.Goals.{In-Some}
use Rattle.matched.proofs.named_by.Goals as goal

-- the clause and the mark stand first in what was left
clause : (e : In-Some) → e.loop-c.c-iterator.a.rest.now ≡ e.in-Some.c.now ∷ e.next.new.self.a.rest.now
clause e = search rules

mark : (e : In-Some) → e.loop-c.c-iterator.b.rest.now ≡ e.in-Some.mark.now ∷ e.next.new.self.b.rest.now
mark e = search rules

pub loop-c-preserved-then-mark-ne0 : goal.loop-c-preserved-then-mark-ne0
loop-c-preserved-then-mark-ne0 c =
    let e = (goal.at.loop-c-preserved-then-mark-ne0 c).In-Some in
    gathers_marked c.loop-c.named (clause e) (mark e) c.if-mark-ne0.true _ c.variables-named.ensures ∙ c.loop-c.invariant

pub loop-c-preserved : goal.loop-c-preserved
loop-c-preserved c =
    let e = (goal.at.loop-c-preserved c).In-Some in
    gathers_unmarked c.loop-c.named (clause e) (mark e) c.if-mark-ne0.false ∙ c.loop-c.invariant

pub returns : goal.returns
returns c =
    sym (gathers_all c.loop-c.named _ _ (⊎_elim (λ w. inl w.1.0) (λ w. inr w.1.0) c.in-None.ensures.steps)) ∙ c.loop-c.invariant
