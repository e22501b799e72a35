-- `take_undone` meets its contract: by the length, then by the value and what is open.
use Rattle.std.proofs.Common.{◌≡◌, inl, inr, sym, ◌∙◌}
use borrow.Author.Tests.{eqb-true, not-true, not-false}
use Rattle.walk.specs.InnerStack.{Tree}
use Rattle.enumeration.specs.InnerState.{Follows, Holds, stack_in}
use Rattle.enumeration.proofs.ReplayLaws.{choice_is}
use Rattle.enumeration.proofs.PlaceLaws.{taken_full, taken_true_none, taken_true, taken_false_none, taken_false}
use Rattle.enumeration.proofs.scope.Task.take_undone.Goals.{After-choose-c, then-s-eq0-via-then-s-eq0, then-s-eq0-via-else-s-eq0+then-not-c, then-not-c-2-via-then-not-c-2, then-not-c-2-via-else-not-c-2+then-not-c-3, then-s-eq0-2, else-s-eq0-2}
use Rattle.enumeration.proofs.scope.Task.take_undone.Goals as goal

-- the choice is the tree's
choice : (c : After-choose-c) (K : Tree) → Follows c.args.self.now.formula c.args.self.now.scope K → Holds K c.args.s → c.choose-c.result ≡ K.choose (stack_in c.args.s)
choice c K F h = choice_is _ _ K F _ h c.if-s-self.false _ c.choose-c.ensures

pub returns-then-s-self : goal.returns-then-s-self
returns-then-s-self c = λ K F n. taken_full _ _ K F _ n c.args.value c.if-s-self.true

pub returns-then-s-eq0 : goal.returns-then-s-eq0
returns-then-s-eq0 c =
    λ K F n.
    rw c.if-value.true
    (taken_true_none _ _ K F _ n c.if-s-self.false _ (choice (goal.at.returns-then-s-eq0 c).After-choose-c K F n.holds)
    (elim c.then-s-eq0.branch [ then-s-eq0-via-then-s-eq0 w ↦ inl w.if-s-eq0.true | then-s-eq0-via-else-s-eq0+then-not-c w ↦ inr (not-true _ w.if-not-c.true) ]))

pub returns-then-value : goal.returns-then-value
returns-then-value c =
    λ K F n.
    rw c.if-value.true
    (taken_true _ _ K F _ n c.if-s-self.false _ (choice (goal.at.returns-then-value c).After-choose-c K F n.holds) c.if-s-eq0.false (not-false _ c.if-not-c.false))

pub returns-then-not-c-2 : goal.returns-then-not-c-2
returns-then-not-c-2 c =
    λ K F n.
    rw c.if-value.false
    (taken_false_none _ _ K F _ n c.if-s-self.false _ (choice (goal.at.returns-then-not-c-2 c).After-choose-c K F n.holds)
    (elim c.then-not-c-2.branch [
      | then-not-c-2-via-then-not-c-2 w ↦ inl (not-true _ w.if-not-c-2.true)
      | then-not-c-2-via-else-not-c-2+then-not-c-3 w ↦
          elim w.if-s-eq0-2.branch [
            | then-s-eq0-2 y ↦ inr (y.if-s-eq0-2.true, not-true _ (sym y.value-is ∙ w.if-not-c-3.true))
            | else-s-eq0-2 y ↦ absurd (y.if-s-eq0-2.false (eqb-true _ _ (sym y.value-is ∙ w.if-not-c-3.true)))
          ]
    ]))

pub returns : goal.returns
returns c =
    λ K F n.
    rw (c.if-value.false, c.mark.ensures)
    (taken_false _ _ K F _ n c.if-s-self.false _ (choice (goal.at.returns c).After-choose-c K F n.holds) (not-false _ c.if-not-c-2.false)
    (λ z. elim c.if-s-eq0-2.branch [
      | then-s-eq0-2 y ↦ not-false _ (sym y.value-is ∙ c.if-not-c-3.false)
      | else-s-eq0-2 y ↦ absurd (y.if-s-eq0-2.false z)
    ]))
