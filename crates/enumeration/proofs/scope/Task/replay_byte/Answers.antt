-- `replay_byte` meets its contract: by the length, the chosen variable and the value.
use Rattle.std.proofs.Common.{◌≡◌, sym, ap, ◌∙◌, arith}
use Rattle.walk.specs.Checkpoints.{byte_value}
use Rattle.walk.specs.InnerStack.{Tree}
use Rattle.enumeration.specs.declared.state.State.{State}
use Rattle.enumeration.specs.InnerState.{Follows, Holds, stack_in, pushing}
use Rattle.enumeration.proofs.ReplayLaws.{choice_is, replayed_full, replayed_other, replayed_shut, replayed_chosen}
use Rattle.enumeration.proofs.scope.Task.replay_byte.Goals.{After-pick-free, then-number_of-choice-via-then-number_of-choice, then-number_of-choice-via-else-number_of-choice+then-not-is_open}
use Rattle.enumeration.proofs.scope.Task.replay_byte.Goals as goal

-- the choice is the tree's
choice : (c : After-pick-free) (K : Tree) → Follows c.args.self.now.formula c.args.self.now.scope K → Holds K c.args.s → c.pick-free.result.choice ≡ K.choose (stack_in c.args.s)
choice c K F h = choice_is _ _ K F _ h c.if-s-self.false _ c.pick-free.ensures.choice

pub returns-then-s-self : goal.returns-then-s-self
returns-then-s-self c = λ K F h. replayed_full _ _ K F _ h _ _ c.if-s-self.true

pub returns-then-number_of-choice : goal.returns-then-number_of-choice
returns-then-number_of-choice c =
    λ K F h.
    let e = choice (goal.at.returns-then-number_of-choice c).After-pick-free K F h in
    let n = c.number_of.ensures in
    let o = c.requires.2 in
    elim c.then-number_of-choice.branch [
      | then-number_of-choice-via-then-number_of-choice w ↦ replayed_other _ _ K F _ h c.if-s-self.false _ e _ _ (λ q. w.if-number_of-choice.true (omega arith))
      | then-number_of-choice-via-else-number_of-choice+then-not-is_open w ↦
          let q = w.if-number_of-choice.false in
          replayed_shut _ _ K F _ h c.if-s-self.false _ e _ _ (omega arith) (sym w.is_open.ensures ∙ w.if-not-is_open.true)
    ]

pub returns : goal.returns
returns c =
    λ K F h.
    let n = c.number_of.ensures in
    let q = c.if-number_of-choice.false in
    replayed_chosen _ _ K F _ h c.if-s-self.false _ (choice (goal.at.returns c).After-pick-free K F h) _ (byte_value c.args.b) _ _ (c.pick-free.ensures.right K F h)
    (omega arith) (sym c.is_open.ensures ∙ c.if-not-is_open.false)
    (c.push.ensures ∙ ap (λ (u : State). pushing u c.pick-free.result.choice.variable (byte_value c.args.b)) c.note.ensures)
