-- What a run's state and answer tell: the checkpoint, and the result of a walk call.
use Rattle.std.proofs.Common.{◌≡◌, ℕ, map, length, refl, sym, ap, ◌∙◌, arith}
use Rattle.limits.specs.Limits.{max_variables}
use Rattle.lists.specs.Padded.{padded}
use Rattle.walk.specs.Checkpoints.{byte, checkpoint_of}
use Rattle.walk.specs.InnerStack.{Stack, empty, push, depth, trail_of, Tree}
use Rattle.walk.specs.InnerTest.{mode_of, stack_of, shown}
use Rattle.walk.proofs.PositionLaws.{length_trail}
use Rattle.enumeration.specs.declared.state.Place.{Place}
use Rattle.enumeration.specs.declared.state.Place.TheVariants.{Down, Full, UndoneFalse, UndoneTrue, Over}
use Rattle.enumeration.specs.declared.state.State.{State}
use Rattle.enumeration.specs.InnerState.{stack_in, position_at, position_in, Holds}

module _ (K : Tree) (s : State) (h : Holds K s) where
  -- the position's trail is the state's
  stack_held : (p : Place) → s.place ≡ p → stack_in s ≡ stack_of (position_at p (stack_in s))
  stack_held Down e = refl
  stack_held Full e = refl
  stack_held UndoneFalse e = refl
  stack_held UndoneTrue e = refl
  stack_held Over e = none (stack_in s) (h.deep ∙ h.at_over e)
    where
      none : (t : Stack) → depth t ≡ 0 → t ≡ empty
      none empty e = refl
      none (push v b t) e = absurd (omega arith)

  -- so the state's length and bytes make its checkpoint
  pub tells : (m : ℕ) → m ≡ mode_of (position_in s) → record { mode = m; length = s.length; bytes = s.bytes } ≡ shown (position_in s)
  unfolding checkpoint_of
  tells m e =
      let p = position_in s in
      let q = stack_held s.place refl in
      let l : s.length ≡ length (trail_of (stack_of p)) = sym h.deep ∙ sym (length_trail (stack_in s)) ∙ ap (λ (t : Stack). length (trail_of t)) q in
      let b : s.bytes ≡ padded max_variables 0 (map byte (trail_of (stack_of p))) = h.bytes ∙ ap (λ (t : Stack). padded max_variables 0 (map byte (trail_of t))) q in
      λ i. record { mode = e i; length = l i; bytes = b i }
