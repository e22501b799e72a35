-- Walk calls by a checkpoint that the walk has.
use Prim.Native.Nat.{ℕ, ◌≤◌}
use mathlib.Core.List.{List, [], ◌∷◌, ◌++◌}
use mathlib.Core.Logic.{◌⊎◌}
use mathlib.Core.Path.{◌≡◌, sym, ◌∙◌, subst}
use Rattle.assumptions.specs.declared.Assumption.{Assumption}
use Rattle.walk.specs.Task.{Task, Posed}
use Rattle.walk.specs.Checkpoints.{Checkpoint, start}
use Rattle.walk.specs.PlainMachine.{state_after, Has}
use Rattle.walk.specs.WalkCall.{walk_call, last_checkpoint}
use Rattle.walk.specs.InnerLocate.{task_call}
use Rattle.walk.specs.Results.{says_model, says_ended}
use Rattle.walk.specs.Gaps.{ample_budget}
use Rattle.walk.proofs.TaskLaws.{Onward, call_onward, calls_ample, last_plain}

module _ (s : List ℕ) (us : List Assumption) (T : Task) (P : Posed T) (walks : (c : Checkpoint) (b : ℕ) → walk_call s us c b ≡ task_call T c b) where
  -- what a call from it gives
  pub has_onward : (c : Checkpoint) (w : Has T c) (b : ℕ) → Onward s us T P walks (state_after T 0 w.0) (state_after T 0 (w.0 ++ (b ∷ []))) (walk_call s us c b)
  has_onward c w b =
      subst (λ (d : Checkpoint). Onward s us T P walks (state_after T 0 w.0) (state_after T 0 (w.0 ++ (b ∷ []))) (walk_call s us d b)) w.1
      (call_onward s us T P walks w.0 b)

  -- an ample budget brings a model or the end
  pub has_ample : (c : Checkpoint) → Has T c → (b : ℕ) → ample_budget ≤ b → ((walk_call s us c b).kind ≡ says_model) ⊎ ((walk_call s us c b).kind ≡ says_ended)
  has_ample c w b h =
      subst (λ (d : Checkpoint). ((walk_call s us d b).kind ≡ says_model) ⊎ ((walk_call s us d b).kind ≡ says_ended)) (last_plain s us T P walks w.0 ∙ w.1)
      (calls_ample s us T P walks w.0 b h)

  -- the walk has the checkpoint that comes back
  pub call_has : (c : Checkpoint) → Has T c → (b : ℕ) → Has T (walk_call s us c b).checkpoint
  call_has c w b = (w.0 ++ (b ∷ []), (has_onward c w b).returned)

  -- and the start checkpoint
  unfoldable pub start_has : Has T start
  unfolding last_checkpoint
  start_has = ([], sym (last_plain s us T P walks []))
