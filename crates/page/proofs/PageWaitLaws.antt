-- The steps of the results of a page: the waits between the models on its lines.
use Prim.Native.Nat.{ℕ, zero, suc, ◌*◌, ◌-◌, ◌<◌}
use mathlib.Core.List.{List, [], ◌∷◌}
use mathlib.Core.Logic.{◌⊎◌, inl, inr}
use mathlib.Core.Path.{◌≡◌}
use native.Mathlib.Omega.{arith}
use lib.ListN.{length}
use Rattle.lists.specs.Every.{Every}
use Rattle.formula.specs.Format.{Literal}
use Rattle.assumptions.specs.declared.Assumption.{Assumption}
use Rattle.walk.specs.Task.{Task, to_assign, Posed}
use Rattle.walk.specs.Checkpoints.{Checkpoint, trail_in, start}
use Rattle.walk.specs.PlainMachine.{Has}
use Rattle.walk.specs.Gaps.{ModelTrail, shared, ample_budget}
use Rattle.walk.specs.Results.{says_model, says_ended, Result}
use Rattle.walk.specs.WalkCall.{walk_call, walk_calls}
use Rattle.walk.specs.InnerLocate.{task_call}
use Rattle.walk.proofs.TaskLaws.{call_trail}
use Rattle.walk.proofs.HasLaws.{has_onward, has_ample, call_has, start_has}
use Rattle.walk.proofs.WaitLaws.{model_length, model_wait, start_wait}
use Rattle.page.specs.Pages.{ample_budgets, with_models, next_results, steps_at, trail_at}
use Rattle.page.proofs.NextLaws.{next_by}
use Rattle.page.proofs.NextModelLaws.{end_results}

-- results behind a model with the trail x: each one's steps are the wait between it and the one before
abbrev After : List Literal → List Result → Type 0
After x [] = Unit {0}
After x (r ∷ rs) = (let y = trail_in r.checkpoint in (r.steps ≡ 2 * (length y - shared x y)) × After y rs)

-- behind the first result
abbrev AfterFirst : List Result → Type 0
AfterFirst [] = Unit {0}
AfterFirst (r ∷ rs) = After (trail_in r.checkpoint) rs

-- by index
first_at : (rs : List Result) (i : ℕ) → AfterFirst rs → suc i < length rs
    → steps_at rs (suc i) ≡ 2 * (length (trail_at rs (suc i)) - shared (trail_at rs i) (trail_at rs (suc i)))
first_at [] i a h = absurd (omega arith)
first_at (r ∷ []) i a h = absurd (omega arith)
first_at (r ∷ (q ∷ rs)) zero a h = a.0
first_at (r ∷ (q ∷ rs)) (suc i) a h = first_at (q ∷ rs) i a.1 (omega arith)

module _ (s : List ℕ) (us : List Assumption) (T : Task) (P : Posed T) (walks : (c : Checkpoint) (b : ℕ) → walk_call s us c b ≡ task_call T c b) where
  -- what holds of the results of k + 1 calls from a checkpoint that the walk has: of the first call's and those behind it, or of none
  results_by : (Q : List Result → Type 0) (c : Checkpoint) → Has T c → (k : ℕ)
      → (let r = walk_call s us c ample_budget in r.kind ≡ says_model → Q (r ∷ next_results s us r.checkpoint k)) → Q [] → Q (next_results s us c (suc k))
  results_by Q c w k model none = at (has_ample s us T P walks c w ample_budget (omega arith))
    where
      at : ((walk_call s us c ample_budget).kind ≡ says_model) ⊎ ((walk_call s us c ample_budget).kind ≡ says_ended) → Q (next_results s us c (suc k))
      at (inl e) = rw (next_by s us c k says_model e) (model e)
      at (inr e) = rw (next_by s us c k says_ended e, (has_onward s us T P walks c w ample_budget).over e, end_results s us T P walks k) none

  -- from the checkpoint of a model
  waits_after : (k : ℕ) (c : Checkpoint) → Has T c → c.mode ≡ 1 → c.length ≡ to_assign T → After (trail_in c) (next_results s us c k)
  unfolding ample_budgets walk_calls with_models
  waits_after zero c w m l = tt
  waits_after (suc k) c w m l =
      results_by (After (trail_in c)) c w k (λ e. (model_wait s us T P walks c w m l ample_budget e, waits_after k _ (call_has s us T P walks c w ample_budget) ((has_onward s us T P walks c w ample_budget).mode e) (model_length s us T P walks c w ample_budget e))) tt

  -- from any checkpoint that the walk has: the results have the trails of their models,
  pub next_trails : (k : ℕ) (c : Checkpoint) → Has T c → Every (λ r. (x : List Literal) × ModelTrail T r x) (next_results s us c k)
  unfolding ample_budgets walk_calls with_models
  next_trails zero c w = tt
  next_trails (suc k) c w =
      results_by (Every (λ r. (x : List Literal) × ModelTrail T r x)) c w k
      (λ e. (call_trail s us T P walks c w ample_budget e, next_trails k _ (call_has s us T P walks c w ample_budget))) tt

  -- and the waits behind the first
  after_first : (k : ℕ) (c : Checkpoint) → Has T c → AfterFirst (next_results s us c k)
  unfolding ample_budgets walk_calls with_models
  after_first zero c w = tt
  after_first (suc k) c w =
      results_by AfterFirst c w k
      (λ e. waits_after k _ (call_has s us T P walks c w ample_budget) ((has_onward s us T P walks c w ample_budget).mode e) (model_length s us T P walks c w ample_budget e)) tt

  -- so it is on every line but the first,
  pub waits_between : (c : Checkpoint) → Has T c → (k i : ℕ) → suc i < length (next_results s us c k)
      → (let rs = next_results s us c k in steps_at rs (suc i) ≡ 2 * (length (trail_at rs (suc i)) - shared (trail_at rs i) (trail_at rs (suc i))))
  waits_between c w k i h = first_at (next_results s us c k) i (after_first k c w) h

  -- on the first if the checkpoint is that of a model,
  pub wait_first : (c : Checkpoint) → Has T c → c.mode ≡ 1 → c.length ≡ to_assign T → (k : ℕ) → 0 < length (next_results s us c k)
      → (let rs = next_results s us c k in steps_at rs 0 ≡ 2 * (length (trail_at rs 0) - shared (trail_in c) (trail_at rs 0)))
  wait_first c w m l k h = at (next_results s us c k) (waits_after k c w m l) h
    where
      at : (rs : List Result) → After (trail_in c) rs → 0 < length rs → steps_at rs 0 ≡ 2 * (length (trail_at rs 0) - shared (trail_in c) (trail_at rs 0))
      at [] a h = absurd (omega arith)
      at (r ∷ rs) a h = a.0

  -- and on the first from the start
  pub wait_start : (k : ℕ) → 0 < length (next_results s us start k) → steps_at (next_results s us start k) 0 ≡ to_assign T
  unfolding ample_budgets walk_calls with_models
  wait_start zero = λ h. absurd (omega arith)
  wait_start (suc k) =
      results_by (λ rs. 0 < length rs → steps_at rs 0 ≡ to_assign T) start (start_has s us T P walks) k (λ e h. start_wait s us T P walks ample_budget e)
      (λ h. absurd (omega arith))
