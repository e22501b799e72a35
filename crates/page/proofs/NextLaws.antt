-- What walk calls bring one after the other: the results with models and the checkpoint behind them, of any calls.
use Prim.Native.Nat.{ℕ, zero, suc, ◌+◌, ◌<◌}
use mathlib.Core.List.{List, [], ◌∷◌, ◌++◌}
use mathlib.Core.Path.{◌≡◌, refl, sym, ap, ◌∙◌}
use native.Mathlib.Omega.{arith}
use lib.ListN.{replicate-append-replicate}
use Rattle.lists.specs.Every.{Every}
use Rattle.assumptions.specs.declared.Assumption.{Assumption}
use Rattle.walk.specs.Checkpoints.{Checkpoint}
use Rattle.walk.specs.Gaps.{ample_budget}
use Rattle.walk.specs.Results.{AnswerKind, says_model, says_spent, says_ended, says_refused, Result}
use Rattle.walk.specs.WalkCall.{walk_call, walk_calls, last_checkpoint}
use Rattle.walk.proofs.BudgetLaws.{calls_append, last_checkpoint_append}
use Rattle.walk.proofs.RefusalLaws.{call_steps}
use Rattle.page.specs.Pages.{ample_budgets, if_model, with_models, next_results, next_checkpoint}

-- the budgets of j calls and of k more
ample_append : (j k : ℕ) → ample_budgets (j + k) ≡ ample_budgets j ++ ample_budgets k
unfolding ample_budgets
ample_append j k = sym (replicate-append-replicate j k ample_budget)

-- the results with models of two lists
models_append : (rs ts : List Result) → with_models (rs ++ ts) ≡ with_models rs ++ with_models ts
unfolding with_models
models_append [] ts = refl
models_append (r ∷ rs) ts = ap (if_model r.kind r) (models_append rs ts) ∙ at r.kind
  where
    at : (k : AnswerKind) → if_model k r (with_models rs ++ with_models ts) ≡ if_model k r (with_models rs) ++ with_models ts
    at says_model = refl
    at says_spent = refl
    at says_ended = refl
    at says_refused = refl

-- what holds of every result holds of those with models
models_every : (P : Result → Type 0) (rs : List Result) → Every P rs → Every P (with_models rs)
unfolding with_models
models_every P [] h = tt
models_every P (r ∷ rs) h = at r.kind (models_every P rs h.1)
  where
    at : (k : AnswerKind) → Every P (with_models rs) → Every P (if_model k r (with_models rs))
    at says_model i = (h.0, i)
    at says_spent i = i
    at says_ended i = i
    at says_refused i = i

module _ (s : List ℕ) (us : List Assumption) where
  -- the next results, of j calls and of k more
  pub next_append : (c : Checkpoint) (j k : ℕ) → next_results s us c (j + k) ≡ next_results s us c j ++ next_results s us (next_checkpoint s us c j) k
  next_append c j k =
      rw (ample_append j k, calls_append s us (ample_budgets j) (ample_budgets k) c)
      (models_append (walk_calls s us c (ample_budgets j)) (walk_calls s us (next_checkpoint s us c j) (ample_budgets k)))

  pub checkpoint_append : (c : Checkpoint) (j k : ℕ) → next_checkpoint s us c (j + k) ≡ next_checkpoint s us (next_checkpoint s us c j) k
  checkpoint_append c j k = rw (ample_append j k) (last_checkpoint_append s us (ample_budgets j) (ample_budgets k) c)

  -- no call, and one before k more
  pub checkpoint_zero : (c : Checkpoint) → next_checkpoint s us c 0 ≡ c
  unfolding ample_budgets last_checkpoint
  checkpoint_zero c = refl

  pub next_by : (c : Checkpoint) (k : ℕ) (q : AnswerKind) → (walk_call s us c ample_budget).kind ≡ q
      → next_results s us c (suc k) ≡ if_model q (walk_call s us c ample_budget) (next_results s us (walk_call s us c ample_budget).checkpoint k)
  unfolding ample_budgets walk_calls with_models
  next_by c k q e = ap (λ (x : AnswerKind). if_model x (walk_call s us c ample_budget) (next_results s us (walk_call s us c ample_budget).checkpoint k)) e

  -- no result has more than 96 steps
  calls_steps : (c : Checkpoint) (k : ℕ) → Every (λ r. r.steps < 1000) (walk_calls s us c (ample_budgets k))
  unfolding ample_budgets walk_calls
  calls_steps c zero = tt
  calls_steps c (suc k) = (omega (arith, call_steps s us c ample_budget), calls_steps (walk_call s us c ample_budget).checkpoint k)

  pub next_steps : (c : Checkpoint) (k : ℕ) → Every (λ r. r.steps < 1000) (next_results s us c k)
  next_steps c k = models_every (λ r. r.steps < 1000) (walk_calls s us c (ample_budgets k)) (calls_steps c k)
