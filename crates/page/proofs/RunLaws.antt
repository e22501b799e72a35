-- Runs from a position, up to the first that brings no model: what each run adds, and how many steps it makes.
use Prim.Native.Nat.{ℕ, zero, suc, ◌≤◌, ◌<◌}
use mathlib.Core.List.{List, [], ◌∷◌}
use mathlib.Core.Path.{◌≡◌, refl, sym, ap, ◌∙◌}
use native.Mathlib.Omega.{arith}
use lib.ListN.{length}
use Rattle.lists.specs.Every.{Every}
use Rattle.walk.specs.Gaps.{ample_budget}
use Rattle.walk.specs.PlainMachine.{Answer, found, spent, ended}
use Rattle.walk.specs.InnerStack.{Tree}
use Rattle.walk.specs.InnerMachine.{Position, over, next, resume}
use Rattle.walk.specs.InnerCall.{resumed_result}
use Rattle.walk.specs.Results.{AnswerKind, says_model, says_spent, says_ended, says_refused, Result, answer_kind, model_of}
use Rattle.walk.proofs.LoopLaws.{loop_over}
use Rattle.walk.proofs.CallLaws.{resume_within}
use Rattle.enumeration.specs.declared.steps.Answer.TheVariants.{Model}
use Rattle.enumeration.specs.declared.steps.Run.{Run}
use Rattle.enumeration.specs.InnerState.{position_in, Ran, answer_as}
use Rattle.page.specs.InnerPages.{while_model, stop_of, found_from, stopped_from}

-- ---- all runs

-- the results of a run and of those behind it
module _ (r : Result) (rs : List Result) where
  every_while : (P : Result → Type 0) (x : AnswerKind) → P r → Every P rs → Every P (while_model x r rs)
  every_while P says_model h k = (h, k)
  every_while P says_spent h k = tt
  every_while P says_ended h k = tt
  every_while P says_refused h k = tt

  length_while : (k : ℕ) (x : AnswerKind) → length rs ≤ k → length (while_model x r rs) ≤ suc k
  length_while k says_model h = omega arith
  length_while k says_spent h = omega arith
  length_while k says_ended h = omega arith
  length_while k says_refused h = omega arith

module _ (K : Tree) where
  -- the steps of each model have at most 3 digits
  pub found_steps : (k : ℕ) (p : Position) → Every (λ r. r.steps < 1000) (found_from K k p)
  unfolding found_from
  found_steps zero p = tt
  found_steps (suc k) p =
      let q = resume K ample_budget p in
      every_while _ _ (λ r. r.steps < 1000) (answer_kind q.answer) (omega (arith, resume_within K ample_budget p)) (found_steps k q.position)

  -- k runs bring at most k models
  pub found_most : (k : ℕ) (p : Position) → length (found_from K k p) ≤ k
  unfolding found_from
  found_most zero p = omega arith
  found_most (suc k) p = let q = resume K ample_budget p in length_while _ _ k (answer_kind q.answer) (found_most k q.position)

  -- past the end no run brings a model
  pub over_found : (k : ℕ) → found_from K k over ≡ []
  unfolding found_from next
  over_found zero = refl
  over_found (suc k) = rw (loop_over K ample_budget over refl)

  pub over_stopped : (k : ℕ) → stopped_from K k over ≡ over
  unfolding stopped_from next
  over_stopped zero = refl
  over_stopped (suc k) = rw (loop_over K ample_budget over refl)

-- ---- one run

-- the answer of a run that ends with a model
answer_found : (a : Answer) (m : ℕ) → Model m ≡ answer_as a → a ≡ found m
answer_found (found a) m h = let e : a ≡ m = cc in ap found e
answer_found spent m h = absurd cc
answer_found ended m h = absurd cc

module _ (K : Tree) (p : Position) (r : Run) (R : Ran K r (resume K ample_budget p)) where
  -- its steps have at most 3 digits
  pub run_steps : r.steps < 1000
  run_steps = omega (arith, R.steps, resume_within K ample_budget p)

  module _ (m : ℕ) (e : r.answer ≡ Model m) where
    abbrev brings : (resume K ample_budget p).answer ≡ found m
    brings = answer_found (resume K ample_budget p).answer m (sym e ∙ R.answer)

    -- the model that it brings, the models behind it, and where these stop
    pub run_model : (resumed_result (resume K ample_budget p)).model ≡ m
    run_model = ap model_of brings

    pub run_found : (k : ℕ) → found_from K (suc k) p ≡ resumed_result (resume K ample_budget p) ∷ found_from K k (position_in r.state)
    unfolding found_from
    run_found k = rw (brings, R.position)

    pub run_stops : (k : ℕ) → stopped_from K (suc k) p ≡ stopped_from K k (position_in r.state)
    unfolding stopped_from
    run_stops k = rw (brings, R.position)

  -- if it brings none it is the last
  pub run_last : ((m : ℕ) → r.answer ≡ Model m → ⊥) → (k : ℕ) → (found_from K (suc k) p ≡ []) × (stopped_from K (suc k) p ≡ position_in r.state)
  unfolding found_from stopped_from
  run_last h k = let q = resume K ample_budget p in rw R.position (at q.answer (λ m e. h m (R.answer ∙ sym e)))
    where
      at : (a : Answer) → ((m : ℕ) → Model m ≡ answer_as a → ⊥)
          → (let q = resume K ample_budget p in
          (while_model (answer_kind a) (resumed_result q) (found_from K k q.position) ≡ []) × (stop_of (answer_kind a) q.position (stopped_from K k q.position) ≡ q.position))
      at (found m) h = absurd (h m refl)
      at spent h = (refl, refl)
      at ended h = (refl, refl)
