-- A task with nothing to assign: its walk is the model of the trail before, and the end.
use Prim.Native.Nat.{ℕ}
use mathlib.Core.List.{List, [], ◌∷◌, ◌++◌}
use mathlib.Core.Logic.{◌⊎◌, inl, inr, ◌↔◌}
use mathlib.Core.Path.{◌≡◌, refl, sym, ap, ◌∙◌}
use lib.ListN.{take, drop}
use Rattle.assumptions.specs.declared.Assumption.{Assumption}
use Rattle.walk.specs.Task.{Task, to_assign, Posed}
use Rattle.walk.specs.Plain.{Entry, model, end, assignment, node_walk, plain_walk, models_of, listing}
use Rattle.walk.specs.Checkpoints.{Checkpoint, checkpoint_of, start, past_all, behind, checkpoint_after}
use Rattle.walk.specs.PlainMachine.{found, ended, Call, at_once, go_on, plain_call, state_after, Has}
use Rattle.walk.specs.WalkCall.{walk_call}
use Rattle.walk.specs.InnerLocate.{task_call}
use Rattle.walk.specs.Results.{answered, plain_result}
use Rattle.walk.proofs.TaskLaws.{call_plain}

module _ (T : Task) (none : to_assign T ≡ 0) where
  -- the walk of two entries
  two_entries : plain_walk T ≡ model (assignment T.before) ∷ end ∷ []
  unfolding plain_walk node_walk
  two_entries = ap (λ (k : ℕ). node_walk T k T.before ++ (end ∷ [])) none

  pub one_model : listing T ≡ assignment T.before ∷ []
  unfolding listing models_of
  one_model = ap models_of two_entries

  -- its calls, whatever the budget
  first_call : (b : ℕ) → plain_call T b 0 ≡ at_once (found (assignment T.before)) 1
  unfolding plain_call go_on
  first_call b = ap (λ (l : List Entry). go_on l b 0) two_entries

  second_call : (b : ℕ) → plain_call T b 1 ≡ at_once ended 2
  unfolding plain_call go_on
  second_call b = ap (λ (l : List Entry). go_on (drop 1 l) b 1) two_entries

  later_call : (b : ℕ) → plain_call T b 2 ≡ at_once ended 2
  unfolding plain_call go_on
  later_call b = ap (λ (l : List Entry). go_on (drop 2 l) b 2) two_entries

  -- its checkpoints
  after_none : checkpoint_after T 0 ≡ start
  unfolding checkpoint_after behind past_all start
  after_none = refl

  after_model : checkpoint_after T 1 ≡ checkpoint_of 1 []
  unfolding checkpoint_after behind past_all
  after_model = ap (λ (l : List Entry). let b = past_all (record { mode = 0; trail = [] }) (take 1 l) in checkpoint_of b.mode b.trail) two_entries

  after_end : checkpoint_after T 2 ≡ checkpoint_of 4 []
  unfolding checkpoint_after behind past_all
  after_end = ap (λ (l : List Entry). let b = past_all (record { mode = 0; trail = [] }) (take 2 l) in checkpoint_of b.mode b.trail) two_entries

  -- where calls lead
  abbrev Three : ℕ → Type 0
  Three k = (k ≡ 0) ⊎ ((k ≡ 1) ⊎ (k ≡ 2))

  leads : (bs : List ℕ) (k : ℕ) → Three k → Three (state_after T k bs)
  unfolding state_after
  leads [] k h = h
  leads (b ∷ bs) k h = leads bs (plain_call T b k).behind (step h)
    where
      step : Three k → Three (plain_call T b k).behind
      step (inl e) = inr (inl (ap (λ (j : ℕ). (plain_call T b j).behind) e ∙ ap (λ (c : Call). c.behind) (first_call b)))
      step (inr (inl e)) = inr (inr (ap (λ (j : ℕ). (plain_call T b j).behind) e ∙ ap (λ (c : Call). c.behind) (second_call b)))
      step (inr (inr e)) = inr (inr (ap (λ (j : ℕ). (plain_call T b j).behind) e ∙ ap (λ (c : Call). c.behind) (later_call b)))

  state_1 : state_after T 0 (0 ∷ []) ≡ 1
  unfolding state_after
  state_1 = ap (λ (c : Call). c.behind) (first_call 0)

  state_2 : state_after T 0 (0 ∷ 0 ∷ []) ≡ 2
  unfolding state_after
  state_2 = ap (λ (c : Call). (plain_call T 0 c.behind).behind) (first_call 0) ∙ ap (λ (c : Call). c.behind) (second_call 0)

  -- it has three checkpoints
  pub three_checkpoints : (c : Checkpoint) → Has T c ↔ ((c ≡ start) ⊎ ((c ≡ checkpoint_of 1 []) ⊎ (c ≡ checkpoint_of 4 [])))
  unfolding state_after
  three_checkpoints c = (λ w. from (leads w.0 0 (inl refl)) w.1, to)
    where
      from : {k : ℕ} → Three k → checkpoint_after T k ≡ c → (c ≡ start) ⊎ ((c ≡ checkpoint_of 1 []) ⊎ (c ≡ checkpoint_of 4 []))
      from (inl e) q = inl (sym q ∙ ap (checkpoint_after T) e ∙ after_none)
      from (inr (inl e)) q = inr (inl (sym q ∙ ap (checkpoint_after T) e ∙ after_model))
      from (inr (inr e)) q = inr (inr (sym q ∙ ap (checkpoint_after T) e ∙ after_end))

      to : (c ≡ start) ⊎ ((c ≡ checkpoint_of 1 []) ⊎ (c ≡ checkpoint_of 4 [])) → Has T c
      to (inl e) = ([], after_none ∙ sym e)
      to (inr (inl e)) = (0 ∷ [], ap (checkpoint_after T) state_1 ∙ after_model ∙ sym e)
      to (inr (inr e)) = (0 ∷ 0 ∷ [], ap (checkpoint_after T) state_2 ∙ after_end ∙ sym e)

  -- an input that is walked as the task
  module _ (s : List ℕ) (us : List Assumption) (P : Posed T) (walks : (c : Checkpoint) (b : ℕ) → walk_call s us c b ≡ task_call T c b) where
    -- from the start: the model, with no step made
    pub call_first : (b : ℕ) → walk_call s us start b ≡ answered (found (assignment T.before)) 0 0 (checkpoint_of 1 [])
    unfolding state_after
    call_first b =
        ap (λ (c : Checkpoint). walk_call s us c b) (sym after_none)
        ∙ call_plain s us T P walks [] b
        ∙ ap (plain_result T) (first_call b)
        ∙ ap (answered (found (assignment T.before)) 0 0) after_model

    -- from there: the end
    pub call_second : (b : ℕ) → walk_call s us (checkpoint_of 1 []) b ≡ answered ended 0 0 (checkpoint_of 4 [])
    call_second b =
        ap (λ (c : Checkpoint). walk_call s us c b) (sym (ap (checkpoint_after T) state_1 ∙ after_model))
        ∙ call_plain s us T P walks (0 ∷ []) b
        ∙ ap (λ (k : ℕ). plain_result T (plain_call T b k)) state_1
        ∙ ap (plain_result T) (second_call b)
        ∙ ap (answered ended 0 0) after_end
