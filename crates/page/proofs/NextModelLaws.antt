-- The next results from a checkpoint that the walk of an accepted input has: the models that are left, in order, and behind the last of
-- them the end.
use Prim.Native.Nat.{ℕ, zero, suc, ◌+◌, ◌-◌, ◌≤◌, ◌<◌}
use mathlib.Core.List.{List, [], ◌∷◌, ◌++◌, append-nil, map}
use mathlib.Core.Logic.{◌⊎◌, inl, inr, ⊎_elim, ◌↔◌}
use mathlib.Core.Path.{◌≡◌, refl, sym, ap, ◌∙◌}
use native.Mathlib.Omega.{arith}
use lib.ListN.{length, take, drop, drop_of_length-le}
use lib.Seq.{take_all, take_at, drop_at}
use Rattle.lists.specs.Every.{Every}
use Rattle.assumptions.specs.declared.Assumption.{Assumption}
use Rattle.walk.specs.Task.{Task, Posed}
use Rattle.walk.specs.Plain.{plain_walk, models_of, listing}
use Rattle.walk.specs.Checkpoints.{Checkpoint, checkpoint_of, start}
use Rattle.walk.specs.PlainMachine.{state_after, Has}
use Rattle.walk.specs.Gaps.{brings, ample_budget}
use Rattle.walk.specs.Results.{AnswerKind, says_model, says_ended, says_refused, Result}
use Rattle.walk.specs.WalkCall.{walk_call, walk_calls, last_checkpoint}
use Rattle.walk.specs.InnerLocate.{task_call}
use Rattle.walk.proofs.TaskLaws.{Onward, call_over}
use Rattle.walk.proofs.HasLaws.{has_onward, has_ample, start_has}
use Rattle.page.specs.Pages.{ample_budgets, with_models, next_results, next_checkpoint}
use Rattle.page.proofs.NextLaws.{next_append, next_by}

-- a result says model or ended
abbrev ModelOrEnded : Result → Type 0
ModelOrEnded r = (r.kind ≡ says_model) ⊎ (r.kind ≡ says_ended)

module _ (s : List ℕ) (us : List Assumption) (T : Task) (P : Posed T) (walks : (c : Checkpoint) (b : ℕ) → walk_call s us c b ≡ task_call T c b) where
  -- the checkpoint of the end
  abbrev at_end : Checkpoint
  at_end = checkpoint_of 4 []

  -- from there no model comes, and it stays
  pub end_results : (k : ℕ) → next_results s us at_end k ≡ []
  unfolding ample_budgets walk_calls with_models
  end_results zero = refl
  end_results (suc k) = rw (call_over s us T P walks ample_budget) (end_results k)

  pub end_checkpoint : (k : ℕ) → next_checkpoint s us at_end k ≡ at_end
  unfolding ample_budgets last_checkpoint
  end_checkpoint zero = refl
  end_checkpoint (suc k) = ap (λ (r : Result). next_checkpoint s us r.checkpoint k) (call_over s us T P walks ample_budget) ∙ end_checkpoint k

  -- the models that are left behind some calls
  abbrev left : List ℕ → List ℕ
  left bs = models_of (drop (state_after T 0 bs) (plain_walk T))

  -- one call from a checkpoint that the walk has
  one_onward : (c : Checkpoint) (w : Has T c)
      → Onward s us T P walks (state_after T 0 w.0) (state_after T 0 (w.0 ++ (ample_budget ∷ []))) (walk_call s us c ample_budget)
  one_onward c w = has_onward s us T P walks c w ample_budget

  -- it says model or ended
  one_answers : (c : Checkpoint) → Has T c → ModelOrEnded (walk_call s us c ample_budget)
  one_answers c w = has_ample s us T P walks c w ample_budget (omega arith)

  -- and is not refused
  pub one_unrefused : (c : Checkpoint) → Has T c → (walk_call s us c ample_budget).kind ≡ says_refused → ⊥
  one_unrefused c w e = at (one_answers c w)
    where
      at : ModelOrEnded (walk_call s us c ample_budget) → ⊥
      at (inl q) = let z : ◌≡◌ {A = ℕ} 0 1 = cc in omega arith
      at (inr q) = let z : ◌≡◌ {A = ℕ} 0 1 = cc in omega arith

  -- k calls from c: all bring a model,
  pub record Full (c : Checkpoint) (k : ℕ) : Type 0 where
    pub every : Every (λ r. r.kind ≡ says_model) (walk_calls s us c (ample_budgets k))
    pub count : length (next_results s us c k) ≡ k
    pub mode : 0 < k → (next_checkpoint s us c k).mode ≡ 1

  -- or fewer models come, and the checkpoint is that of the end
  pub record Fewer (c : Checkpoint) (k : ℕ) : Type 0 where
    pub count : length (next_results s us c k) < k
    pub checkpoint : next_checkpoint s us c k ≡ at_end

  -- k calls from c, which stands behind the calls bs
  pub record Nexts (bs : List ℕ) (c : Checkpoint) (k : ℕ) : Type 0 where
    pub models : map (λ r. r.model) (next_results s us c k) ≡ take k (left bs)
    pub answers : Every ModelOrEnded (walk_calls s us c (ample_budgets k))
    pub comes : Full c k ⊎ Fewer c k
    pub has : Has T (next_checkpoint s us c k)

  -- one call before k more brings a model,
  model_first : (k : ℕ) (c : Checkpoint) (w : Has T c) → (walk_call s us c ample_budget).kind ≡ says_model
      → Nexts (w.0 ++ (ample_budget ∷ [])) (walk_call s us c ample_budget).checkpoint k → Nexts w.0 c (suc k)
  unfolding ample_budgets walk_calls last_checkpoint
  model_first k c w e i = record {
    models = ap (map (λ r. r.model)) more ∙ ap {B = List ℕ} (λ l. r.model ∷ l) i.models ∙ ap (take (suc k)) (sym ahead);
    answers = (inl e, i.answers);
    comes = at i.comes;
    has = i.has;
  }
    where
      r : Result
      r = walk_call s us c ample_budget

      more : next_results s us c (suc k) ≡ r ∷ next_results s us r.checkpoint k
      more = next_by s us c k says_model e

      ahead : left w.0 ≡ r.model ∷ left (w.0 ++ (ample_budget ∷ []))
      ahead = (one_onward c w).models ∙ ap (λ (x : AnswerKind). brings x r.model ++ left (w.0 ++ (ample_budget ∷ []))) e

      mode : (j : ℕ) → (0 < j → (next_checkpoint s us r.checkpoint j).mode ≡ 1) → (next_checkpoint s us r.checkpoint j).mode ≡ 1
      mode zero h = (one_onward c w).mode e
      mode (suc j) h = h (omega arith)

      at : Full r.checkpoint k ⊎ Fewer r.checkpoint k → Full c (suc k) ⊎ Fewer c (suc k)
      at (inl f) = inl (record { every = (e, f.every); count = ap length more ∙ ap suc f.count; mode = λ h. mode k f.mode })
      at (inr f) = inr (record { count = omega (arith, ap length more, f.count); checkpoint = f.checkpoint })

  -- or says ended: then so do the others
  ended_first : (k : ℕ) (c : Checkpoint) (w : Has T c) → (walk_call s us c ample_budget).kind ≡ says_ended
      → Nexts (w.0 ++ (ample_budget ∷ [])) (walk_call s us c ample_budget).checkpoint k → Nexts w.0 c (suc k)
  unfolding ample_budgets walk_calls last_checkpoint
  ended_first k c w e i = record {
    models = ap (map (λ r. r.model)) nothing ∙ ap (take (suc k)) (sym ahead);
    answers = (inr e, i.answers);
    comes = inr (record { count = omega (arith, ap length nothing); checkpoint = ap (λ (d : Checkpoint). next_checkpoint s us d k) stays ∙ end_checkpoint k });
    has = i.has;
  }
    where
      r : Result
      r = walk_call s us c ample_budget

      stays : r.checkpoint ≡ at_end
      stays = (one_onward c w).over e

      nothing : next_results s us c (suc k) ≡ []
      nothing = next_by s us c k says_ended e ∙ ap (λ (d : Checkpoint). next_results s us d k) stays ∙ end_results k

      ahead : left w.0 ≡ []
      ahead =
          (one_onward c w).models ∙ ap (λ (x : AnswerKind). brings x r.model ++ left (w.0 ++ (ample_budget ∷ []))) e
          ∙ (one_onward c w).none e

  -- k calls from a checkpoint that the walk has
  pub nexts : (k : ℕ) (c : Checkpoint) (w : Has T c) → Nexts w.0 c k
  unfolding ample_budgets walk_calls last_checkpoint with_models
  nexts zero c w = record { models = refl; answers = tt; comes = inl (record { every = tt; count = refl; mode = λ h. absurd (omega arith) }); has = w }
  nexts (suc k) c w = at (nexts k (walk_call s us c ample_budget).checkpoint (w.0 ++ (ample_budget ∷ []), (one_onward c w).returned)) (one_answers c w)
    where
      at : Nexts (w.0 ++ (ample_budget ∷ [])) (walk_call s us c ample_budget).checkpoint k
          → ModelOrEnded (walk_call s us c ample_budget) → Nexts w.0 c (suc k)
      at i (inl e) = model_first k c w e i
      at i (inr e) = ended_first k c w e i

  -- from the start checkpoint come the first models of the listing
  pub start_models : (k : ℕ) → map (λ r. r.model) (next_results s us start k) ≡ take k (listing T)
  unfolding listing state_after start_has
  start_models k = (nexts k start (start_has s us T P walks)).models

  module _ (c : Checkpoint) (w : Has T c) where
    -- k models come,
    is_full : (k : ℕ) → length (next_results s us c k) ≡ k → Full c k
    is_full k h = ⊎_elim (λ (f : Full c k). f) (λ (f : Fewer c k). absurd (omega (arith, f.count))) (nexts k c w).comes

    -- or fewer
    is_fewer : (k : ℕ) → length (next_results s us c k) < k → Fewer c k
    is_fewer k h = ⊎_elim (λ (f : Full c k). absurd (omega (arith, f.count))) (λ (f : Fewer c k). f) (nexts k c w).comes

    -- k models: every call brought one
    pub next_full : (k : ℕ) → length (next_results s us c k) ≡ k → Every (λ r. r.kind ≡ says_model) (walk_calls s us c (ample_budgets k))
    next_full k h = (is_full k h).every

    -- and mode 1 is behind the last
    pub next_behind : (k : ℕ) → 0 < k → length (next_results s us c k) ≡ k → (next_checkpoint s us c k).mode ≡ 1
    next_behind k some h = (is_full k h).mode some

    -- fewer: the end is behind
    pub next_fewer : (k : ℕ) → length (next_results s us c k) < k → next_checkpoint s us c k ≡ at_end
    next_fewer k h = (is_fewer k h).checkpoint

    -- mode 4 is then, and only then
    pub next_mode : (k : ℕ) → 0 < k → ((next_checkpoint s us c k).mode ≡ 4) ↔ (length (next_results s us c k) < k)
    unfolding checkpoint_of
    next_mode k some = (
      λ e. ⊎_elim (λ (f : Full c k). absurd (omega (arith, e, f.mode some))) (λ (f : Fewer c k). f.count) (nexts k c w).comes,
      λ h. ap (λ (d : Checkpoint). d.mode) (next_fewer k h),
    )

    -- the first j results of more calls are those of j calls,
    pub next_take : (j k : ℕ) → take j (next_results s us c (j + k)) ≡ next_results s us c j
    next_take j k = ap (take j) (next_append s us c j k) ∙ at (nexts j c w).comes
      where
        at : Full c j ⊎ Fewer c j → take j (next_results s us c j ++ next_results s us (next_checkpoint s us c j) k) ≡ next_results s us c j
        at (inl f) = take_at (next_results s us c j) (next_results s us (next_checkpoint s us c j) k) j f.count
        at (inr f) = rw (f.checkpoint, end_results k, append-nil) (take_all j (next_results s us c j) (omega (arith, f.count)))

    -- and behind them are those of the calls from the checkpoint that these return
    pub next_drop : (j k : ℕ) → drop j (next_results s us c (j + k)) ≡ next_results s us (next_checkpoint s us c j) k
    next_drop j k = ap (drop j) (next_append s us c j k) ∙ at (nexts j c w).comes
      where
        at : Full c j ⊎ Fewer c j → drop j (next_results s us c j ++ next_results s us (next_checkpoint s us c j) k) ≡ next_results s us (next_checkpoint s us c j) k
        at (inl f) = drop_at (next_results s us c j) (next_results s us (next_checkpoint s us c j) k) j f.count
        at (inr f) = rw (f.checkpoint, end_results k, append-nil) (drop_of_length-le (next_results s us c j) {i = j} (omega (arith, f.count)))

  -- the i results behind the first j
  pub next_part : (c : Checkpoint) → Has T c → (j i m : ℕ) → j + i ≤ m → take i (drop j (next_results s us c m)) ≡ next_results s us (next_checkpoint s us c j) i
  next_part c w j i m h =
      let e : m ≡ j + (i + (m - (j + i))) = omega arith in
      ap (λ (x : ℕ). take i (drop j (next_results s us c x))) e
      ∙ ap (take i) (next_drop c w j (i + (m - (j + i))))
      ∙ next_take (next_checkpoint s us c j) (nexts j c w).has i (m - (j + i))
