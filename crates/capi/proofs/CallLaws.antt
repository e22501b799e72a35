-- What each exported function gives, from what its parts ensure: nothing is written, or the results are.
use Prim.Native.Nat.{ℕ, ◌%◌}
use mathlib.Core.Bool.{Bool, cond, ◌&&◌}
use mathlib.Core.List.{List}
use mathlib.Core.Logic.{◌⊎◌, ⊎_elim}
use mathlib.Core.Path.{◌≡◌, ap, ◌∙◌}
use lib.ListN.{length}
use borrow.Author.Tests.{eq-eqb, ne_eqb}
use Rattle.std.specs.Prelude as std
use Rattle.formula.specs.declared.Refusal.{Refusal}
use Rattle.formula.specs.Check as check
use Rattle.formula.specs.Check.{checked}
use Rattle.assumptions.specs.Bytes.{of_bytes}
use Rattle.dimacs.specs.Convert.{ConvertedValues, Conversion}
use Rattle.matched.specs.Judge as judging
use Rattle.matched.specs.Judge.{judge}
use Rattle.matched.specs.Deficiency.{MeasuredValues, deficiency_of}
use Rattle.matched.specs.Weigh.{WeighedValues, weighed}
use Rattle.walk.specs.Checkpoints.{Checkpoint, start}
use Rattle.walk.specs.WalkCall.{walk_call}
use Rattle.walk.specs.Results.{Result}
use Rattle.enumeration.specs.declared.listing.Listed.{Listed}
use Rattle.enumeration.specs.declared.calls.Walked.{Walked}
use Rattle.enumeration.specs.Values.{call_values, list_values, list_count}
use Rattle.enumeration.specs.Lists.{Delivered, next_models}
use Rattle.page.specs.declared.Paged.{Paged}
use Rattle.page.specs.Pages.{page_values, page_checkpoint, page_told, page_call}
use Rattle.capi.specs.Interface.{results_size, checkpoint_size, assumption_size, check_results, judge_results, weigh_results, deficiency_results, conversion_results, walk_results, list_results, page_results, checkpoint_bytes, checkpoint_in, results_sized, checkpoint_sized, assumptions_sized, check_called, judge_called, weigh_called, deficiency_called, conversion_called, start_called, walk_told, walk_called, list_told, list_called, page_shown, page_called}

module _ (s results : List ℕ) (a : ℕ) where
  pub check_unwritten : (length results ≡ results_size → ⊥) → check_called s a results ≡ (1, results)
  unfolding check_called
  check_unwritten h = rw (ne_eqb _ _ h)

  pub check_written :
      (r : check.VerdictValues) (after : List ℕ) →
      length results ≡ results_size →
      r ≡ checked s a → after ≡ check_results r → check_called s a results ≡ (0, after)
  unfolding check_called
  check_written r after h e f = rw (eq-eqb _ _ h, f, e)

module _ (s results : List ℕ) where
  pub deficiency_unwritten : (length results ≡ results_size → ⊥) → deficiency_called s results ≡ (1, results)
  unfolding deficiency_called
  deficiency_unwritten h = rw (ne_eqb _ _ h)

  pub deficiency_written :
      (r : MeasuredValues) (after : List ℕ) →
      length results ≡ results_size →
      r ≡ deficiency_of s → after ≡ deficiency_results r → deficiency_called s results ≡ (0, after)
  unfolding deficiency_called
  deficiency_written r after h e f = rw (eq-eqb _ _ h, f, e)

module _ (c : Conversion) (buffer results : List ℕ) where
  pub conversion_unwritten :
      (length results ≡ results_size → ⊥) → conversion_called c buffer results ≡ (1, buffer, results)
  unfolding conversion_called
  conversion_unwritten h = rw (ne_eqb _ _ h)

  pub conversion_written :
      (r : ConvertedValues) (left after : List ℕ) →
      length results ≡ results_size →
      c ≡ record { answer = r; buffer = left } →
      after ≡ conversion_results r → conversion_called c buffer results ≡ (0, left, after)
  unfolding conversion_called
  conversion_written r left after h e f = rw (eq-eqb _ _ h, f, e)

module _ (checkpoint : List ℕ) where
  pub start_unwritten : (length checkpoint ≡ checkpoint_size → ⊥) → start_called checkpoint ≡ (1, checkpoint)
  unfolding start_called
  start_unwritten h = rw (ne_eqb _ _ h)

  pub start_written :
      (c : Checkpoint) (after : List ℕ) →
      length checkpoint ≡ checkpoint_size →
      c ≡ start → after ≡ checkpoint_bytes c → start_called checkpoint ≡ (0, after)
  unfolding start_called
  start_written c after h e f = rw (eq-eqb _ _ h, f, e)

-- the lengths that a function with assumptions asks for: one of them is wrong, or all are right
module _ {A : Type 0} (assumptions results : List ℕ) (written unwritten : A) where
  abbrev asked : Bool → A
  asked others = cond (assumptions_sized assumptions && others) written unwritten

  abbrev Even : Type 0
  Even = length assumptions % assumption_size ≡ 0

  abbrev Six : Type 0
  Six = length results ≡ results_size

  -- judge and weigh: that of the results, too
  pub asked_wrongly : (Even → ⊥) ⊎ (Even × (Six → ⊥)) → asked (results_sized results) ≡ unwritten
  asked_wrongly w =
      ⊎_elim
      (λ (g : Even → ⊥). rw (ne_eqb _ _ g))
      (λ (g : Even × (Six → ⊥)). rw (eq-eqb _ _ g.0, ne_eqb _ _ g.1))
      w

  asked_rightly : Even → Six → asked (results_sized results) ≡ written
  asked_rightly g k = rw (eq-eqb _ _ g, eq-eqb _ _ k)

  -- walk, list and page: before it that of the checkpoint
  module _ (checkpoint : List ℕ) where
    abbrev Fifty : Type 0
    Fifty = length checkpoint ≡ checkpoint_size

    pub asked_wrongly_behind : (Even → ⊥) ⊎ ((Even × (Fifty → ⊥)) ⊎ (Even × Fifty × (Six → ⊥))) → asked (checkpoint_sized checkpoint && results_sized results) ≡ unwritten
    asked_wrongly_behind w =
        ⊎_elim
        (λ (g : Even → ⊥). rw (ne_eqb _ _ g))
        (λ (o : (Even × (Fifty → ⊥)) ⊎ (Even × Fifty × (Six → ⊥))).
        ⊎_elim
        (λ (g : Even × (Fifty → ⊥)). rw (eq-eqb _ _ g.0, ne_eqb _ _ g.1))
        (λ (g : Even × Fifty × (Six → ⊥)). rw (eq-eqb _ _ g.0, eq-eqb _ _ g.1, ne_eqb _ _ g.2))
        o)
        w

    asked_rightly_behind : Even → Fifty → Six → asked (checkpoint_sized checkpoint && results_sized results) ≡ written
    asked_rightly_behind g h k = rw (eq-eqb _ _ g, eq-eqb _ _ h, eq-eqb _ _ k)

module _ (s assumptions buffer results : List ℕ) (g : length assumptions % assumption_size ≡ 0) (k : length results ≡ results_size) where
  -- all lengths are right
  pub judge_called_is :
      (let j = judge s (of_bytes assumptions) buffer in
      judge_called s assumptions buffer results ≡ (0, j.buffer, judge_results j.answer))
  unfolding judge_called
  judge_called_is = asked_rightly assumptions results _ _ g k

  pub judge_written :
      (r : judging.JudgementValues) (left after : List ℕ) →
      r ≡ (judge s (of_bytes assumptions) buffer).answer →
      left ≡ (judge s (of_bytes assumptions) buffer).buffer →
      after ≡ judge_results r → judge_called s assumptions buffer results ≡ (0, left, after)
  judge_written r left after e l f = rw (judge_called_is, f, e, l)

  pub weigh_called_is : weigh_called s assumptions buffer results ≡ (0, weigh_results (weighed s (of_bytes assumptions) buffer))
  unfolding weigh_called
  weigh_called_is = asked_rightly assumptions results _ _ g k

  pub weigh_written :
      (r : WeighedValues) (after : List ℕ) →
      r ≡ weighed s (of_bytes assumptions) buffer →
      after ≡ weigh_results r → weigh_called s assumptions buffer results ≡ (0, after)
  weigh_written r after e f = rw (weigh_called_is, f, e)

module _ (s assumptions checkpoint results : List ℕ) (budget : ℕ) where
  -- all lengths are right
  pub walk_called_is :
      length assumptions % assumption_size ≡ 0 →
      length checkpoint ≡ checkpoint_size →
      length results ≡ results_size →
      walk_called s assumptions checkpoint budget results ≡ walk_told (walk_call s (of_bytes assumptions) (checkpoint_in checkpoint) budget)
  unfolding walk_called
  walk_called_is g h k = asked_rightly_behind assumptions results _ _ checkpoint g h k

  pub walk_written :
      (from : Checkpoint) (w : std.Result Walked Refusal) (left after : List ℕ) →
      length assumptions % assumption_size ≡ 0 →
      length checkpoint ≡ checkpoint_size →
      length results ≡ results_size →
      from ≡ checkpoint_in checkpoint →
      call_values from w ≡ walk_call s (of_bytes assumptions) from budget →
      left ≡ checkpoint_bytes (call_values from w).checkpoint →
      after ≡ walk_results (call_values from w) →
      walk_called s assumptions checkpoint budget results ≡ (0, left, after)
  walk_written from w left after g h k f e l r = rw (walk_called_is g h k, ← f, ← e, l, r)

module _ (s assumptions checkpoint models results : List ℕ) where
  -- all lengths are right
  pub list_called_is :
      length assumptions % assumption_size ≡ 0 →
      length checkpoint ≡ checkpoint_size →
      length results ≡ results_size →
      list_called s assumptions checkpoint models results
      ≡ list_told models (next_models s (of_bytes assumptions) (checkpoint_in checkpoint) (length models))
  unfolding list_called
  list_called_is g h k = asked_rightly_behind assumptions results _ _ checkpoint g h k

  pub list_written :
      (from : Checkpoint) (r : std.Result Listed Refusal) (left brought after : List ℕ) →
      length assumptions % assumption_size ≡ 0 →
      length checkpoint ≡ checkpoint_size →
      length results ≡ results_size →
      from ≡ checkpoint_in checkpoint →
      Delivered (next_models s (of_bytes assumptions) from (length models)) from models brought r →
      left ≡ checkpoint_bytes (list_values from r).checkpoint →
      after ≡ list_results (list_count r) (list_values from r) →
      list_called s assumptions checkpoint models results ≡ (0, left, brought, after)
  list_written from r left brought after g h k f e l w =
      let x = next_models s (of_bytes assumptions) from (length models) in
      let p : left ≡ checkpoint_bytes x.last.checkpoint = l ∙ ap (λ (q : Result). checkpoint_bytes q.checkpoint) e.last in
      let q : after ≡ list_results (length x.models) x.last =
      w ∙ ap (list_results (list_count r)) e.last ∙ ap (λ (n : ℕ). list_results n x.last) e.count in
      rw (list_called_is g h k, ← f, p, q, e.written)

module _ (s assumptions checkpoint page results : List ℕ) (serial : ℕ) where
  -- all lengths are right
  pub page_called_is :
      length assumptions % assumption_size ≡ 0 →
      length checkpoint ≡ checkpoint_size →
      length results ≡ results_size →
      page_called s assumptions checkpoint serial page results
      ≡ page_shown (page_call s (of_bytes assumptions) (checkpoint_in checkpoint) serial page)
  unfolding page_called
  page_called_is g h k = asked_rightly_behind assumptions results _ _ checkpoint g h k

  pub page_written :
      (from : Checkpoint) (r : std.Result Paged Refusal) (left filled after : List ℕ) →
      length assumptions % assumption_size ≡ 0 →
      length checkpoint ≡ checkpoint_size →
      length results ≡ results_size →
      from ≡ checkpoint_in checkpoint →
      page_call s (of_bytes assumptions) from serial page ≡ page_told from r filled →
      left ≡ checkpoint_bytes (page_checkpoint from r) →
      after ≡ page_results (page_values r) →
      page_called s assumptions checkpoint serial page results ≡ (0, left, filled, after)
  page_written from r left filled after g h k f e l w = rw (page_called_is g h k, ← f, e, l, w)
