-- The lines of walk calls of an ample budget are those of the gaps: each call closes one.
use Prim.Native.Nat.{ℕ, zero, suc, ◌+◌}
use mathlib.Core.List.{List, []}
use mathlib.Core.Logic.{◌⊎◌, inl, inr}
use mathlib.Core.Path.{◌≡◌, refl, sym, ap, ◌∙◌}
use native.Mathlib.Omega.{arith}
use lib.ListN.{replicate}
use Rattle.formula.specs.Format.{Literal}
use Rattle.walk.specs.Task.{under, Posed}
use Rattle.walk.specs.Plain.{assignment}
use Rattle.walk.specs.Checkpoints.{Checkpoint, trail_in}
use Rattle.walk.specs.PlainMachine.{Has}
use Rattle.walk.specs.WalkCall.{walk_call, walk_calls}
use Rattle.walk.specs.InnerLocate.{task_call}
use Rattle.walk.specs.Results.{says_model, says_ended, Result}
use Rattle.walk.specs.Gaps.{gap_after, gaps_from, gaps, ample_budget}
use Rattle.walk.proofs.TaskLaws.{call_trail}
use Rattle.walk.proofs.HasLaws.{has_ample, call_has}
use Rattle.printing.specs.InnerLines.{kind_lines, result_lines}
use Rattle.printing.specs.PrintedGaps.{gap_lines}

module _ (s : List ℕ) (n : ℕ) (cs : List (List Literal)) (P : Posed (under n [] cs)) (walks : (c : Checkpoint) (b : ℕ) → walk_call s [] c b ≡ task_call (under n [] cs) c b) where
  -- j calls from a checkpoint that the walk has
  pub lines_gaps : (mask j : ℕ) (c : Checkpoint) → Has (under n [] cs) c
      → (let rs = walk_calls s [] c (replicate j ample_budget) in result_lines n mask rs ≡ gap_lines n mask (gaps rs))
  unfolding walk_calls result_lines gaps_from gap_lines
  lines_gaps mask zero c w = refl
  lines_gaps mask (suc j) c w =
      at (has_ample s [] (under n [] cs) P walks c w ample_budget (omega arith))
      (lines_gaps mask j (walk_call s [] c ample_budget).checkpoint (call_has s [] (under n [] cs) P walks c w ample_budget))
    where
      r : Result
      r = walk_call s [] c ample_budget

      rest : List Result
      rest = walk_calls s [] (walk_call s [] c ample_budget).checkpoint (replicate j ample_budget)

      steps : 0 + r.steps ≡ r.steps
      steps = omega arith

      expansions : 0 + r.expansions ≡ r.expansions
      expansions = omega arith

      at : (r.kind ≡ says_model) ⊎ (r.kind ≡ says_ended) → result_lines n mask rest ≡ gap_lines n mask (gaps rest)
          → kind_lines n mask r.kind r (result_lines n mask rest)
          ≡ gap_lines n mask (gap_after r.kind (0 + r.steps) (0 + r.expansions) (trail_in r.checkpoint) (λ c' e'. gaps_from c' e' rest))
      at (inl e) ih =
          let t = (call_trail s [] (under n [] cs) P walks c w ample_budget e).1 in
          let m : assignment (trail_in r.checkpoint) ≡ r.model = ap assignment t.read ∙ sym t.model in
          rw (e, steps, expansions, m, ih) refl
      at (inr e) ih = rw (e, steps, expansions) refl
