-- The cases of waits, as one table (S21), written as in specs/MarkedCases.antt: the gaps of calls from the start, whatever their budgets. The
-- steps between two models are twice what the later trail has behind the beginning that it shares with the earlier.
use Rattle.std.specs.Prelude.{ℕ, List, [], ◌∷◌, ◌≡◌, replicate}
use Rattle.formula.specs.Format.{formula_bytes}
use Rattle.assumptions.specs.declared.Assumption.{Assumption}
use Rattle.walk.specs.Checkpoints.{start}
use Rattle.walk.specs.WalkCall.{walk_calls}
use Rattle.walk.specs.Gaps.{Gap, to_model, to_end, so_far, gaps, shared, ample_budget}
use Rattle.edge_cases.specs.MarkedCases.{on, off, example, pairs_of_three, wrong_turn_formula}
use Rattle.edge_cases.specs.AssumedCases.{assume_on, assume_off}

-- the gaps of walk calls on an input under assumptions, from the start, on these budgets
abbrev pub gaps_under : List ℕ → List Assumption → List ℕ → List Gap
gaps_under s us bs = gaps (walk_calls s us start bs)

-- those of the three pairs: the waits 3, 6, 4, 2 and 3
abbrev pub pairs_gaps : List Gap
pairs_gaps =
    to_model 3 0 (off 3 ∷ on 2 ∷ on 1 ∷ [])
    ∷ to_model 6 0 (on 3 ∷ off 2 ∷ on 1 ∷ [])
    ∷ to_model 4 0 (on 3 ∷ on 2 ∷ off 1 ∷ [])
    ∷ to_model 2 0 (on 3 ∷ on 2 ∷ on 1 ∷ [])
    ∷ to_end 3 0
    ∷ []

pub record WaitCases : Type 0 where
  -- of the trails of the three pairs, each with the next one: nothing is shared, one literal, two
  pub pairs_shared : (shared (off 3 ∷ on 2 ∷ on 1 ∷ []) (on 3 ∷ off 2 ∷ on 1 ∷ []) ≡ 0)
      × (shared (on 3 ∷ off 2 ∷ on 1 ∷ []) (on 3 ∷ on 2 ∷ off 1 ∷ []) ≡ 1)
      × (shared (on 3 ∷ on 2 ∷ off 1 ∷ []) (on 3 ∷ on 2 ∷ on 1 ∷ []) ≡ 2)
  -- the three pairs: five calls of budget 96, and two more behind the end; 18 of budget 1; budgets of which some are spent within a gap and
  -- some are 0
  pub pairs_ample : gaps_under pairs_of_three [] (replicate 5 ample_budget) ≡ pairs_gaps
  pub pairs_behind : gaps_under pairs_of_three [] (replicate 7 ample_budget) ≡ pairs_gaps
  pub pairs_one : gaps_under pairs_of_three [] (replicate 18 1) ≡ pairs_gaps
  pub pairs_mixed : gaps_under pairs_of_three [] (2 ∷ 0 ∷ 7 ∷ 1 ∷ 2 ∷ 96 ∷ 0 ∷ 3 ∷ 1 ∷ 5 ∷ 0 ∷ 1 ∷ 2 ∷ []) ≡ pairs_gaps
  -- where the calls stop between two models, the steps so far
  pub pairs_open : gaps_under pairs_of_three [] (3 ∷ 0 ∷ 5 ∷ []) ≡ to_model 3 0 (off 3 ∷ on 2 ∷ on 1 ∷ []) ∷ so_far 5 0 ∷ []
  -- no call at all
  pub none_made : gaps_under pairs_of_three [] [] ≡ so_far 0 0 ∷ []
  -- 2 variables, clauses (1, 2), (1, ¬2): 2, 4 and 2
  pub wrong_turn : gaps_under wrong_turn_formula [] (replicate 8 1)
      ≡ to_model 2 0 (off 2 ∷ on 1 ∷ []) ∷ to_model 4 0 (on 2 ∷ on 1 ∷ []) ∷ to_end 2 0 ∷ []
  -- the example, where the first assignment has two expansions: 2, 4 and 2
  pub example_waits : gaps_under example [] (replicate 8 1) ≡ to_model 2 2 (off 1 ∷ on 2 ∷ []) ∷ to_model 4 0 (on 1 ∷ off 2 ∷ []) ∷ to_end 2 0 ∷ []
  -- the example with 1 assumed true: one variable is left to assign, and the trail has no other
  pub one_assumed : gaps_under example (assume_on 1 ∷ []) (1 ∷ 0 ∷ 1 ∷ []) ≡ to_model 1 0 (off 2 ∷ []) ∷ to_end 1 0 ∷ []
  -- the three pairs with 3 assumed true: 2, 4, 2 and 2
  pub pairs_assumed : gaps_under pairs_of_three (assume_on 3 ∷ []) (replicate 10 1)
      ≡ to_model 2 0 (off 2 ∷ on 1 ∷ []) ∷ to_model 4 0 (on 2 ∷ off 1 ∷ []) ∷ to_model 2 0 (on 2 ∷ on 1 ∷ []) ∷ to_end 2 0 ∷ []
  -- the clause (1) twice, which strips down to nothing: 1 and 1
  pub stripped_down : gaps_under (formula_bytes 1 ((on 1 ∷ []) ∷ (on 1 ∷ []) ∷ [])) [] (0 ∷ 1 ∷ 0 ∷ 1 ∷ []) ≡ to_model 1 0 (on 1 ∷ []) ∷ to_end 1 0 ∷ []
  -- the example with both variables assumed: nothing is left to assign, and no step is made on any budget
  pub nothing_left : (b d : ℕ) → gaps_under example (assume_on 1 ∷ assume_off 2 ∷ []) (b ∷ d ∷ []) ≡ to_model 0 0 [] ∷ to_end 0 0 ∷ []
