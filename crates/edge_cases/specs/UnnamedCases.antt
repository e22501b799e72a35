-- The cases of variables that no clause names, as one table (S23), written as in specs/MarkedCases.antt.
use Rattle.std.specs.Prelude.{ℕ, ◌≡◌}
use mathlib.Core.List.{List, [], ◌∷◌, Memᴰ}
use Rattle.formula.specs.declared.Refusal.TheVariants.{ForeignCheckpoint}
use Rattle.formula.specs.Check.{said_yes, verdict_said, checked}
use Rattle.walk.specs.Task.{under}
use Rattle.walk.specs.Plain.{listing}
use Rattle.walk.specs.Checkpoints.{checkpoint_of, start}
use Rattle.walk.specs.PlainMachine.{found, ended}
use Rattle.walk.specs.WalkCall.{walk_call}
use Rattle.walk.specs.Results.{answered, refusing}
use Rattle.printing.specs.Printed.{printed}
use Rattle.edge_cases.specs.MarkedCases.{off, model_at, end_at, walked_under}
use Rattle.edge_cases.specs.AssumedCases.{assume_on, assume_off}
use Rattle.edge_cases.specs.PageCases.{PagedAs}
use Rattle.edge_cases.specs.TextCases.{ascii}

-- 2 variables and no clause
abbrev pub no_clause : List ℕ
no_clause = 1 ∷ 2 ∷ 5 ∷ []

-- 4 variables and the clause (1, ¬3)
abbrev pub two_of_four : List ℕ
two_of_four = 1 ∷ 4 ∷ 2 ∷ 1 ∷ 3 ∷ 3 ∷ 4 ∷ 5 ∷ []

-- 3 variables and the clause (1, 2)
abbrev pub two_of_three : List ℕ
two_of_three = 1 ∷ 3 ∷ 2 ∷ 1 ∷ 2 ∷ 2 ∷ 4 ∷ 5 ∷ []

pub record UnnamedCases : Type 0 where
  -- no clause: on any budget the one model, with no step made, and then the end
  pub none_first : (b : ℕ) → walk_call no_clause [] start b ≡ answered (found 0) 0 0 (checkpoint_of 1 [])
  pub none_second : (b : ℕ) → walk_call no_clause [] (checkpoint_of 1 []) b ≡ answered ended 0 0 (checkpoint_of 4 [])
  -- a checkpoint with an unnamed variable in its trail, which its walk had before slip 10: 11
  pub none_foreign : (b : ℕ) → walk_call no_clause [] (checkpoint_of 1 (off 1 ∷ [])) b ≡ refusing (ForeignCheckpoint 0) (checkpoint_of 1 (off 1 ∷ []))
  -- check says yes to both variables true, which is not listed
  pub none_checked : checked no_clause 3 ≡ verdict_said said_yes
  pub none_unlisted : Memᴰ 3 (listing (under 2 [] [])) → ⊥
  -- 1 assumed true: its value is shown, and 2 is a dash
  pub none_assumed : PagedAs no_clause (assume_on 1 ∷ []) 1 (ascii "     1 1-                                                 0\n" ∷ [])
  -- 1 assumed false: a digit too
  pub none_assumed_false : PagedAs no_clause (assume_off 1 ∷ []) 1 (ascii "     1 0-                                                 0\n" ∷ [])
  -- two of four variables are named: the others are dashes, and no step is made for them
  pub two_printed : printed two_of_four ≡ ascii "switches 4 rules 1\n0-0- 2 0\n1-0- 2 0\n1-1- 4 0\nend 2 0\n"
  -- 1 assumed true satisfies the only clause, and 2, which it names, is assigned all the same
  pub satisfied_walked : walked_under two_of_three (assume_on 1 ∷ []) 3 ≡ model_at (1 ∷ 0 ∷ 0 ∷ []) 1 0 ∷ model_at (1 ∷ 1 ∷ 0 ∷ []) 2 0 ∷ end_at 1 0 ∷ []
  pub satisfied_page : PagedAs two_of_three (assume_on 1 ∷ []) 1 (
      ascii "     1 10-                                                1\n"
      ∷ ascii "     2 11-                                                2\n"
      ∷ []
      )
