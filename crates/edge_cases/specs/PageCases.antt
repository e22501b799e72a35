-- The cases of pages, as one table (S19), written as in specs/MarkedCases.antt.
use Rattle.std.specs.Prelude.{ℕ, zero, suc, ◌≤◌, ◌<◌, List, [], ◌∷◌, ◌≡◌, length}
use Rattle.lists.specs.Over.{over}
use Rattle.assumptions.specs.declared.Assumption.{Assumption}
use Rattle.walk.specs.Checkpoints.{Checkpoint, checkpoint_of, start}
use Rattle.page.specs.PageLines.{page_lines, page_size, blank_line}
use Rattle.page.specs.Pages.{joined, filled_values, unfilled, page_call}
use Rattle.edge_cases.specs.MarkedCases.{example}
use Rattle.edge_cases.specs.AssumedCases.{assume_on}
use Rattle.edge_cases.specs.TextCases.{ascii}

-- line i, from 0: these first, and blank lines behind them
abbrev pub line_of_these : List (List ℕ) → ℕ → List ℕ
line_of_these [] i = blank_line
line_of_these (l ∷ ls) zero = l
line_of_these (l ∷ ls) (suc i) = line_of_these ls i

-- from the start, with this first serial: a page that is not short gets these lines, and blank ones up to the 50th; no model is left
abbrev pub PagedAs : List ℕ → List Assumption → ℕ → List (List ℕ) → Type 0
PagedAs s us serial ls =
    (b : List ℕ) → page_size ≤ length b
    → page_call s us start serial b
    ≡ record { answer = filled_values (length ls); checkpoint = checkpoint_of 4 []; page = over (joined (line_of_these ls) page_lines) b }

pub record PageCases : Type 0 where
  -- the example: two models, 2 steps to the first and 4 to the second
  pub example_page : PagedAs example [] 1 (
      ascii "     1 01                                                 2\n"
      ∷ ascii "     2 10                                                 4\n"
      ∷ []
      )
  -- 1 variable and no clause, 1 true: it shows its value, and no step is made
  pub assumed_page : PagedAs (1 ∷ 1 ∷ 5 ∷ []) (assume_on 1 ∷ []) 7 (ascii "     7 1                                                  0\n" ∷ [])
  -- a line without a model: 59 blanks
  pub no_model : blank_line ≡ ascii "                                                           \n"
  -- an input that is cut behind the number of variables: 17 first, 18 second, and then 2 at its length; the page stays, and the checkpoint
  -- comes back
  pub short_first : (c : Checkpoint) (b : List ℕ) → length b < page_size → page_call (1 ∷ 2 ∷ []) [] c 0 b ≡ unfilled 17 0 c b
  pub serial_second : (c : Checkpoint) (b : List ℕ) → page_size ≤ length b → page_call (1 ∷ 2 ∷ []) [] c 0 b ≡ unfilled 18 0 c b
  pub reading_third : (c : Checkpoint) (b : List ℕ) → page_size ≤ length b → page_call (1 ∷ 2 ∷ []) [] c 1 b ≡ unfilled 2 2 c b
