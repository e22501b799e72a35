-- S13.1: the interface to C.
use Rattle.std.specs.Prelude.{ℕ, ◌+◌, ◌%◌, Bool, cond, ◌&&◌, List, [], ◌∷◌, eqb, length, get_or, drop}
use Rattle.limits.specs.Limits.{max_variables}
use Rattle.lists.specs.Over.{over}
use Rattle.formula.specs.Check as check
use Rattle.formula.specs.Check.{Said, said_yes, said_no, said_neither, checked}
use Rattle.assumptions.specs.Bytes.{of_bytes}
use Rattle.dimacs.specs.Convert.{ConvertedValues, Conversion, to_encoded, to_text}
use Rattle.matched.specs.Deficiency.{MeasuredValues, deficiency_of}
use Rattle.matched.specs.Judge as judging
use Rattle.matched.specs.Judge.{judge}
use Rattle.matched.specs.Weigh.{WeighedValues, weighed}
use Rattle.walk.specs.Checkpoints.{Checkpoint, start}
use Rattle.walk.specs.WalkCall.{walk_call}
use Rattle.walk.specs.Results.{AnswerKind, says_model, says_spent, says_ended, says_refused, Result}
use Rattle.enumeration.specs.Lists.{Delivery, next_models}
use Rattle.page.specs.PageLines.{page_lines}
use Rattle.page.specs.Pages.{PageValues, PageCall, page_call}

-- ---- results: six numbers, of which the first says the answer, and the third and fourth are the refusal's number and place

abbrev pub results_size : ℕ
results_size = 6

abbrev pub said_code : Said → ℕ
said_code said_yes = 0
said_code said_no = 1
said_code said_neither = 3

abbrev pub kind_code : AnswerKind → ℕ
kind_code says_model = 0
kind_code says_spent = 1
kind_code says_ended = 2
kind_code says_refused = 3

abbrev pub check_results : check.VerdictValues → List ℕ
check_results a = said_code a.said ∷ 0 ∷ a.number ∷ a.place ∷ 0 ∷ 0 ∷ []

-- accepted if there is no refusal's number; at the end the numbers of variables and of clauses
abbrev pub judge_results : judging.JudgementValues → List ℕ
judge_results a = cond (eqb a.number 0) 0 3 ∷ 0 ∷ a.number ∷ a.place ∷ a.variables ∷ a.clauses ∷ []

-- counted if there is no refusal's number; at the end the numbers of marked clauses and of the variables that they name
abbrev pub weigh_results : WeighedValues → List ℕ
weigh_results a = cond (eqb a.number 0) 0 3 ∷ 0 ∷ a.number ∷ a.place ∷ a.clauses ∷ a.variables ∷ []

-- measured if there is no refusal's number; then the deficiency
abbrev pub deficiency_results : MeasuredValues → List ℕ
deficiency_results a = cond (eqb a.number 0) 0 3 ∷ 0 ∷ a.number ∷ a.place ∷ a.deficiency ∷ 0 ∷ []

-- written if there is no refusal's number; then how many bytes
abbrev pub conversion_results : ConvertedValues → List ℕ
conversion_results a = cond (eqb a.number 0) 0 3 ∷ 0 ∷ a.number ∷ a.place ∷ a.count ∷ 0 ∷ []

-- the model, or 0; at the end the steps and the expansions
abbrev pub walk_results : Result → List ℕ
walk_results r = kind_code r.kind ∷ r.model ∷ r.number ∷ r.place ∷ r.steps ∷ r.expansions ∷ []

-- the last call's answer, and how many models were brought
abbrev pub list_results : ℕ → Result → List ℕ
list_results count r = kind_code r.kind ∷ r.model ∷ r.number ∷ r.place ∷ count ∷ 0 ∷ []

-- filled: 0 if all 50 lines are, 2 if fewer, so that no model is left; then how many lines
abbrev pub page_results : PageValues → List ℕ
page_results a = cond (eqb a.number 0) (cond (eqb a.lines page_lines) 0 2) 3 ∷ 0 ∷ a.number ∷ a.place ∷ a.lines ∷ 0 ∷ []

-- ---- checkpoints: 50 bytes, the mode, the length and the trail

abbrev pub checkpoint_size : ℕ
checkpoint_size = 2 + max_variables

abbrev pub checkpoint_bytes : Checkpoint → List ℕ
checkpoint_bytes c = c.mode ∷ c.length ∷ c.bytes

abbrev pub checkpoint_in : List ℕ → Checkpoint
checkpoint_in b = record { mode = get_or b 0 0; length = get_or b 1 0; bytes = drop 2 b }

-- ---- assumptions: two bytes for each, the variable and its value (S17.4)

abbrev pub assumption_size : ℕ
assumption_size = 2

-- ---- the functions: the number that each returns, then its lent buffers as it leaves them, in the order of its arguments. Each writes
-- only if results and checkpoint have their lengths and that of the assumptions is even: else it returns 1, and all stays as it was

abbrev pub results_sized : List ℕ → Bool
results_sized results = eqb (length results) results_size

abbrev pub checkpoint_sized : List ℕ → Bool
checkpoint_sized checkpoint = eqb (length checkpoint) checkpoint_size

abbrev pub assumptions_sized : List ℕ → Bool
assumptions_sized assumptions = eqb (length assumptions % assumption_size) 0

-- norwythai_check: the input, the assignment, and the results as they were
unfoldable pub check_called : List ℕ → ℕ → List ℕ → ℕ × List ℕ
check_called s a results = cond (results_sized results) (0, check_results (checked s a)) (1, results)

-- norwythai_judge: the input, the assumptions, and the pairing buffer and the results as they were
unfoldable pub judge_called : List ℕ → List ℕ → List ℕ → List ℕ → ℕ × List ℕ × List ℕ
judge_called s assumptions buffer results =
    let j = judge s (of_bytes assumptions) buffer in
    cond (assumptions_sized assumptions && results_sized results) (0, j.buffer, judge_results j.answer) (1, buffer, results)

-- norwythai_weigh: the input, the assumptions, the pairing buffer, which it only reads, and the results as they were
unfoldable pub weigh_called : List ℕ → List ℕ → List ℕ → List ℕ → ℕ × List ℕ
weigh_called s assumptions buffer results =
    cond (assumptions_sized assumptions && results_sized results) (0, weigh_results (weighed s (of_bytes assumptions) buffer)) (1, results)

-- norwythai_deficiency: the input, and the results as they were
unfoldable pub deficiency_called : List ℕ → List ℕ → ℕ × List ℕ
deficiency_called s results = cond (results_sized results) (0, deficiency_results (deficiency_of s)) (1, results)

-- a conversion of either kind: what it leaves, and the buffer and the results as they were
unfoldable pub conversion_called : Conversion → List ℕ → List ℕ → ℕ × List ℕ × List ℕ
conversion_called c buffer results =
    cond (results_sized results) (0, c.buffer, conversion_results c.answer) (1, buffer, results)

-- norwythai_from_dimacs: the text, and the buffer and the results as they were
abbrev pub from_dimacs_called : List ℕ → List ℕ → List ℕ → ℕ × List ℕ × List ℕ
from_dimacs_called t buffer results = conversion_called (to_encoded t buffer) buffer results

-- norwythai_to_dimacs: the input, and the buffer and the results as they were
abbrev pub to_dimacs_called : List ℕ → List ℕ → List ℕ → ℕ × List ℕ × List ℕ
to_dimacs_called s buffer results = conversion_called (to_text s buffer) buffer results

-- norwythai_start: the checkpoint as it was
unfoldable pub start_called : List ℕ → ℕ × List ℕ
start_called checkpoint = cond (checkpoint_sized checkpoint) (0, checkpoint_bytes start) (1, checkpoint)

-- a walk call's result in the buffers
abbrev pub walk_told : Result → ℕ × List ℕ × List ℕ
walk_told r = (0, checkpoint_bytes r.checkpoint, walk_results r)

-- norwythai_walk: the input, the assumptions, the checkpoint as it was, the budget, and the results as they were
unfoldable pub walk_called : List ℕ → List ℕ → List ℕ → ℕ → List ℕ → ℕ × List ℕ × List ℕ
walk_called s assumptions checkpoint budget results =
    cond (assumptions_sized assumptions && (checkpoint_sized checkpoint && results_sized results))
    (walk_told (walk_call s (of_bytes assumptions) (checkpoint_in checkpoint) budget))
    (1, checkpoint, results)

-- What a list of such calls returns and writes, budget by budget. All get the same input and the same assumptions, and nobody else writes
-- the checkpoint or the results between them.
unfoldable pub walks_called : List ℕ → List ℕ → List ℕ → List ℕ → List ℕ → List (ℕ × List ℕ × List ℕ)
walks_called s assumptions checkpoint results [] = []
walks_called s assumptions checkpoint results (b ∷ bs) =
    let r = walk_called s assumptions checkpoint b results in
    r ∷ walks_called s assumptions r.1 r.2 bs

-- what a list of calls brings, in the buffers: the models stand over the first ones
abbrev pub list_told : List ℕ → Delivery → ℕ × List ℕ × List ℕ × List ℕ
list_told models x =
    (0, checkpoint_bytes x.last.checkpoint, over x.models models, list_results (length x.models) x.last)

-- norwythai_list: the input, the assumptions, and the checkpoint, the models and the results as they were
unfoldable pub list_called : List ℕ → List ℕ → List ℕ → List ℕ → List ℕ → ℕ × List ℕ × List ℕ × List ℕ
list_called s assumptions checkpoint models results =
    cond (assumptions_sized assumptions && (checkpoint_sized checkpoint && results_sized results))
    (list_told models (next_models s (of_bytes assumptions) (checkpoint_in checkpoint) (length models)))
    (1, checkpoint, models, results)

-- a page in the buffers
abbrev pub page_shown : PageCall → ℕ × List ℕ × List ℕ × List ℕ
page_shown p = (0, checkpoint_bytes p.checkpoint, p.page, page_results p.answer)

-- norwythai_page: the input, the assumptions, the checkpoint as it was, the first serial, and the page and the results as they were
unfoldable pub page_called : List ℕ → List ℕ → List ℕ → ℕ → List ℕ → List ℕ → ℕ × List ℕ × List ℕ × List ℕ
page_called s assumptions checkpoint serial page results =
    cond (assumptions_sized assumptions && (checkpoint_sized checkpoint && results_sized results))
    (page_shown (page_call s (of_bytes assumptions) (checkpoint_in checkpoint) serial page))
    (1, checkpoint, page, results)

-- What a list of such calls returns and writes, page by page: each is lent bytes of its own, and the serial is 50 higher each time. All get
-- the same input and the same assumptions, and nobody else writes the checkpoint or the results between them.
unfoldable pub pages_called : List ℕ → List ℕ → List ℕ → ℕ → List ℕ → List (List ℕ) → List (ℕ × List ℕ × List ℕ × List ℕ)
pages_called s assumptions checkpoint serial results [] = []
pages_called s assumptions checkpoint serial results (b ∷ bs) =
    let r = page_called s assumptions checkpoint serial b results in
    r ∷ pages_called s assumptions r.1 (serial + page_lines) r.3 bs
