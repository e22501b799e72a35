-- S19.2 to S19.5: the act page, over walk calls of an ample budget, and pages one after the other; S21.4: the steps on its lines.
use Rattle.std.specs.Prelude as std
use Rattle.std.specs.Prelude.{Ok, Err, ℕ, zero, suc, ◌+◌, cond, ◌||◌, List, [], ◌∷◌, ◌++◌, map, eqb, ltb, length, get_or, replicate}
use Rattle.lists.specs.Over.{over}
use Rattle.formula.specs.Format.{Literal}
use Rattle.formula.specs.declared.Refusal.{Refusal}
use Rattle.formula.specs.declared.Refusal.TheVariants.{ShortPage, BadSerial}
use Rattle.formula.specs.Refusals.{table_row}
use Rattle.assumptions.specs.declared.Assumption.{Assumption}
use Rattle.matched.specs.Acceptance.{Acceptance, accepted, declined, acceptance}
use Rattle.walk.specs.Task.{under, visible}
use Rattle.walk.specs.Checkpoints.{Checkpoint, trail_in, start}
use Rattle.walk.specs.Gaps.{ample_budget}
use Rattle.walk.specs.Results.{AnswerKind, says_model, says_spent, says_ended, says_refused, Result}
use Rattle.walk.specs.WalkCall.{walk_call, walk_calls, last_checkpoint}
use Rattle.enumeration.specs.Values.{checkpoint_values}
use Rattle.page.specs.declared.Paged.{Paged}
use Rattle.page.specs.PageLines.{page_lines, page_size, page_line, blank_line}

-- ---- what the walk calls of a page bring

-- the budgets of k walk calls: with each the call brings a model or the end
unfoldable pub ample_budgets : ℕ → List ℕ
ample_budgets k = replicate k ample_budget

-- a result before others, if it says model
abbrev pub if_model : AnswerKind → Result → List Result → List Result
if_model says_model r rs = r ∷ rs
if_model says_spent r rs = rs
if_model says_ended r rs = rs
if_model says_refused r rs = rs

-- S19.2: the results that say model, in order
unfoldable pub with_models : List Result → List Result
with_models [] = []
with_models (r ∷ rs) = if_model r.kind r (with_models rs)

-- S19.2: the next models of the walk from the checkpoint c, at most k: those of k calls, each given the checkpoint of the last. Behind the
-- end every call says ended again
abbrev pub next_results : List ℕ → List Assumption → Checkpoint → ℕ → List Result
next_results s us c k = with_models (walk_calls s us c (ample_budgets k))

-- S19.2: the checkpoint behind them (request: next marker)
abbrev pub next_checkpoint : List ℕ → List Assumption → Checkpoint → ℕ → Checkpoint
next_checkpoint s us c k = last_checkpoint s us c (ample_budgets k)

-- the steps of result i, from 0, and S21.1: its trail, that in the checkpoint which comes back with it
abbrev pub steps_at : List Result → ℕ → ℕ
steps_at rs i = get_or (map (λ r. r.steps) rs) i 0

abbrev pub trail_at : List Result → ℕ → List Literal
trail_at rs i = trail_in (get_or (map (λ r. r.checkpoint) rs) i start)

-- ---- the page

-- S19.1: line i, from 0: that of result i, whose steps are its own call's, with a serial one above that of the line before; blank if there
-- is no such result
abbrev pub line_at : ℕ → ℕ → ℕ → List Result → ℕ → List ℕ
line_at n mask serial [] i = blank_line
line_at n mask serial (r ∷ rs) zero = page_line serial n mask r.model r.steps
line_at n mask serial (r ∷ rs) (suc i) = line_at n mask (suc serial) rs i

-- lines 0 to k - 1, one behind the other
unfoldable pub joined : (ℕ → List ℕ) → ℕ → List ℕ
joined line zero = []
joined line (suc k) = joined line k ++ line k

-- ---- the act

-- the values of an answer: the refusal's number and place, or zeros; how many lines are filled
pub record PageValues : Type 0 where
  pub number : ℕ
  pub place : ℕ
  pub lines : ℕ

abbrev pub filled_values : ℕ → PageValues
filled_values k = record { number = 0; place = 0; lines = k }

abbrev pub unfilled_values : ℕ → ℕ → PageValues
unfilled_values number place = record { number = number; place = place; lines = 0 }

-- the values of each case
abbrev pub page_values : std.Result Paged Refusal → PageValues
page_values (Ok p) = filled_values p.lines
page_values (Err r) = unfilled_values (table_row r).number (table_row r).place

-- the checkpoint that comes back: that behind the page or, on a refusal, the one c that was handed in
abbrev pub page_checkpoint : Checkpoint → std.Result Paged Refusal → Checkpoint
page_checkpoint c (Ok p) = checkpoint_values p.checkpoint
page_checkpoint c (Err r) = c

-- the answer, the checkpoint that comes back, and the page as it is left
pub record PageCall : Type 0 where
  pub answer : PageValues
  pub checkpoint : Checkpoint
  pub page : List ℕ

-- what the function gives from the checkpoint c, with the page as it leaves it
abbrev pub page_told : Checkpoint → std.Result Paged Refusal → List ℕ → PageCall
page_told c r after = record { answer = page_values r; checkpoint = page_checkpoint c r; page = after }

-- S19.4: a refusal: no line is filled, the checkpoint comes back as it was handed in, and the page stays
abbrev pub unfilled : ℕ → ℕ → Checkpoint → List ℕ → PageCall
unfilled number place c before = record { answer = unfilled_values number place; checkpoint = c; page = before }

abbrev pub refusing_page : Refusal → Checkpoint → List ℕ → PageCall
refusing_page r c before = unfilled (table_row r).number (table_row r).place c before

-- the first call's refusal, if it is refused; else the page
abbrev pub unless_refused : AnswerKind → PageCall → PageCall → PageCall
unless_refused says_refused refused filled = refused
unless_refused says_model refused filled = filled
unless_refused says_spent refused filled = filled
unless_refused says_ended refused filled = filled

-- the number of variables of an accepted input
abbrev pub accepted_variables : Acceptance → ℕ
accepted_variables (accepted n t cs row) = n
accepted_variables (declined r row) = 0

-- S23.3: and those of which the lines show the values, as a mask: what its task shows
abbrev pub accepted_visible : Acceptance → ℕ
accepted_visible (accepted n t cs row) = visible (under n t cs)
accepted_visible (declined r row) = 0

-- S19.3: the highest first serial: that of the last line is then 999,999
abbrev pub max_serial : ℕ
max_serial = 999950

-- S19.2: line i of the page from c
abbrev pub line_of_page : List ℕ → List Assumption → Checkpoint → ℕ → ℕ → List ℕ
line_of_page s us c serial =
    line_at (accepted_variables (acceptance s us)) (accepted_visible (acceptance s us)) serial (next_results s us c page_lines)

-- S19.2: the page of the next 50 models from c: its lines over the first 3,000 bytes of what was lent
abbrev pub filling_page : List ℕ → List Assumption → Checkpoint → ℕ → List ℕ → PageCall
filling_page s us c serial before =
    record {
      answer = filled_values (length (next_results s us c page_lines));
      checkpoint = next_checkpoint s us c page_lines;
      page = over (joined (line_of_page s us c serial) page_lines) before;
    }

-- The act page: the input, the assumptions, the checkpoint, the first serial, and the page as it is lent. S19.3: first 17, then 18, then
-- the refusals of walk.
unfoldable pub page_call : List ℕ → List Assumption → Checkpoint → ℕ → List ℕ → PageCall
page_call s us c serial before =
    let r = walk_call s us c ample_budget in
    cond (ltb (length before) page_size) (refusing_page (ShortPage 0) c before)
    (cond (eqb serial 0 || ltb max_serial serial) (refusing_page (BadSerial 0) c before)
    (unless_refused r.kind (unfilled r.number r.place c before) (filling_page s us c serial before)))

-- S19.5: pages one after the other, on one input under one list of assumptions: each is lent bytes of its own, and is given the
-- checkpoint that the last one returned and a serial 50 higher
unfoldable pub page_calls : List ℕ → List Assumption → Checkpoint → ℕ → List (List ℕ) → List PageCall
page_calls s us c serial [] = []
page_calls s us c serial (b ∷ bs) =
    page_call s us c serial b ∷ page_calls s us (page_call s us c serial b).checkpoint (serial + page_lines) bs
