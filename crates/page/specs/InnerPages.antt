-- A page as the code fills it: runs from a position, up to the first that brings no model.
use Rattle.std.specs.Prelude.{ℕ, zero, suc, ◌*◌, ◌-◌, ◌≤◌, List, [], ◌∷◌, ◌≡◌, length}
use Rattle.lists.specs.Over.{over}
use Rattle.writing.specs.Placed.{placed}
use Rattle.formula.specs.declared.Formula.{Formula}
use Rattle.formula.specs.InnerFits.{FormulaFits}
use Rattle.walk.specs.Gaps.{ample_budget}
use Rattle.walk.specs.InnerStack.{Tree}
use Rattle.walk.specs.InnerMachine.{Position, resume}
use Rattle.walk.specs.InnerTest.{shown}
use Rattle.walk.specs.InnerCall.{resumed_result}
use Rattle.walk.specs.Results.{AnswerKind, says_model, says_spent, says_ended, says_refused, Result, answer_kind}
use Rattle.enumeration.specs.declared.scope.Scope.{Scope}
use Rattle.enumeration.specs.declared.state.State.{State}
use Rattle.enumeration.specs.InnerState.{position_in, Holds, Valid}
use Rattle.enumeration.specs.Values.{checkpoint_values}
use Rattle.page.specs.declared.Paged.{Paged}
use Rattle.page.specs.declared.filling.Lines.{Lines}
use Rattle.page.specs.PageLines.{page_lines, line_size, page_size, blank_line}
use Rattle.page.specs.Pages.{line_at, joined, max_serial}

-- the results of a run that brings a model and of those behind it; none if it brings none
abbrev pub while_model : AnswerKind → Result → List Result → List Result
while_model says_model r rs = r ∷ rs
while_model says_spent r rs = []
while_model says_ended r rs = []
while_model says_refused r rs = []

-- where runs stop, one of them being at p: behind the others, if it brings a model
abbrev pub stop_of : AnswerKind → Position → Position → Position
stop_of says_model p q = q
stop_of says_spent p q = p
stop_of says_ended p q = p
stop_of says_refused p q = p

module _ (K : Tree) where
  -- the models of at most k runs from p
  unfoldable pub found_from : ℕ → Position → List Result
  found_from zero p = []
  found_from (suc k) p =
      let r = resume K ample_budget p in
      while_model (answer_kind r.answer) (resumed_result r) (found_from k r.position)

  -- where they stop
  unfoldable pub stopped_from : ℕ → Position → Position
  stopped_from zero p = p
  stopped_from (suc k) p =
      let r = resume K ample_budget p in
      stop_of (answer_kind r.answer) r.position (stopped_from k r.position)

-- lines i to j - 1 of the page are blank
abbrev pub blanked_to : ℕ → ℕ → List ℕ → List ℕ
blanked_to i j page = placed (line_size * i) (joined (λ k. blank_line) (j - i)) page

-- the page from line i on is blank
abbrev pub blanked : ℕ → List ℕ → List ℕ
blanked i = blanked_to i page_lines

-- a state of a walk, and room for a page of serials up to 999,999
pub record Fillable (f : Formula) (z : Scope) (s : State) (serial : ℕ) (page : List ℕ) : Type 0 where
  pub fits : FormulaFits f
  pub valid : Valid f z s
  pub serials : serial ≤ max_serial
  pub room : page_size ≤ length page

-- the lines of the models that runs from p find, how many, and the state behind them
pub record LinesFilled (K : Tree) (n mask serial : ℕ) (p : Position) (before after : List ℕ) (r : Lines) : Type 0 where
  pub count : r.count ≡ length (found_from K page_lines p)
  pub written : after ≡ over (joined (line_at n mask serial (found_from K page_lines p)) r.count) before
  pub position : position_in r.state ≡ stopped_from K page_lines p
  pub holds : Holds K r.state

-- the same with the whole page, and with the checkpoint
pub record PageFilled (K : Tree) (n mask serial : ℕ) (p : Position) (before after : List ℕ) (r : Paged) : Type 0 where
  pub lines : r.lines ≡ length (found_from K page_lines p)
  pub checkpoint : checkpoint_values r.checkpoint ≡ shown (stopped_from K page_lines p)
  pub written : after ≡ over (joined (line_at n mask serial (found_from K page_lines p)) page_lines) before
