-- The lines as the code writes them: call after call of the machine that resumes, and as results of walk calls.
use Rattle.std.specs.Prelude.{ℕ, zero, suc, List, [], ◌∷◌, ◌++◌, ◌≡◌}
use Rattle.walk.specs.Gaps.{ample_budget}
use Rattle.walk.specs.InnerStack.{empty, Tree}
use Rattle.walk.specs.InnerMachine.{Position, down, resume}
use Rattle.walk.specs.Results.{AnswerKind, says_model, says_spent, says_ended, says_refused, Result}
use Rattle.formula.specs.InnerFits.{FormulaFits}
use Rattle.matched.specs.InnerAccept.{Takes}
use Rattle.splitting.specs.InnerChoose.{assignment_of}
use Rattle.enumeration.specs.declared.scope.Task.{Task}
use Rattle.enumeration.specs.InnerScope.{scope_under, visible_in}
use Rattle.enumeration.specs.InnerState.{Follows}
use Rattle.writing.specs.declared.Writer.{Writer}
use Rattle.writing.specs.Placed.{RoomIn}
use Rattle.printing.specs.Printed.{model_line, end_line, more_line, call_lines, max_models, printed}

module _ (K : Tree) (n mask : ℕ) where
  -- from a position, with room for j models more
  unfoldable pub lines_from : ℕ → Position → List ℕ
  lines_from zero p = more_line
  lines_from (suc j) p =
      let r = resume K ample_budget p in
      call_lines n mask r.answer r.steps r.expansions (lines_from j r.position)

-- the task of a formula within the limits, whose choices over the scope make a tree; and the writer has room for its lines
pub record Fitting (T : Task) (w : Writer) : Type 0 where
  pub fits : FormulaFits T.formula
  pub tree : Tree
  pub follows : Follows T.formula T.scope tree
  pub room : RoomIn (lines_from tree T.formula.variables (visible_in T.scope) max_models (down empty)) w

-- the input is accepted without assumptions, and T is what its walk goes over
pub record IsTask (s : List ℕ) (T : Task) : Type 0 where
  pub takes : Takes s [] T.formula
  pub scope : T.scope ≡ scope_under T.formula (assignment_of takes.trail)

-- T is what the walk of an input goes over, and the writer has room for its print
pub record Printable (T : Task) (w : Writer) : Type 0 where
  pub input : List ℕ
  pub task : IsTask input T
  pub room : RoomIn (printed input) w

-- the line of a result, and then the rest
abbrev pub kind_lines : ℕ → ℕ → AnswerKind → Result → List ℕ → List ℕ
kind_lines n mask says_model r rest = model_line n mask r.model r.steps r.expansions ++ rest
kind_lines n mask says_spent r rest = []
kind_lines n mask says_ended r rest = end_line r.steps r.expansions
kind_lines n mask says_refused r rest = []

-- the lines of a list of walk calls
unfoldable pub result_lines : ℕ → ℕ → List Result → List ℕ
result_lines n mask [] = more_line
result_lines n mask (r ∷ rs) = kind_lines n mask r.kind r (result_lines n mask rs)
