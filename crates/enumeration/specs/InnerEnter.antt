-- From which state a call goes on.
use Rattle.std.specs.Prelude.{ℕ, ◌<◌, true, List, ◌≡◌, length, Result, Ok, Err}
use Rattle.limits.specs.Limits.{max_variables}
use Rattle.formula.specs.declared.Formula.{Formula}
use Rattle.formula.specs.declared.Refusal.{Refusal}
use Rattle.formula.specs.Format.{Literal}
use Rattle.formula.specs.InnerMasked.{formula_of}
use Rattle.formula.specs.InnerFits.{FormulaFits}
use Rattle.assumptions.specs.declared.Assumption.{Assumption}
use Rattle.matched.specs.Acceptance.{accepted, acceptance}
use Rattle.walk.specs.Task.{Task, under, visible, Posed}
use Rattle.walk.specs.Checkpoints.{Checkpoint}
use Rattle.walk.specs.InnerStack.{Tree}
use Rattle.walk.specs.InnerMachine.{resume}
use Rattle.walk.specs.InnerTest.{read, position_of, accepts}
use Rattle.walk.specs.InnerCall.{resumed_result, resumed_call}
use Rattle.walk.specs.InnerLocate.{task_call}
use Rattle.walk.specs.WalkCall.{walk_call}
use Rattle.walk.specs.Results.{refusing}
use Rattle.enumeration.specs.declared.scope.Scope.{Scope}
use Rattle.enumeration.specs.declared.state.State.{State}
use Rattle.enumeration.specs.InnerScope.{visible_in, task_scope}
use Rattle.enumeration.specs.InnerState.{position_in, Follows, Holds}
use Rattle.enumeration.specs.InnerLists.{filling}
use Rattle.enumeration.specs.Lists.{next_models}

-- the input is accepted, f has its number of variables, and z shows the variables that its task does
pub record AcceptedAs (s : List ℕ) (us : List Assumption) (f : Formula) (z : Scope) : Type 0 where
  pub trail : List Literal
  pub clauses : List (List Literal)
  pub row : List ℕ
  pub accepts : acceptance s us ≡ accepted f.variables trail clauses row
  pub shows : visible_in z ≡ visible (under f.variables trail clauses)

-- under the assumptions us the input s is walked as a task, and f and z hold it
pub record WalkedAs (s : List ℕ) (us : List Assumption) (f : Formula) (z : Scope) : Type 0 where
  pub task : Task
  pub posed : Posed task
  pub formula : f ≡ formula_of task.variables task.clauses
  pub scope : z ≡ task_scope task
  pub fits : FormulaFits f
  pub accepted : AcceptedAs s us f z
  pub calls : (c : Checkpoint) (b : ℕ) → walk_call s us c b ≡ task_call task c b

-- The state q of the checkpoint c in the walk of the input s under us, which f and z hold: c passes the test, and the calls and the lists
-- from it go on from the state. A call from any checkpoint of 48 bytes is that of the machine that tests it.
pub record Begun (s : List ℕ) (us : List Assumption) (f : Formula) (z : Scope) (c : Checkpoint) (q : State) : Type 0 where
  pub tree : Tree
  pub fits : FormulaFits f
  pub accepted : AcceptedAs s us f z
  pub follows : Follows f z tree
  pub holds : Holds tree q
  pub passes : accepts tree c ≡ true
  pub position : position_in q ≡ position_of tree.size c.mode (read c)
  pub calls : (b : ℕ) → walk_call s us c b ≡ resumed_result (resume tree b (position_in q))
  pub lists : (k : ℕ) → 0 < k → next_models s us c k ≡ filling tree (position_in q) k
  pub tested : (x : Checkpoint) (b : ℕ) → length x.bytes ≡ max_variables → walk_call s us x b ≡ resumed_call tree x b

-- that state, or the refusal of every call from c
pub record Enters (s : List ℕ) (us : List Assumption) (f : Formula) (z : Scope) (c : Checkpoint) (r : Result State Refusal) : Type 0 where
  pub begun : (q : State) → r ≡ Ok q → Begun s us f z c q
  pub refused : (e : Refusal) → r ≡ Err e → (b : ℕ) → walk_call s us c b ≡ refusing e c
