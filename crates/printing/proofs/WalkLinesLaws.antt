-- The lines of the plain machine, of walk calls and of the machine that resumes are the same.
use Prim.Native.Nat.{ℕ, zero, suc}
use mathlib.Core.List.{List, [], map}
use mathlib.Core.Path.{◌≡◌, refl, sym, ap, ◌∙◌}
use lib.ListN.{replicate}
use Rattle.formula.specs.Format.{Literal}
use Rattle.matched.specs.Acceptance.{accepted, acceptance}
use Rattle.walk.specs.Task.{Task, under, visible, Posed}
use Rattle.walk.specs.Gaps.{ample_budget}
use Rattle.walk.specs.Checkpoints.{Checkpoint, start, checkpoint_after}
use Rattle.walk.specs.PlainMachine.{Answer, found, spent, ended, plain_call, plain_calls}
use Rattle.walk.specs.InnerStack.{empty, Tree, tree}
use Rattle.walk.specs.InnerMachine.{Position, down, resume}
use Rattle.walk.specs.InnerTest.{shown}
use Rattle.walk.specs.WalkCall.{walk_call, walk_calls}
use Rattle.walk.specs.InnerLocate.{task_call}
use Rattle.walk.specs.Results.{answered, plain_result}
use Rattle.walk.proofs.RestLaws.{Live}
use Rattle.walk.proofs.CallLaws.{resumes, results}
use Rattle.walk.proofs.TreeLaws.{live}
use Rattle.walk.proofs.TaskLaws.{calls_plain, calls_results}
use Rattle.walk.proofs.RefusalLaws.{accepted_posed, call_accepted}
use Rattle.printing.specs.Printed.{call_lines, walk_lines}
use Rattle.printing.specs.InnerLines.{lines_from, kind_lines, result_lines}

-- one call
answer_lines : (n mask : ℕ) (a : Answer) (s e : ℕ) (c : Checkpoint) (rest : List ℕ) → call_lines n mask a s e rest ≡ kind_lines n mask (answered a s e c).kind (answered a s e c) rest
answer_lines n mask (found a) s e c rest = refl
answer_lines n mask spent s e c rest = refl
answer_lines n mask ended s e c rest = refl

-- the plain machine's lines are those of its results
plain_lines : (T : Task) (j k : ℕ) → walk_lines T j k ≡ result_lines T.variables (visible T) (map (plain_result T) (plain_calls T k (replicate j ample_budget)))
unfolding walk_lines result_lines plain_calls
plain_lines T zero k = refl
plain_lines T (suc j) k =
    let c = plain_call T ample_budget k in
    ap (call_lines T.variables (visible T) c.answer c.steps c.expansions) (plain_lines T j c.behind)
    ∙ answer_lines T.variables (visible T) c.answer c.steps c.expansions (checkpoint_after T c.behind) _

-- and so for the machine that resumes
resumed_lines : (K : Tree) (L : Live K) (n mask j : ℕ) (p : Position) → lines_from K n mask j p ≡ result_lines n mask (results K L p (replicate j ample_budget))
unfolding lines_from result_lines resumes
resumed_lines K L n mask zero p = refl
resumed_lines K L n mask (suc j) p =
    let r = resume K ample_budget p in
    ap (call_lines n mask r.answer r.steps r.expansions) (resumed_lines K L n mask j r.position)
    ∙ answer_lines n mask r.answer r.steps r.expansions (shown r.position) _

module _ (s : List ℕ) (n : ℕ) (t : List Literal) (cs : List (List Literal)) (row : List ℕ) (accepts : acceptance s [] ≡ accepted n t cs row) where
  abbrev T : Task
  T = under n t cs

  P : Posed (under n t cs)
  P = accepted_posed s [] n t cs row accepts

  walks : (c : Checkpoint) (b : ℕ) → walk_call s [] c b ≡ task_call (under n t cs) c b
  walks = call_accepted s [] n t cs row accepts

  -- the lines are those of walk calls on an ample budget, from the start on
  pub lines_calls : (j : ℕ) → walk_lines (under n t cs) j 0 ≡ result_lines n (visible (under n t cs)) (walk_calls s [] start (replicate j ample_budget))
  lines_calls j = plain_lines T j 0 ∙ ap (result_lines n (visible T)) (sym (calls_plain s [] T P walks (replicate j ample_budget)))

  -- and of the machine that resumes
  pub lines_resumed : (j : ℕ) → walk_lines (under n t cs) j 0 ≡ lines_from (tree (under n t cs)) n (visible (under n t cs)) j (down empty)
  lines_resumed j =
      lines_calls j
      ∙ ap (result_lines n (visible T)) (calls_results s [] T P walks (replicate j ample_budget))
      ∙ sym (resumed_lines (tree T) (live T P) n (visible T) j (down empty))
