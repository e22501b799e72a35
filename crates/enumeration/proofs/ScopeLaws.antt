-- What the code takes to be assigned is what a task has.
use Prim.Native.Nat.{ℕ}
use mathlib.Core.List.{List, map}
use mathlib.Core.Path.{◌≡◌, refl, ap, ap₂}
use lib.Bits.{bit_or}
use Rattle.masks.specs.Mask.{minus, size}
use Rattle.formula.specs.Format.{Literal}
use Rattle.formula.specs.Masked.{variables}
use Rattle.formula.specs.InnerMasked.{formula_of}
use Rattle.matching.specs.Sets.{union}
use Rattle.splitting.specs.InnerChoose.{assignment_of}
use Rattle.splitting.proofs.MaskNodeLaws.{assigned-variables}
use Rattle.matched.proofs.PairingLaws.{array_masks}
use Rattle.walk.specs.Task.{Task, under, visible}
use Rattle.enumeration.specs.InnerScope.{named_less, scope_under, visible_in, task_scope}

-- a trail is assigned before, and what the clauses name besides is to be assigned
pub under_task : (n : ℕ) (cs : List (List Literal)) (t : List Literal) → scope_under (formula_of n cs) (assignment_of t) ≡ task_scope (under n t cs)
under_task n cs t =
    let e : named_less (formula_of n cs) (assignment_of t) ≡ minus (union (map variables cs)) (variables t) =
    ap₂ (λ (l : List ℕ) (m : ℕ). minus (union l) m) (array_masks n cs (formula_of n cs) refl) (assigned-variables t) in
    ap (λ (m : ℕ). record { mask = m; size = size m; before = assignment_of t }) e

-- a scope shows what its task does
pub visible_task : (T : Task) → visible_in (task_scope T) ≡ visible T
visible_task T = ap (bit_or T.scope) (assigned-variables T.before)
