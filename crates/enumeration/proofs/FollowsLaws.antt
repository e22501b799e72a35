-- The tree of a task is the one that the code's choices make.
use Prim.Native.Nat.{ℕ, ◌+◌, ◌*◌, ◌≤◌, ◌<◌}
use mathlib.Core.Bool.{Bool, true, false, cond, not, ◌||◌, or_assoc, or-false, or_comm}
use mathlib.Core.List.{List, [], ◌∷◌, ◌++◌}
use mathlib.Core.Path.{◌≡◌, refl, sym, ap, ◌∙◌}
use native.Mathlib.Nat.{le_trans, mul-le-mul}
use native.Mathlib.Omega.{arith}
use lib.ListN.{length}
use Rattle.limits.specs.Limits.{max_variables, max_clauses}
use Rattle.lists.proofs.TestLaws.{and_both}
use Rattle.masks.specs.Mask.{bit, with}
use Rattle.masks.proofs.BitLaws.{bit-none, bit-with, bit_below}
use Rattle.masks.proofs.MembersLaws.{mask_same}
use Rattle.masks.proofs.SizeLaws.{size_le}
use Rattle.formula.specs.declared.assignment.Assignment.{Assignment}
use Rattle.formula.specs.Format.{Literal}
use Rattle.formula.specs.InnerAssignment.{assigned, set_to}
use Rattle.formula.specs.InnerMasked.{formula_of}
use Rattle.splitting.specs.InnerChoose.{assign_all, assignment_of, mask_choice}
use Rattle.splitting.proofs.Theorems.{formula_below}
use Rattle.splitting.proofs.MaskNodeLaws.{assigned_trail, assign_all-append}
use Rattle.splitting.proofs.MaskChoiceLaws.{chosen_choice}
use Rattle.walk.specs.Task.{Task, to_assign, choice_at, Posed}
use Rattle.walk.specs.Plain.{assignment}
use Rattle.walk.specs.InnerStack.{Stack, depth, trail_of, tree}
use Rattle.walk.specs.InnerTest.{replays}
use Rattle.walk.proofs.TestLaws.{replays_replayed}
use Rattle.walk.proofs.TreeLaws.{trail_over, trail_lacking, choice_fresh, live, cheap}
use Rattle.enumeration.specs.InnerScope.{task_scope}
use Rattle.enumeration.specs.InnerState.{most_expansions, assigned_at, Follows}

-- the variables that are true after more literals
trues_more : (t : List Literal) (a : Assignment) (i : ℕ) → bit (assign_all a t).trues i ≡ bit a.trues i || bit (assignment t) i
unfolding assign_all assignment
trues_more [] a i = rw (bit-none i) (sym (or-false (bit a.trues i)))
trues_more (l ∷ t) a i = trues_more t (set_to a l.variable l.positive) i ∙ at l.positive
  where
    at : (p : Bool) → bit (set_to a l.variable p).trues i || bit (assignment t) i ≡ bit a.trues i || bit (cond p (with (assignment t) l.variable) (assignment t)) i
    at true =
        ap (λ (b : Bool). b || bit (assignment t) i) (bit-with a.trues l.variable i)
        ∙ or_assoc (bit a.trues i) _ (bit (assignment t) i)
        ∙ ap (λ (b : Bool). bit a.trues i || b) (or_comm _ (bit (assignment t) i) ∙ sym (bit-with (assignment t) l.variable i))
    at false = refl

-- the assignment of a trail as a number
assignment_trues : (t : List Literal) → assignment t ≡ (assignment_of t).trues
assignment_trues t = mask_same _ _ (λ i. sym (trues_more t (record { trues = 0; falses = 0 }) i ∙ ap (λ (b : Bool). b || bit (assignment t) i) (bit-none i)))

expansions_within : (n m : ℕ) → n ≤ max_variables → m ≤ max_clauses → n * m * (m + 1) ≤ most_expansions
expansions_within n m h k = mul-le-mul (mul-le-mul h k) (let l : m + 1 ≤ max_clauses + 1 = omega arith in l)

module _ (T : Task) where
  -- what is assigned before, and then the trail
  assigned_all_at : (t : Stack) → assignment_of (T.before ++ trail_of t) ≡ assigned_at (tree T) t
  assigned_all_at t = assign_all-append _ T.before (trail_of t)

  -- the code's choices make the tree of a task
  pub follows : Posed T → length T.clauses ≤ max_clauses → Follows (formula_of T.variables T.clauses) (task_scope T) (tree T)
  follows P few =
      record {
        mask = refl;
        size = refl;
        before = refl;
        most = most;
        chooses = chooses;
        low = λ t r h. let l = (choice_fresh T P t (replays_replayed (tree T) t r) h).0 in omega (arith, P.most);
        new = λ t r h.
            let v = ((tree T).choose t).variable in
            ap (λ (a : Assignment). bit (assigned a) v) (sym (assigned_all_at t))
            ∙ assigned_trail (T.before ++ trail_of t) v
            ∙ (choice_fresh T P t (replays_replayed (tree T) t r) h).1;
        alive = λ t r h. (live T P).alive t (replays_replayed (tree T) t r) h;
        cheap = λ t r h. le_trans (cheap T P t) (expansions_within (to_assign T) (length T.clauses) most few);
        results = λ t. assignment_trues (T.before ++ trail_of t) ∙ ap (λ (a : Assignment). a.trues) (assigned_all_at t);
      }
    where
      small : T.variables ≤ 64
      small = omega (arith, P.most)

      most : to_assign T ≤ max_variables
      most = omega (arith, size_le T.variables T.scope P.below, P.most)

      chooses : (t : Stack) → replays (tree T) t ≡ true → depth t < to_assign T
          → mask_choice (formula_of T.variables T.clauses) T.scope (assigned_at (tree T) t) ≡ choice_at T (trail_of t)
      chooses t r h =
          let R = replays_replayed (tree T) t r in
          let w = trail_lacking T P t R h in
          ap (mask_choice (formula_of T.variables T.clauses) T.scope) (sym (assigned_all_at t))
          ∙ chosen_choice T.variables T.clauses small (formula_below T.variables T.clauses P.clauses) (T.before ++ trail_of t) T.scope
          (trail_over T P t R) (λ v e. bit_below T.variables v T.scope P.below e) w.0 (and_both _ _ w.2 (ap not w.3))
