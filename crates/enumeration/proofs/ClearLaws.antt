-- Depths at which no clause is left, in a mask: one variable more, and what is noted.
use Prim.Native.Nat.{ℕ, ◌+◌, ◌<◌}
use mathlib.Core.Bool.{Bool, true, false}
use mathlib.Core.List.{List, [], ◌∷◌}
use mathlib.Core.Path.{◌≡◌, sym, ap, ◌∙◌}
use native.Mathlib.Omega.{arith}
use Rattle.masks.specs.Mask.{bit}
use Rattle.masks.proofs.BitLaws.{bit-with-same, bit-with_other, bit-without-same, bit-without_other}
use Rattle.formula.specs.declared.Formula.{Formula}
use Rattle.formula.specs.Format.{Literal}
use Rattle.splitting.specs.InnerChoose.{all_satisfied}
use Rattle.splitting.proofs.FreeLaws.{satisfied_stays, chosen_satisfied}
use Rattle.splitting.proofs.MaskNodeLaws.{assign_all_more}
use Rattle.walk.specs.InnerStack.{Stack, empty, push, depth, trail_of, Tree}
use Rattle.enumeration.specs.declared.scope.Scope.{Scope}
use Rattle.enumeration.specs.InnerState.{assigned_at, Follows, onto, Free, Clears, marked_as}

pub bit-marked : (m d : ℕ) (b : Bool) → bit (marked_as m d b) d ≡ b
bit-marked m d true = bit-with-same m d
bit-marked m d false = bit-without-same m d

pub bit-marked_other : (m d : ℕ) (b : Bool) (i : ℕ) → (i ≡ d → ⊥) → bit (marked_as m d b) i ≡ bit m i
bit-marked_other m d true i h = bit-with_other m d i h
bit-marked_other m d false i h = bit-without_other m d i h

-- ---- trails below which no clause is left

module _ (K : Tree) (t : Stack) (g : Free K t) where
  free_push : (v : ℕ) (b : Bool) → Free K (push v b t)
  unfolding onto
  free_push v b = λ ls. g (record { variable = v; positive = b } ∷ ls)

module _ (f : Formula) (z : Scope) (K : Tree) (F : Follows f z K) where
  -- satisfied clauses stay so on every longer trail
  satisfied_onto : (t : Stack) (ls : List Literal) → all_satisfied f (assigned_at K t) ≡ true → all_satisfied f (assigned_at K (onto t ls)) ≡ true
  unfolding onto trail_of
  satisfied_onto t [] e = e
  satisfied_onto t (l ∷ ls) e =
      satisfied_onto (push l.variable l.positive t) ls
      (ap (all_satisfied f) (assign_all_more K.before (trail_of t) l) ∙ satisfied_stays f (assigned_at K t) e l.variable l.positive)

  pub free_satisfied : (t : Stack) → all_satisfied f (assigned_at K t) ≡ true → Free K t
  free_satisfied t e = λ ls r l. sym (F.chooses (onto t ls) r l) ∙ chosen_satisfied f (assigned_at K (onto t ls)) (satisfied_onto t ls e) K.mask

-- ---- the mask

module _ (K : Tree) (m : ℕ) where
  -- the node of the whole trail
  pub clears_here : (t : Stack) → Clears K m t → bit m (depth t) ≡ true → Free K t
  clears_here empty c e = c e
  clears_here (push v b t) c e = c.0 e

  module _ (d : ℕ) (b : Bool) where
    -- a mark at a depth changes nothing above it
    clears_above : (t : Stack) → depth t < d → Clears K m t → Clears K (marked_as m d b) t
    clears_above empty l c = λ e. c (sym (bit-marked_other m d b 0 (λ q. omega arith)) ∙ e)
    clears_above (push v x t) l c =
        (λ e. c.0 (sym (bit-marked_other m d b (depth (push v x t)) (λ q. omega arith)) ∙ e), clears_above t (omega arith) c.1)

    -- the mark at the trail's end
    pub clears_note : (t : Stack) → d ≡ depth t → (b ≡ true → Free K t) → Clears K m t → Clears K (marked_as m d b) t
    clears_note empty l g c = λ e. g (sym (bit-marked m d b) ∙ ap (bit (marked_as m d b)) l ∙ e)
    clears_note (push v x t) l g c = (λ e. g (sym (bit-marked m d b) ∙ ap (bit (marked_as m d b)) l ∙ e), clears_above t (omega arith) c.1)

  -- one variable more: what is clear stays so
  pub clears_push : (d : ℕ) (t : Stack) (v : ℕ) (b : Bool) → d ≡ depth t → Clears K m t → Clears K (marked_as m (d + 1) (bit m d)) (push v b t)
  clears_push d t v b l c =
      let k = marked_as m (d + 1) (bit m d) in
      let q : d + 1 ≡ depth (push v b t) = omega arith in (
        λ e. free_push K t (clears_here t c (ap (bit m) (sym l) ∙ sym (bit-marked m (d + 1) (bit m d)) ∙ ap (bit k) q ∙ e)) v b,
        clears_above (d + 1) (bit m d) t (omega arith) c,
      )
