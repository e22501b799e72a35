-- Where two trails part.
use Prim.Native.Nat.{ℕ, ◌≤◌}
use mathlib.Core.Bool.{Bool, true, false, and-false}
use mathlib.Core.List.{List, [], ◌∷◌, ◌++◌, append_assoc}
use mathlib.Core.Path.{◌≡◌, refl, sym, ap, ◌∙◌}
use native.Mathlib.Omega.{arith}
use lib.Dec.{eqb}
use lib.ListN.{drop}
use lib.Seq.{drop_at}
use Rattle.formula.specs.Format.{Literal}
use Rattle.walk.specs.Gaps.{shared, Parting}
use Rattle.walk.specs.InnerStack.{Stack, push, depth, trail_of}
use Rattle.walk.proofs.PositionLaws.{length_trail}
use Rattle.walk.proofs.SharedLaws.{shared_part}

-- t is s with more assigned
pub data Begins (s : Stack) : Stack → Type 0 where
  b_same : Begins s s
  b_more : (v : ℕ) (b : Bool) {t : Stack} → Begins s t → Begins s (push v b t)

-- a shorter beginning
pub begins_less : {v : ℕ} {b : Bool} {s t : Stack} → Begins (push v b s) t → Begins s t
begins_less {v} {b} b_same = b_more v b b_same
begins_less (b_more w x h) = b_more w x (begins_less h)

-- a beginning is not deeper
pub begins_depth : {s t : Stack} → Begins s t → depth s ≤ depth t
begins_depth b_same = omega arith
begins_depth (b_more v b h) = let i = begins_depth h in omega arith

-- the trail goes on from that of a beginning
begins_trail : {v : ℕ} {b : Bool} {s t : Stack} → Begins (push v b s) t → (r : List Literal) × (trail_of t ≡ trail_of s ++ (record { variable = v; positive = b } ∷ r))
unfolding trail_of
begins_trail b_same = ([], refl)
begins_trail {v} {b} {s} (b_more w x h) =
    let i = begins_trail h in
    (i.0 ++ (record { variable = w; positive = x } ∷ []), rw i.1 (append_assoc (trail_of s) (record { variable = v; positive = b } ∷ i.0) _))

-- where one trail has a variable as false and the other as true, they part: so much is shared
module _ (v : ℕ) (s t u : Stack) (had : Begins (push v false s) t) (has : Begins (push v true s) u) where
  pub parting_depth : shared (trail_of t) (trail_of u) ≡ depth s
  parting_depth =
      let x = begins_trail had in
      let y = begins_trail has in
      rw (x.1, y.1) (shared_part (trail_of s) _ _ x.0 y.0 (and-false (eqb v v)) ∙ length_trail s)

  pub parting : Parting (trail_of t) (trail_of u)
  parting =
      let x = begins_trail had in
      let y = begins_trail has in
      let l = length_trail s ∙ sym parting_depth in
      record {
        variable = v;
        had = (x.0, ap (drop (shared (trail_of t) (trail_of u))) x.1 ∙ drop_at (trail_of s) _ (shared (trail_of t) (trail_of u)) l);
        has = (y.0, ap (drop (shared (trail_of t) (trail_of u))) y.1 ∙ drop_at (trail_of s) _ (shared (trail_of t) (trail_of u)) l);
      }
