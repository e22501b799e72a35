-- A checkpoint in an array: one assignment more, the last one read, one assignment less; and the assignment as a mask.
use Prim.Native.Nat.{ℕ, ◌^◌, ◌<◌}
use mathlib.Core.Bool.{Bool, true, false, cond}
use mathlib.Core.List.{List, [], ◌∷◌, ◌++◌, map, map-append}
use mathlib.Core.Path.{◌≡◌, refl, sym, ap, ◌∙◌}
use native.Mathlib.Omega.{arith}
use lib.Dec.{eqb}
use lib.ListN.{length, set, length-map}
use Rattle.limits.specs.Limits.{max_variables}
use Rattle.lists.specs.Padded.{padded}
use Rattle.lists.proofs.PaddedLaws.{padded_set}
use Rattle.lists.proofs.StoreLaws.{padded_clear}
use Rattle.lists.specs.Every.{Every}
use Rattle.lists.proofs.TestLaws.{or_swap}
use Rattle.masks.specs.Mask.{bit, with}
use Rattle.masks.proofs.BitLaws.{bit-with, mask_ext, with_lt}
use Rattle.formula.specs.Format.{Literal}
use Rattle.walk.specs.Plain.{assignment}
use Rattle.walk.specs.Checkpoints.{byte}
use Rattle.walk.proofs.AssignmentLaws.{assignment_lt}

-- a byte stored after a trail's
pub bytes_push : (t : List Literal) (l : Literal) → length t < max_variables → set (padded max_variables 0 (map byte t)) (length t) (byte l) ≡ padded max_variables 0 (map byte (t ++ (l ∷ [])))
bytes_push t l h =
    let e : length (map byte t) ≡ length t = length-map t byte in
    ap (λ (k : ℕ). set (padded max_variables 0 (map byte t)) k (byte l)) (sym e)
    ∙ padded_set max_variables 0 (map byte t) (byte l) (omega arith)
    ∙ ap (padded max_variables 0) (sym (map-append byte t (l ∷ [])))

-- the last byte set to 0
pub bytes_pop : (t : List Literal) (l : Literal) → length t < max_variables → set (padded max_variables 0 (map byte (t ++ (l ∷ [])))) (length t) 0 ≡ padded max_variables 0 (map byte t)
bytes_pop t l h =
    let e : length (map byte t) ≡ length t = length-map t byte in
    rw map-append (ap (λ (k : ℕ). set (padded max_variables 0 (map byte t ++ (byte l ∷ []))) k 0) (sym e) ∙ padded_clear max_variables 0 (map byte t) (byte l) (omega arith))

with_swap : (n m i j : ℕ) → m < 2 ^ n → i < n → j < n → with (with m i) j ≡ with (with m j) i
with_swap n m i j h p q =
    mask_ext n (with (with m i) j) (with (with m j) i) (with_lt n (with m i) j (with_lt n m i h p) q) (with_lt n (with m j) i (with_lt n m j h q) p)
    (λ k l. rw (bit-with (with m i) j k, bit-with m i k, bit-with (with m j) i k, bit-with m j k) (or_swap (bit m k) (eqb k j) (eqb k i)))

-- the assignment with one literal more
pub assignment_more : (n : ℕ) (t : List Literal) (l : Literal) → Every (λ k. k.variable < n) t → l.variable < n
    → assignment (t ++ (l ∷ [])) ≡ cond l.positive (with (assignment t) l.variable) (assignment t)
unfolding assignment
assignment_more n [] l w h = refl
assignment_more n (k ∷ t) l w h =
    ap (λ (a : ℕ). cond k.positive (with a k.variable) a) (assignment_more n t l w.1 h) ∙ at k.positive l.positive
  where
    at : (x y : Bool)
        → cond x (with (cond y (with (assignment t) l.variable) (assignment t)) k.variable) (cond y (with (assignment t) l.variable) (assignment t))
        ≡ cond y (with (cond x (with (assignment t) k.variable) (assignment t)) l.variable) (cond x (with (assignment t) k.variable) (assignment t))
    at true true = with_swap n (assignment t) l.variable k.variable (assignment_lt n t w.1) h w.0
    at true false = refl
    at false y = refl
