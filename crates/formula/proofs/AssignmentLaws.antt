-- A partial assignment's test of a clause.
use Prim.Native.Nat.{ℕ}
use mathlib.Core.Bool.{true, not, ◌||◌}
use mathlib.Core.Path.{◌≡◌, sym, ap, ◌∙◌}
use native.Mathlib.Decide.{ℕ_discrete}
use lib.Bits.{bit_or}
use lib.Dec.{eqb}
use borrow.Author.Tests.{eq-eqb, ne_eqb}
use Rattle.lists.proofs.TestLaws.{or_left, or_right}
use Rattle.masks.specs.Mask.{bit}
use Rattle.masks.proofs.BitLaws.{bit-or}
use Rattle.masks.proofs.MembersLaws.{some_member, member_some}

-- a mask of two has a member if one of them has
pub some_or : (x y : ℕ) → not (eqb (bit_or x y) 0) ≡ not (eqb x 0) || not (eqb y 0)
some_or x y = go (ℕ_discrete x 0) (ℕ_discrete y 0)
  where
    has : (i : ℕ) → bit x i || bit y i ≡ true → not (eqb (bit_or x y) 0) ≡ true
    has i h = ap not (ne_eqb (bit_or x y) 0 (member_some (bit_or x y) i (bit-or x y i ∙ h)))

    go : Dec (x ≡ 0) → Dec (y ≡ 0) → not (eqb (bit_or x y) 0) ≡ not (eqb x 0) || not (eqb y 0)
    go (no p) d = let w = some_member x p in has w.0 (or_left (bit x w.0) (bit y w.0) w.1) ∙ sym (rw (ne_eqb x 0 p))
    go (yes p) (no q) = let w = some_member y q in has w.0 (or_right (bit x w.0) (bit y w.0) w.1) ∙ sym (rw (eq-eqb x 0 p, ne_eqb y 0 q))
    go (yes p) (yes q) = rw (p, q)
