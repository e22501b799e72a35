-- S23.3: what stands in a column.
use Prim.Native.Nat.{ℕ, ◌<◌}
use mathlib.Core.Bool.{Bool, true, false, cond}
use mathlib.Core.Logic.{◌↔◌}
use mathlib.Core.Path.{◌≡◌, refl, sym, ◌∙◌}
use native.Mathlib.Omega.{arith}
use lib.ListN.{get_or}
use Rattle.lists.proofs.TabulatedLaws.{get_or_tabulated}
use Rattle.masks.specs.Mask.{bit}
use Rattle.writing.specs.Text.{digit_zero, digit_one, dash, digit, column, columns}

module _ (n mask a i : ℕ) (h : i < n) where
  at : get_or (columns n mask a) i 0 ≡ column mask a i
  at = get_or_tabulated (column mask a) n i 0 h

  -- a dash exactly if the mask has no such member,
  pub column_dash : (get_or (columns n mask a) i 0 ≡ dash) ↔ (bit mask i ≡ false)
  column_dash = (λ e. dashed (bit mask i) (bit a i) (sym at ∙ e), λ e. at ∙ rw e)
    where
      dashed : (x y : Bool) → cond x (cond y digit_one digit_zero) dash ≡ dash → x ≡ false
      dashed true true e = absurd (omega arith)
      dashed true false e = absurd (omega arith)
      dashed false y e = refl

  -- else the digit
  pub column_digit : bit mask i ≡ true → get_or (columns n mask a) i 0 ≡ digit a i
  column_digit e = at ∙ rw e
