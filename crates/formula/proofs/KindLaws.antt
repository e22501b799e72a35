-- Laws of a literal's kinds.
use Prim.Native.Nat.{◌<◌}
use mathlib.Core.Bool.{Bool, true, false}
use mathlib.Core.Path.{◌≡◌, refl}
use native.Mathlib.Omega.{arith}
use Rattle.formula.specs.Format.{literal_kind}

-- the kind of a literal is neither 4 nor 5
pub kind_low : (sign : Bool) → literal_kind sign < 4
kind_low true = omega arith
kind_low false = omega arith

-- and says its sign
pub kind_sign : (a b : Bool) → literal_kind a ≡ literal_kind b → a ≡ b
kind_sign true true e = refl
kind_sign true false e = absurd (omega arith)
kind_sign false true e = absurd (omega arith)
kind_sign false false e = refl
