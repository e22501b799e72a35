-- Laws of `counted`: each count grows by one at most.
use mathlib.Core.Bool.{Bool, true, false}
use native.Mathlib.Omega.{arith}
use Rattle.vectors.specs.declared.totals.Totals.{Totals}
use Rattle.vectors.specs.Totals.{counted, Grown}

pub counted_grown : (t : Totals) (b : Bool) → Grown 1 t (counted t b)
counted_grown t true = record { vectors = omega arith; differences = omega arith }
counted_grown t false = record { vectors = omega arith; differences = omega arith }
