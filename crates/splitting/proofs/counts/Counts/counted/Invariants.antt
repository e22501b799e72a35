-- `counted` gives the variables with a count. The invariant: so far those with a digit before this one.
use Prim.Native.Nat.{ℕ}
use mathlib.Core.Bool.{◌||◌}
use mathlib.Core.Path.{◌≡◌}
use lib.Dec.{ltb}
use lib.ListN.{drop}
use Rattle.masks.specs.Mask.{bit}
use Rattle.splitting.specs.InnerChoose.{count_of}
use Rattle.splitting.proofs.counts.Counts.counted.Given as goal

abbrev pub invariant-loop-digit : goal.invariant-loop-digit
invariant-loop-digit l = (v : ℕ) → bit l.mask v || ltb 0 (count_of (drop l.digit-index l.digit-items) v) ≡ ltb 0 (count_of l.fn.self.digits v)
