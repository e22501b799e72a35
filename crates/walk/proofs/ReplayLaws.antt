-- The replay of a trail byte by byte.
use Prim.Native.Nat.{ℕ, suc, ◌-◌, ◌<◌}
use mathlib.Core.Bool.{false}
use mathlib.Core.List.{List, [], ◌∷◌}
use mathlib.Core.Path.{◌≡◌, ap, ◌∙◌}
use lib.ListN.{length, get_or, take}
use lib.Seq.{take-suc}
use Rattle.walk.specs.Checkpoints.{byte_number, byte_value}
use Rattle.walk.specs.InnerStack.{Stack, empty, push, Tree}
use Rattle.walk.specs.InnerTest.{pushed, replays}
use Rattle.walk.proofs.ByteLaws.{pushed-append}

-- one byte more
pub read_next : (l : List ℕ) (i : ℕ) → i < length l
    → pushed empty (take (suc i) l) ≡ push (byte_number (get_or l i 0) - 1) (byte_value (get_or l i 0)) (pushed empty (take i l))
unfolding pushed
read_next l i h = ap (pushed empty) (take-suc l i 0 h) ∙ pushed-append (take i l) (get_or l i 0 ∷ []) empty

-- where a trail fails, a longer one fails
pub replays_fails : (K : Tree) (xs : List ℕ) (t : Stack) → replays K t ≡ false → replays K (pushed t xs) ≡ false
unfolding pushed replays
replays_fails K [] t e = e
replays_fails K (x ∷ xs) t e = replays_fails K xs (push (byte_number x - 1) (byte_value x) t) (rw e)
