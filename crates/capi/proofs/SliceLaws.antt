-- Laws of slices of fixed length: what stands in them once every element is written.
use Prim.Native.Nat.{ℕ, suc, ◌-◌}
use mathlib.Core.List.{List, [], ◌∷◌, ◌++◌, append-nil}
use mathlib.Core.Path.{◌≡◌, refl, sym}
use native.Mathlib.Omega.{arith}
use lib.ListN.{length, take, drop, set, drop_of_length-le}
use Rattle.limits.specs.Limits.{max_variables}
use Rattle.walk.specs.Checkpoints.{Checkpoint}
use Rattle.capi.specs.Interface.{checkpoint_size, checkpoint_bytes, checkpoint_in}

-- nothing lies behind the last element
behind : (l : List ℕ) (n : ℕ) → length l ≡ n → drop n l ≡ []
behind l n h = drop_of_length-le l {i = n} (omega arith)

-- two stores, and 48 bytes copied behind them
pub written :
    (s trail new : List ℕ) (mode size : ℕ) →
    length s ≡ checkpoint_size →
    new ≡ trail →
    (let t = set (set s 0 mode) 1 size in
    take 2 t ++ (new ++ drop (length t - 2) (drop 2 t)) ≡ mode ∷ size ∷ trail)
written [] trail new mode size h e = absurd (omega arith)
written (a ∷ []) trail new mode size h e = absurd (omega arith)
written (a ∷ b ∷ s) trail new mode size h e =
    let m : length s ≡ max_variables = omega arith in
    let k : suc (suc (length s)) - 2 ≡ max_variables = omega arith in
    rw (e, k, behind s max_variables m) (simp append-nil)

-- 50 bytes are those of the checkpoint that they hold
held_bytes : (b : List ℕ) → length b ≡ checkpoint_size → checkpoint_bytes (checkpoint_in b) ≡ b
held_bytes [] h = absurd (omega arith)
held_bytes (x ∷ []) h = absurd (omega arith)
held_bytes (x ∷ y ∷ b) h = refl

-- so they are those that are left where nothing is written
pub kept : {from : Checkpoint} {b left : List ℕ} → from ≡ checkpoint_in b → length b ≡ checkpoint_size → left ≡ b → left ≡ checkpoint_bytes from
kept {from} {b} {left} f h l = rw (l, f) (sym (held_bytes b h))
