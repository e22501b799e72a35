-- Laws of a list mapped.
use Prim.Native.Nat.{ℕ, zero, suc, ◌<◌}
use mathlib.Core.List.{List, [], ◌∷◌, map}
use mathlib.Core.Path.{◌≡◌, refl}
use native.Mathlib.Omega.{arith}
use lib.ListN.{length, get_or}

-- the i-th element, where there is one, whatever the two lists have elsewhere
pub get_or-map_in : {A B : Type 0} (f : A → B) (l : List A) (i : ℕ) (d : A) (e : B) → i < length l → get_or (map f l) i e ≡ f (get_or l i d)
get_or-map_in f [] i d e h = absurd (omega arith)
get_or-map_in f (x ∷ l) zero d e h = refl
get_or-map_in f (x ∷ l) (suc i) d e h = get_or-map_in f l i d e (omega arith)
