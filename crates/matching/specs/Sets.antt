-- S5.5: clauses by their masks, the sets of variables that they name.
use Rattle.std.specs.Prelude.{ℕ, ◌<◌, ◌^◌, cond, List, [], ◌∷◌, length, get_or, eqb}
use Rattle.std.specs.Int.Bits.{bit_or}

-- each clause is a 64-bit mask: its variables are below 64
abbrev pub Words : List ℕ → Type 0
Words sets = (i : ℕ) → i < length sets → get_or sets i 0 < 2 ^ 64

-- what the clauses together name
unfoldable pub union : List ℕ → ℕ
union [] = 0
union (set ∷ sets) = bit_or set (union sets)

-- the elements of a list whose mark is not 0
unfoldable pub selected : {A : Type 0} → List ℕ → List A → List A
selected [] l = []
selected (mark ∷ marks) [] = []
selected (mark ∷ marks) (x ∷ l) = cond (eqb mark 0) (selected marks l) (x ∷ selected marks l)
