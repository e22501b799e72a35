-- What the code of accept computes on the way.
use Rattle.std.specs.Prelude.{ℕ, zero, suc, ◌+◌, ◌<◌, not, cond, ◌&&◌, List, [], ◌∷◌, get_or}
use Rattle.lists.specs.Every.{Every}
use Rattle.lists.specs.Tabulated.{tabulated}
use Rattle.masks.specs.Mask.{bit}
use Rattle.formula.specs.declared.assignment.Assignment.{Assignment}
use Rattle.formula.specs.declared.Clause.{Clause}
use Rattle.formula.specs.InnerAssignment.{satisfied_under}
use Rattle.formula.specs.InnerFits.{clause_variables}
use Rattle.formula.specs.InnerMasked.{no_clause}
use Rattle.splitting.specs.declared.Stripping.{Stripping}

module _ (cs : List Clause) (a : Assignment) where
  -- how many of the first i clauses of an array the assignment does not satisfy
  unfoldable pub open_before : ℕ → ℕ
  open_before zero = 0
  open_before (suc i) = cond (satisfied_under a (get_or cs i no_clause)) (open_before i) (suc (open_before i))

  -- the byte of clause i: 0 if it is satisfied, else the next of the answers and k
  abbrev pub byte_at : List ℕ → ℕ → ℕ → ℕ
  byte_at answers k i = cond (satisfied_under a (get_or cs i no_clause)) 0 (get_or answers (open_before i) 0 + k)

  -- the bytes of the first n clauses
  abbrev pub bytes_at : List ℕ → ℕ → ℕ → List ℕ
  bytes_at answers k n = tabulated (byte_at answers k) n

-- ---- the clauses that stripping dropped

-- the noted variables fit a mask
abbrev pub NotesFit : Stripping → Type 0
NotesFit s = Every (λ v. v < 64) s.order.items

-- the first of a list of variables that a mask has, 0 if it has none
unfoldable pub first_in : List ℕ → ℕ → ℕ
first_in [] m = 0
first_in (v ∷ vs) m = cond (bit m v) v (first_in vs m)

-- the first noted variable that a clause names
abbrev pub first_noted : Stripping → Clause → ℕ
first_noted s c = first_in s.order.items (clause_variables c)

-- the byte of a clause: 129 and the variable that drops it, if it is satisfied with the noted variables only; else x
abbrev pub told_byte : Assignment → Stripping → Clause → ℕ → ℕ
told_byte a s c x = cond (satisfied_under s.assignment c && not (satisfied_under a c)) (first_noted s c + 129) x

-- the bytes of the first n clauses of an array, those of the others as in a table
abbrev pub told_bytes : List Clause → Assignment → Stripping → List ℕ → ℕ → List ℕ
told_bytes cs a s table n = tabulated (λ i. told_byte a s (get_or cs i no_clause) (get_or table i 0)) n
