-- A list of assumptions as the code holds it, in two masks, and what its functions compute.
use Rattle.std.specs.Prelude.{ℕ, ◌+◌, ◌*◌, ◌-◌, Bool, cond, ◌||◌, List, ◌≡◌, eqb, ltb, length, get_or, Result, Ok, Err}
use Rattle.limits.specs.Limits.{max_variables}
use Rattle.masks.specs.Mask.{bit}
use Rattle.formula.specs.declared.assignment.Assignment.{Assignment}
use Rattle.formula.specs.declared.Refusal.{Refusal}
use Rattle.formula.specs.declared.Refusal.TheVariants.{BadAssumption}
use Rattle.formula.specs.InnerAssignment.{assigned, set_to}
use Rattle.formula.specs.InnerMasked.{clause_of}
use Rattle.assumptions.specs.declared.Assumption.{Assumption}
use Rattle.assumptions.specs.Assumed.{Assumed, literals, bad, assumed}
use Rattle.assumptions.specs.Bytes.{pair_of}

-- what a list says in two masks, or the refusal of its first bad assumption
abbrev pub masks_of : Assumed → Result Assignment Refusal
masks_of (literals t) = Ok (record { trues = (clause_of t).positive; falses = (clause_of t).negative })
masks_of (bad i) = Err (BadAssumption i)

-- ---- one assumption more

-- the variable s, from 1, can't be assumed
abbrev pub bad_in : ℕ → Assignment → ℕ → Bool
bad_in n a s = eqb s 0 || (ltb n s || bit (assigned a) (s - 1))

-- the assumption with the index i is read, unless it is bad
abbrev pub taken : ℕ → ℕ → Assumption → Assignment → Result Assignment Refusal
taken n i u a = cond (bad_in n a u.variable) (Err (BadAssumption i)) (Ok (set_to a (u.variable - 1) u.value))

-- ---- the input beside a list, and a list as bytes

-- the number of variables that an input states in its byte 1, at most 48; 0 where it has no such byte
unfoldable pub stated_in : List ℕ → ℕ
stated_in s = cond (ltb (length s) 2) 0 (cond (ltb max_variables (get_or s 1 0)) max_variables (get_or s 1 0))

-- the list us reads to a, for the number of variables that the input s states
abbrev pub MasksOf : List ℕ → List Assumption → Result Assignment Refusal → Type 0
MasksOf s us a = a ≡ masks_of (assumed (stated_in s) us)

-- of a list as bytes, the assumption with the index i
abbrev pub pair_at : List ℕ → ℕ → Assumption
pair_at s i = pair_of (get_or s (i * 2) 0) (get_or s (i * 2 + 1) 0)
