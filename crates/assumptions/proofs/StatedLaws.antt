-- The number of variables that an input states.
use Prim.Native.Nat.{ℕ, ◌≤◌}
use mathlib.Core.Bool.{Bool, true, false, cond}
use mathlib.Core.List.{List, [], ◌∷◌}
use mathlib.Core.Path.{◌≡◌, refl, ap, ◌∙◌}
use native.Mathlib.Omega.{arith}
use lib.Dec.{ltb}
use lib.ListN.{length, get_or}
use borrow.Author.Tests.{ltb-false, le-ltb}
use Rattle.limits.specs.Limits.{max_variables}
use Rattle.std.specs.Prelude.{Result, Ok}
use Rattle.formula.specs.declared.assignment.Assignment.{Assignment}
use Rattle.formula.specs.declared.Refusal.{Refusal}
use Rattle.formula.specs.InnerAssignment.{unassigned}
use Rattle.formula.specs.Format.{Literal, formula_bytes, Encodes}
use Rattle.formula.specs.InnerMasked.{with_literals}
use Rattle.assumptions.specs.declared.Assumption.{Assumption}
use Rattle.assumptions.specs.Assumed.{assumed_from, assumed}
use Rattle.assumptions.specs.InnerAssumed.{masks_of, stated_in, MasksOf}

-- it is at most 48
pub stated_le : (s : List ℕ) → stated_in s ≤ max_variables
unfolding stated_in
stated_le s = go (ltb (length s) 2) (ltb max_variables (get_or s 1 0)) (get_or s 1 0) refl
  where
    go : (t u : Bool) (n : ℕ) → ltb max_variables n ≡ u → cond t 0 (cond u max_variables n) ≤ max_variables
    go true u n e = omega arith
    go false true n e = omega arith
    go false false n e = ltb-false max_variables n e

-- the second byte, where that is at most 48
stated_second : (x n : ℕ) (s : List ℕ) → n ≤ max_variables → stated_in (x ∷ n ∷ s) ≡ n
unfolding stated_in
stated_second x n s h = rw (le-ltb (length (x ∷ n ∷ s)) 2 (omega arith), le-ltb max_variables n h)

-- so it is that of the formula that the input encodes
pub stated_encoded : {s : List ℕ} {n : ℕ} {cs : List (List Literal)} → Encodes s n cs → stated_in s ≡ n
unfolding formula_bytes
stated_encoded {s} {n} e = ap stated_in e.bytes ∙ stated_second 1 n _ e.sized.most

-- ---- what a list beside an input reads to

-- it is that for the number of variables of the formula that the input encodes
pub given_encoded : {s : List ℕ} {n : ℕ} {cs : List (List Literal)} (us : List Assumption) {a : Result Assignment Refusal} → MasksOf s us a → Encodes s n cs
    → a ≡ masks_of (assumed n us)
given_encoded us g e = rw (← stated_encoded e) g

-- a list without assumptions assigns nothing
pub given_none : (s : List ℕ) → MasksOf s [] (Ok unassigned)
unfolding assumed assumed_from with_literals
given_none s = refl
