-- S17.1: what a list of assumptions (request: fixed settings) is, for a formula of n variables.
use Rattle.std.specs.Prelude.{ℕ, suc, ◌-◌, Bool, cond, ◌||◌, List, [], ◌∷◌, ◌++◌, eqb, ltb}
use Rattle.formula.specs.Format.{Literal, names}
use Rattle.assumptions.specs.declared.Assumption.{Assumption}

-- its literals in order, their variables from 0; or bad, at the index of the first bad assumption
pub data Assumed : Type 0 where
  literals : List Literal → Assumed
  bad : ℕ → Assumed

-- an assumption (request: fixing) as a literal: its variable from 0, named as its value says
abbrev pub literal_of : Assumption → Literal
literal_of u = record { variable = u.variable - 1; positive = u.value }

-- S17.1: bad behind the literals t: its variable is 0, above n, or assumed before, with whichever value
unfoldable pub is_bad : ℕ → List Literal → Assumption → Bool
is_bad n t u = eqb u.variable 0 || (ltb n u.variable || names t (u.variable - 1))

-- the rest of a list of which i are read, with the literals t
unfoldable pub assumed_from : ℕ → ℕ → List Literal → List Assumption → Assumed
assumed_from n i t [] = literals t
assumed_from n i t (u ∷ us) = cond (is_bad n t u) (bad i) (assumed_from n (suc i) (t ++ (literal_of u ∷ [])) us)

-- S17.1: the whole list, from its front
unfoldable pub assumed : ℕ → List Assumption → Assumed
assumed n us = assumed_from n 0 [] us
