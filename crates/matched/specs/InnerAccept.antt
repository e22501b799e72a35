-- What comes of an input as the code holds it.
use Rattle.std.specs.Prelude.{ℕ, ◌+◌, List, [], map, ◌≡◌, Result, Ok, Err}
use Rattle.arrayvec.specs.ArrayVec.{ArrayVec as Items}
use Rattle.formula.specs.declared.Formula.{Formula}
use Rattle.formula.specs.declared.Refusal.{Refusal}
use Rattle.formula.specs.InnerDecode.{decode}
use Rattle.formula.specs.Decoding.{readable}
use Rattle.formula.specs.Format.{Literal, Sized, ClauseOver}
use Rattle.formula.specs.InnerMasked.{formula_of}
use Rattle.formula.specs.InnerFits.{FormulaFits}
use Rattle.assumptions.specs.declared.Assumption.{Assumption}
use Rattle.assumptions.specs.Assumed.{literals, assumed}
use Rattle.splitting.specs.InnerChoose.{assignment_of}
use Rattle.matched.specs.declared.Accepted.{Accepted}
use Rattle.matched.specs.declared.Declined.{Declined}
use Rattle.matched.specs.Acceptance.{Acceptance, accepted, declined, acceptance}

abbrev pub row_of : Acceptance → List ℕ
row_of (accepted n t cs row) = row
row_of (declined r row) = row

-- the numbers of a list, each plus k
abbrev pub raised : ℕ → List ℕ → List ℕ
raised k l = map (λ x. x + k) l

-- a refusal without bytes
abbrev pub refused_row : Refusal → Declined
refused_row r = record { refusal = r; row = record { items = [] } }

-- what comes of a formula: its row, or the refusal and the row beside it
abbrev pub held_row : Acceptance → Result (Items ℕ) Declined
held_row (accepted n t cs row) = Ok (record { items = row })
held_row (declined r row) = Err (record { refusal = r; row = record { items = row } })

-- what comes of an input
abbrev pub held_acceptance : Acceptance → Result Accepted Declined
held_acceptance (accepted n t cs row) = Ok (record { formula = formula_of n cs; assignment = assignment_of t; row = record { items = row } })
held_acceptance (declined r row) = Err (record { refusal = r; row = record { items = row } })

-- the input is accepted under the assumptions, whose literals are the trail, and f is its formula in masks
pub record Takes (s : List ℕ) (us : List Assumption) (f : Formula) : Type 0 where
  pub variables : ℕ
  pub trail : List Literal
  pub clauses : List (List Literal)
  pub row : List ℕ
  pub accepts : acceptance s us ≡ accepted variables trail clauses row
  pub reads : decode s ≡ readable variables clauses
  pub assumes : assumed variables us ≡ literals trail
  pub formula : f ≡ formula_of variables clauses
  pub sized : Sized variables clauses
  pub over : ClauseOver variables trail
  pub fits : FormulaFits f
