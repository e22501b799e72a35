-- What the code asks of a clause and of a formula in masks. `formula_fits` in proofs/MaskedLaws.antt: the formula of every readable input
-- is so.
use Rattle.std.specs.Prelude.{ℕ, ◌^◌, ◌<◌, ◌≤◌, Bool, true, false, ◌≡◌, get_or, length}
use Rattle.std.specs.Int.Bits.{bit_or}
use Rattle.limits.specs.Limits.{max_variables, max_clauses}
use Rattle.masks.specs.InnerMask.{meets}
use Rattle.formula.specs.declared.Clause.{Clause}
use Rattle.formula.specs.declared.Formula.{Formula}
use Rattle.formula.specs.InnerMasked.{no_clause}

-- the variables that the clause names
abbrev pub clause_variables : Clause → ℕ
clause_variables c = bit_or c.positive c.negative

-- the variables that the clause names as true, or as false
abbrev pub side : Clause → Bool → ℕ
side c true = c.positive
side c false = c.negative

-- a clause over the variables below n, none of them named both ways
pub record ClauseFits (n : ℕ) (c : Clause) : Type 0 where
  pub below : (sign : Bool) → side c sign < 2 ^ n
  pub apart : meets c.positive c.negative ≡ false

-- a formula of 1 to 48 variables and at most 96 clauses over them
pub record FormulaFits (f : Formula) : Type 0 where
  pub some : 1 ≤ f.variables
  pub most : f.variables ≤ max_variables
  pub few : length f.clauses.items ≤ max_clauses
  pub clauses : (i : ℕ) → i < length f.clauses.items → ClauseFits f.variables (get_or f.clauses.items i no_clause)
