-- S22: how far the formula of an input is from being matched, `deficiency` in the code: on the clauses as they are read, with no assumption
-- and before stripping.
use Rattle.std.specs.Prelude.{ℕ, List, map, Result, Ok, Err}
use Rattle.formula.specs.declared.Refusal.{Refusal}
use Rattle.formula.specs.InnerDecode.{decode}
use Rattle.formula.specs.Decoding.{Decoding, readable, refused}
use Rattle.formula.specs.Masked.{variables}
use Rattle.formula.specs.Refusals.{table_row}
use Rattle.matching.specs.Deficiency.{deficiency}

-- the values of an answer: the refusal's number and place, and the deficiency (request: shortfall); zeros where it has none
pub record MeasuredValues : Type 0 where
  pub number : ℕ
  pub place : ℕ
  pub deficiency : ℕ

abbrev pub measured : ℕ → MeasuredValues
measured d = record { number = 0; place = 0; deficiency = d }

abbrev pub unmeasured : Refusal → MeasuredValues
unmeasured r = record { number = (table_row r).number; place = (table_row r).place; deficiency = 0 }

-- the values of each case
abbrev pub measured_values : Result ℕ Refusal → MeasuredValues
measured_values (Ok d) = measured d
measured_values (Err r) = unmeasured r

-- of what the reader gives
abbrev pub deficiency_read : Decoding → MeasuredValues
deficiency_read (readable n cs) = measured (deficiency (map variables cs))
deficiency_read (refused r) = unmeasured r

-- S22.4: the deficiency (request: shortfall) of an input; it is refused by 2 to 9 as the reader does, and by nothing else
unfoldable pub deficiency_of : List ℕ → MeasuredValues
deficiency_of s = deficiency_read (decode s)
