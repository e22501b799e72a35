-- S4.3: the act check. Its refusals are the reader's, 2 to 9, and 12.
use Rattle.std.specs.Prelude.{ℕ, Bool, true, false, cond, List, Result, Ok, Err}
use Rattle.formula.specs.declared.Refusal.{Refusal}
use Rattle.formula.specs.declared.Refusal.TheVariants.{StrayVariable}
use Rattle.formula.specs.InnerDecode.{decode}
use Rattle.formula.specs.Decoding.{Decoding, readable, refused}
use Rattle.formula.specs.InnerModels.{satisfied, stray}
use Rattle.formula.specs.Refusals.{table_row}

-- check says yes, no, or neither
pub data Said : Type 0 where
  said_yes : Said
  said_no : Said
  said_neither : Said

-- the values of a verdict: what it says, and the refusal's number and place, else zeros
pub record VerdictValues : Type 0 where
  pub said : Said
  pub number : ℕ
  pub place : ℕ

abbrev pub verdict_said : Said → VerdictValues
verdict_said s = record { said = s; number = 0; place = 0 }

abbrev pub verdict_refused : Refusal → VerdictValues
verdict_refused r = record { said = said_neither; number = (table_row r).number; place = (table_row r).place }

-- the values of each case of a verdict
abbrev pub verdict_values : Result Bool Refusal → VerdictValues
verdict_values (Ok true) = verdict_said said_yes
verdict_values (Ok false) = verdict_said said_no
verdict_values (Err r) = verdict_refused r

-- yes if the assignment is a model, no if it is not; 12 if a variable above the formula's is true
abbrev pub verdict_on : Decoding → ℕ → VerdictValues
verdict_on (readable n cs) a = cond (stray n a) (verdict_refused (StrayVariable 0)) (cond (satisfied a cs) (verdict_said said_yes) (verdict_said said_no))
verdict_on (refused r) a = verdict_refused r

unfoldable pub checked : List ℕ → ℕ → VerdictValues
checked s a = verdict_on (decode s) a
