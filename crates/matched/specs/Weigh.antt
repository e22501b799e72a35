-- S20.2: how much the marks of a buffer weigh, `weigh_marks` in the code: how many clauses they mark and how many variables these name.
use Rattle.std.specs.Prelude.{ℕ, cond, List, ltb, length, Result, Ok, Err}
use Rattle.limits.specs.Limits.{max_clauses}
use Rattle.masks.specs.Mask.{size}
use Rattle.formula.specs.declared.Refusal.{Refusal}
use Rattle.formula.specs.declared.Refusal.TheVariants.{ShortBuffer, BadAssumption}
use Rattle.formula.specs.InnerDecode.{decode}
use Rattle.formula.specs.Decoding.{Decoding, readable, refused}
use Rattle.formula.specs.Format.{Literal}
use Rattle.formula.specs.Refusals.{table_row}
use Rattle.assumptions.specs.declared.Assumption.{Assumption}
use Rattle.assumptions.specs.Assumed.{Assumed, literals, bad, assumed}
use Rattle.matched.specs.declared.Weight.{Weight}
use Rattle.matched.specs.Pairing.{marked, named_but}

-- the values of an answer: the refusal's number and place, the numbers of clauses and of variables; zeros where it has none
pub record WeighedValues : Type 0 where
  pub number : ℕ
  pub place : ℕ
  pub clauses : ℕ
  pub variables : ℕ

abbrev pub counted_values : ℕ → ℕ → WeighedValues
counted_values clauses variables = record { number = 0; place = 0; clauses = clauses; variables = variables }

abbrev pub unweighed_values : Refusal → WeighedValues
unweighed_values r = record { number = (table_row r).number; place = (table_row r).place; clauses = 0; variables = 0 }

-- the values of each case
abbrev pub weighed_values : Result Weight Refusal → WeighedValues
weighed_values (Ok w) = counted_values w.clauses w.variables
weighed_values (Err r) = unweighed_values r

-- the marked clauses, and the variables that they name, those that are assumed not counted
abbrev pub weighed_under : List Literal → List (List Literal) → List ℕ → WeighedValues
weighed_under t cs buffer = counted_values (length (marked buffer cs)) (size (named_but t (marked buffer cs)))

abbrev pub weighed_assumed : List (List Literal) → Assumed → List ℕ → WeighedValues
weighed_assumed cs (literals t) buffer = weighed_under t cs buffer
weighed_assumed cs (bad i) buffer = unweighed_values (BadAssumption i)

abbrev pub weighed_read : Decoding → List Assumption → List ℕ → WeighedValues
weighed_read (readable n cs) us buffer = weighed_assumed cs (assumed n us) buffer
weighed_read (refused r) us buffer = unweighed_values r

-- The input, the assumptions and the buffer, refused by 1, 2 to 9 and 16 as judge does. Whether the formula is accepted is not asked.
unfoldable pub weighed : List ℕ → List Assumption → List ℕ → WeighedValues
weighed s us buffer = cond (ltb (length buffer) max_clauses) (unweighed_values (ShortBuffer 0)) (weighed_read (decode s) us buffer)
