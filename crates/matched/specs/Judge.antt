-- S5.7, S17.2: the act judge, `find_matching` in the code. Refusal 1 first, then what comes of the input under the assumptions.
use Rattle.std.specs.Prelude.{ℕ, cond, List, ltb, length, Result, Ok, Err}
use Rattle.limits.specs.Limits.{max_clauses}
use Rattle.lists.specs.Over.{over}
use Rattle.formula.specs.declared.Refusal.{Refusal}
use Rattle.formula.specs.declared.Refusal.TheVariants.{ShortBuffer}
use Rattle.formula.specs.Refusals.{table_row}
use Rattle.assumptions.specs.declared.Assumption.{Assumption}
use Rattle.matched.specs.declared.Sizes.{Sizes}
use Rattle.matched.specs.Acceptance.{Acceptance, accepted, declined, acceptance}

-- the values of an answer: the refusal's number and place, the numbers of variables and of clauses; zeros where it has none
pub record JudgementValues : Type 0 where
  pub number : ℕ
  pub place : ℕ
  pub variables : ℕ
  pub clauses : ℕ

abbrev pub accepted_values : ℕ → ℕ → JudgementValues
accepted_values n m = record { number = 0; place = 0; variables = n; clauses = m }

abbrev pub refused_values : Refusal → JudgementValues
refused_values r = record { number = (table_row r).number; place = (table_row r).place; variables = 0; clauses = 0 }

-- the values of each case
abbrev pub judgement_values : Result Sizes Refusal → JudgementValues
judgement_values (Ok z) = accepted_values z.variables z.clauses
judgement_values (Err r) = refused_values r

-- the answer, and the pairing buffer (request: slate) as it is left
pub record Judged : Type 0 where
  pub answer : JudgementValues
  pub buffer : List ℕ

-- The row is written over the first bytes of the buffer, and the bytes behind it stay as they were.
abbrev pub judgement_of : Acceptance → List ℕ → Judged
judgement_of (accepted n t cs row) buffer = record { answer = accepted_values n (length cs); buffer = over row buffer }
judgement_of (declined r row) buffer = record { answer = refused_values r; buffer = over row buffer }

-- The input, the assumptions, and the buffer as it is lent. A buffer below 96 bytes is short.
unfoldable pub judge : List ℕ → List Assumption → List ℕ → Judged
judge s us buffer =
    cond (ltb (length buffer) max_clauses) (record { answer = refused_values (ShortBuffer 0); buffer = buffer })
    (judgement_of (acceptance s us) buffer)
