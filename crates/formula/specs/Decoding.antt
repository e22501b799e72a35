-- S2, S3: what the reader gives: the number of variables and the clauses of an input that it reads, or the refusal. Which inputs are
-- read, and as what, is told by Format; which are refused, and how, by Table.
use Rattle.std.specs.Prelude.{ℕ, List}
use Rattle.formula.specs.declared.Refusal.{Refusal}
use Rattle.formula.specs.Format.{Literal}

-- what reading gives: a number of variables and the clauses, in written order and without repeats, or a refusal
pub data Decoding : Type 0 where
  readable : ℕ → List (List Literal) → Decoding
  refused : Refusal → Decoding
