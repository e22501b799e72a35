-- What the reader's functions compute over masks, record by record; proofs/ReaderLaws.antt ties it to InnerDecode.
use Rattle.std.specs.Prelude.{ℕ, ◌+◌, ◌-◌, ◌≤◌, Bool, false, not, cond, ◌&&◌, ◌||◌, List, map, ◌≡◌, eqb, ltb, length, get_or, drop, Option, Some, None, Result, Ok, Err}
use Rattle.limits.specs.Limits.{max_variables, max_clauses}
use Rattle.masks.specs.Mask.{bit}
use Rattle.formula.specs.declared.Clause.{Clause}
use Rattle.formula.specs.declared.Kind as code
use Rattle.formula.specs.declared.Kind.TheVariants as codes
use Rattle.formula.specs.declared.Reader.{Reader}
use Rattle.formula.specs.declared.Refusal.{Refusal}
use Rattle.formula.specs.declared.Refusal.TheVariants.{Truncated, UnknownKind, Misplaced, BadVariableCount, NoSuchVariable, ComplementaryLiteral, TooManyClauses, TrailingByte}
use Rattle.formula.specs.Format.{literal_kind}
use Rattle.formula.specs.InnerDecode.{Kind, variable_count, literal, clause_end, formula_end, unknown, kind_of, one_to, Reading, records, decode}
use Rattle.formula.specs.InnerMasked.{no_clause, with_literal, clause_of}
use Rattle.formula.specs.InnerFits.{clause_variables, side}

-- a kind of record as the code has it
abbrev pub kind_held : Kind → Option code.Kind
kind_held variable_count = Some codes.VariableCount
kind_held (literal sign) = Some (codes.Literal sign)
kind_held clause_end = Some codes.ClauseEnd
kind_held formula_end = Some codes.FormulaEnd
kind_held unknown = None

-- and its byte
abbrev pub kind_byte : code.Kind → ℕ
kind_byte codes.VariableCount = 1
kind_byte (codes.Literal sign) = literal_kind sign
kind_byte codes.ClauseEnd = 4
kind_byte codes.FormulaEnd = 5

-- kind 1
abbrev pub count_event : List ℕ → Reader → Result (Option Reader) Refusal
count_event s r =
    cond (eqb r.at 0)
    (cond (ltb (r.at + 1) (length s))
    (cond (one_to max_variables (get_or s (r.at + 1) 0))
    (Ok (Some (record { at = r.at + 2; variables = get_or s (r.at + 1) 0; count = r.count; current = r.current })))
    (Err (BadVariableCount r.at)))
    (Err (Truncated (length s))))
    (Err (Misplaced r.at))

-- a literal of variable v
abbrev pub variable_event : Reader → ℕ → Bool → Result (Option Reader) Refusal
variable_event r v sign =
    cond (bit (side r.current (not sign)) v)
    (Err (ComplementaryLiteral r.at))
    (Ok (Some (record { at = r.at + 2; variables = r.variables; count = r.count; current = with_literal r.current v sign })))

-- kinds 2 and 3
abbrev pub literal_event : List ℕ → Reader → Bool → Result (Option Reader) Refusal
literal_event s r sign =
    cond (eqb r.at 0)
    (Err (Misplaced r.at))
    (cond (ltb (r.at + 1) (length s))
    (cond (one_to r.variables (get_or s (r.at + 1) 0))
    (variable_event r (get_or s (r.at + 1) 0 - 1) sign)
    (Err (NoSuchVariable r.at)))
    (Err (Truncated (length s))))

-- kind 4
abbrev pub end_event : Reader → Result (Option Reader) Refusal
end_event r =
    cond (eqb r.at 0)
    (Err (Misplaced r.at))
    (cond (ltb r.count max_clauses)
    (Ok (Some (record { at = r.at + 1; variables = r.variables; count = r.count + 1; current = no_clause })))
    (Err (TooManyClauses r.at)))

-- kind 5
abbrev pub finish_event : List ℕ → Reader → Result (Option Reader) Refusal
finish_event s r =
    cond (eqb r.at 0)
    (Err (Misplaced r.at))
    (cond (eqb (clause_variables r.current) 0)
    (cond (ltb (r.at + 1) (length s)) (Err (TrailingByte (r.at + 1))) (Ok None))
    (Err (Misplaced r.at)))

abbrev pub kind_event : List ℕ → Reader → Kind → Result (Option Reader) Refusal
kind_event s r variable_count = count_event s r
kind_event s r (literal sign) = literal_event s r sign
kind_event s r clause_end = end_event r
kind_event s r formula_end = finish_event s r
kind_event s r unknown = Err (UnknownKind r.at)

-- one record
abbrev pub record_event : List ℕ → Reader → Result (Option Reader) Refusal
record_event s r =
    cond (ltb r.at (length s)) (kind_event s r (kind_of (get_or s r.at 0))) (Err (Truncated (length s)))

-- the record is a literal that can be read
abbrev pub literal_stands : List ℕ → Reader → Bool
literal_stands s r =
    ltb 0 r.at && (ltb (r.at + 1) (length s) && ((eqb (get_or s r.at 0) 2 || eqb (get_or s r.at 0) 3)
    && (one_to r.variables (get_or s (r.at + 1) 0) && not (bit (side r.current (not (eqb (get_or s r.at 0) 2))) (get_or s (r.at + 1) 0 - 1)))))

-- the reader behind that literal
abbrev pub literal_read : List ℕ → Reader → Reader
literal_read s r = record {
  at = r.at + 2;
  variables = r.variables;
  count = r.count;
  current = with_literal r.current (get_or s (r.at + 1) 0 - 1) (eqb (get_or s r.at 0) 2);
}

-- the reader behind a literal, if the record is one that can be read
abbrev pub past_literal : List ℕ → Reader → Option Reader
past_literal s r = cond (literal_stands s r) (Some (literal_read s r)) None

-- the reader at a reading
abbrev pub reader_of : Reading → Reader
reader_of g = record { at = g.at; variables = g.variables; count = length g.ended; current = clause_of g.current }

-- what the loop of the reader keeps: its reader and array stand for a reading from which the rest of the input gives what
-- the whole gives. The fuel is at least the bytes that are left.
pub record Reads (s : List ℕ) (r : Reader) (clauses : List Clause) : Type 0 where
  pub reading : Reading
  pub is : r ≡ reader_of reading
  pub kept : clauses ≡ map clause_of reading.ended
  pub inside : reading.at ≤ length s
  pub small : reading.variables ≤ max_variables
  pub few : length reading.ended ≤ max_clauses
  pub fuel : ℕ
  pub enough : length s ≤ reading.at + fuel
  pub rest : records fuel (length s) reading (drop reading.at s) ≡ decode s

-- from r to x by records after which reading goes on and no clause ends
pub record Passes (s : List ℕ) (r x : Reader) : Type 0 where
  pub reads : (clauses : List Clause) → Reads s r clauses → Reads s x clauses
  pub forward : r.at ≤ x.at
  pub inside : x.at ≤ length s
  pub small : x.variables ≤ max_variables

-- from r to x by literals, as many as can be read
pub record PassesLiterals (s : List ℕ) (r x : Reader) : Type 0 where
  pub passes : Passes s r x
  pub last : literal_stands s x ≡ false
