-- S12: what the program prints for an input, byte for byte. Words are lists of ASCII bytes.
use Rattle.std.specs.Prelude.{ℕ, zero, suc, List, [], ◌∷◌, ◌++◌, length}
use Rattle.formula.specs.declared.Refusal.{Refusal}
use Rattle.formula.specs.Refusals.{table_row}
use Rattle.writing.specs.Text.{decimal, columns, line_of}
use Rattle.walk.specs.Gaps.{ample_budget}
use Rattle.matched.specs.Acceptance.{Acceptance, accepted, declined, acceptance}
use Rattle.walk.specs.Task.{Task, under, visible}
use Rattle.walk.specs.PlainMachine.{Answer, found, spent, ended, plain_call}

-- the words `switches`, `rules`, `end`, `more`, `refused`
abbrev pub switches_word : List ℕ
switches_word = 115 ∷ 119 ∷ 105 ∷ 116 ∷ 99 ∷ 104 ∷ 101 ∷ 115 ∷ []

abbrev pub rules_word : List ℕ
rules_word = 114 ∷ 117 ∷ 108 ∷ 101 ∷ 115 ∷ []

abbrev pub end_word : List ℕ
end_word = 101 ∷ 110 ∷ 100 ∷ []

abbrev pub more_word : List ℕ
more_word = 109 ∷ 111 ∷ 114 ∷ 101 ∷ []

abbrev pub refused_word : List ℕ
refused_word = 114 ∷ 101 ∷ 102 ∷ 117 ∷ 115 ∷ 101 ∷ 100 ∷ []

-- S12.1: the first line: `switches` with the number of variables, `rules` with that of clauses
abbrev pub header : ℕ → ℕ → List ℕ
header n m = line_of (switches_word ∷ decimal n ∷ rules_word ∷ decimal m ∷ [])

-- S12.1, S23.3: the line of a model: the columns of the formula's n variables in ascending order, of which the mask has those whose values
-- are shown, and the steps and expansions that led to it
abbrev pub model_line : ℕ → ℕ → ℕ → ℕ → ℕ → List ℕ
model_line n mask a steps expansions = line_of (columns n mask a ∷ decimal steps ∷ decimal expansions ∷ [])

-- S12.1: the line of the end: `end`, and the steps and expansions that led to it
abbrev pub end_line : ℕ → ℕ → List ℕ
end_line steps expansions = line_of (end_word ∷ decimal steps ∷ decimal expansions ∷ [])

-- S12.1: the line in place of what is not printed: `more`
abbrev pub more_line : List ℕ
more_line = line_of (more_word ∷ [])

-- S12.1: the only line of a refusal: `refused` with its number and place
abbrev pub refused_line : ℕ → ℕ → List ℕ
refused_line number place = line_of (refused_word ∷ decimal number ∷ decimal place ∷ [])

abbrev pub refusal_line : Refusal → List ℕ
refusal_line r = refused_line (table_row r).number (table_row r).place

-- What a call prints, and then the rest. A call that says spent would print nothing: on an ample budget none does.
abbrev pub call_lines : ℕ → ℕ → Answer → ℕ → ℕ → List ℕ → List ℕ
call_lines n mask (found a) steps expansions rest = model_line n mask a steps expansions ++ rest
call_lines n mask spent steps expansions rest = []
call_lines n mask ended steps expansions rest = end_line steps expansions

-- S12.2: the most models that are printed
abbrev pub max_models : ℕ
max_models = 1000

-- The lines with k entries of the plain walk behind and room for j models more. A call of the plain machine on an ample budget goes on
-- to the next model or to the end, so its steps and expansions are those between two lines. S12.1: without room the print closes with
-- `more`, whether or not there is another model.
unfoldable pub walk_lines : Task → ℕ → ℕ → List ℕ
walk_lines T zero k = more_line
walk_lines T (suc j) k =
    let c = plain_call T ample_budget k in
    call_lines T.variables (visible T) c.answer c.steps c.expansions (walk_lines T j c.behind)

-- the first line and the walk of an accepted input, or its refusal
abbrev pub acceptance_lines : Acceptance → List ℕ
acceptance_lines (accepted n t cs row) = header n (length cs) ++ walk_lines (under n t cs) max_models 0
acceptance_lines (declined r row) = refusal_line r

-- what is printed for the bytes of an input: nothing is assumed
unfoldable pub printed : List ℕ → List ℕ
printed s = acceptance_lines (acceptance s [])
