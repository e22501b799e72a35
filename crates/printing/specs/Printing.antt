-- S12: the act print: its answer, and the lent buffer as it is left.
use Rattle.std.specs.Prelude.{ℕ, ◌+◌, ◌*◌, cond, List, ltb, length}
use Rattle.lists.specs.Over.{over}
use Rattle.limits.specs.Limits.{max_variables}
use Rattle.printing.specs.Printed.{more_line, max_models, printed}

-- S12.2: the most bytes of an input that is printed
abbrev pub max_input : ℕ
max_input = 16384

-- the longest first line, `switches 48 rules 96`: two digits each
abbrev pub max_header : ℕ
max_header = 21

-- the longest line of a model: the columns of all variables, two digits of steps, seven of expansions, two blanks and the line feed
abbrev pub max_model_line : ℕ
max_model_line = max_variables + 12

-- the most bytes of a print, 60,026: the first line, as many models as are printed, and `more`
abbrev pub max_print : ℕ
max_print = max_header + max_models * max_model_line + length more_line

pub record Printing : Type 0 where
  pub count : ℕ
  pub buffer : List ℕ

-- nothing is written
abbrev pub unwritten : List ℕ → Printing
unwritten b = record { count = 0; buffer = b }

-- The whole print over the first bytes of the buffer, and how many these are. A longer input than the program reads is not read, and
-- a buffer that is too short for some print is not written.
unfoldable pub printing : List ℕ → List ℕ → Printing
printing s b =
    cond (ltb (length b) max_print) (unwritten b)
    (cond (ltb max_input (length s)) (unwritten b) (record { count = length (printed s); buffer = over (printed s) b }))
