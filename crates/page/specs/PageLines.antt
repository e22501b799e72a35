-- S19.1: the lines of a page (request: notice-board page), byte for byte.
use Rattle.std.specs.Prelude.{ℕ, ◌*◌, ◌-◌, List, [], ◌∷◌, ◌++◌}
use Rattle.limits.specs.Limits.{max_variables}
use Rattle.writing.specs.Text.{decimal, columns, line_of, blanks, right}

-- how many lines a page has, how many bytes a line, and so the page: 3,000
abbrev pub page_lines : ℕ
page_lines = 50

abbrev pub line_size : ℕ
line_size = 60

abbrev pub page_size : ℕ
page_size = page_lines * line_size

-- a serial and the steps (request: moves) are so wide, right-aligned
abbrev pub serial_width : ℕ
serial_width = 6

abbrev pub steps_width : ℕ
steps_width = 3

-- 48 columns: those of the n variables, of which the mask has the ones whose values are shown (S23.3), and blanks past n
abbrev pub page_columns : ℕ → ℕ → ℕ → List ℕ
page_columns n mask a = columns n mask a ++ blanks (max_variables - n)

-- the line of a model of n variables: its serial, its columns, and the steps that led to it; a blank between two, and a line feed
unfoldable pub page_line : ℕ → ℕ → ℕ → ℕ → ℕ → List ℕ
page_line serial n mask a steps = line_of (right serial_width (decimal serial) ∷ page_columns n mask a ∷ right steps_width (decimal steps) ∷ [])

-- a line without a model: 59 blanks and a line feed
unfoldable pub blank_line : List ℕ
blank_line = line_of (blanks (line_size - 1) ∷ [])
