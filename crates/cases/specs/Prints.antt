-- The vectors of the printed walk: the text of its definition (S12), compared with the one that the corpus has.
use Rattle.std.specs.Prelude.{ℕ, Bool, cond, List, [], ltb, length}
use Rattle.std.specs.Str.{bytes_eq}
use Rattle.printing.specs.Printed.{printed}
use Rattle.printing.specs.Printing.{max_input}
use Rattle.vectors.specs.Corpus.{Parts}

-- what print writes: nothing for an input that it does not read
abbrev pub print_of : List ℕ → List ℕ
print_of s = cond (ltb max_input (length s)) [] (printed s)

-- the text of the vector's input is the expected one
unfoldable pub print_agrees : Parts → Bool
print_agrees v = bytes_eq (print_of v.input) v.expected
