-- The cases of the table specs/TextCases.antt, computed from the definitions.
use mathlib.Core.Path.{refl}
use Rattle.writing.specs.Text.{decimal_within, decimal}
use Rattle.formula.specs.Format.{names, names_as, add}
use Rattle.dimacs.specs.Text.{pieces, non_empty, others, all_words, all_digits, value_from, take_words, same, opening, read_text}
use Rattle.dimacs.specs.Written.{clause_lines, text_of}
use Rattle.edge_cases.specs.TextCases.{TextCases}

pub text_cases : TextCases
unfolding read_text opening same take_words value_from all_digits all_words others non_empty pieces add names_as names text_of clause_lines decimal decimal_within
text_cases = record {
  one_clause = refl;
  one_clause_written = refl;
  no_text = refl;
  comment_alone = refl;
  empty_line_first = refl;
  opening_before_count = refl;
  many_variables = refl;
  comment_inside = refl;
  clause_not_ended = refl;
  clause_missing = refl;
  minus_zero = refl;
  both_ways = refl;
  repeated = refl;
  two_zeros = refl;
}
