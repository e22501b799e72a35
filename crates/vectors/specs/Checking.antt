-- The vectors of check: the answer of its definition (S4.3), compared with the one that the corpus has.
use Rattle.std.specs.Prelude.{Bool}
use Rattle.formula.specs.Check.{VerdictValues, Said, said_yes, said_no, said_neither, checked}
use Rattle.vectors.specs.declared.answers.Says.{Says}
use Rattle.vectors.specs.declared.answers.Says.TheVariants.{No, Yes, Refused}
use Rattle.vectors.specs.declared.answers.Answer.{Answer}
use Rattle.vectors.specs.Answers.{plain, expected, same_answer}
use Rattle.vectors.specs.Corpus.{Parts, eight_bytes}

-- how the corpus writes what an answer says
abbrev pub said_written : Said → Says
said_written said_no = No
said_written said_yes = Yes
said_written said_neither = Refused

abbrev pub check_written : VerdictValues → Answer
check_written a = plain (said_written a.said) a.number a.place

-- check of the vector's input and assignment has the expected answer
unfoldable pub check_agrees : Parts → Bool
check_agrees v = same_answer (expected v.fields) (check_written (checked v.input (eight_bytes v.fields 6)))
