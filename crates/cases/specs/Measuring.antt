-- The vectors of deficiency: the answer of its definition (S22), compared with the one that the corpus has.
use Rattle.std.specs.Prelude.{Bool}
use Rattle.matched.specs.Deficiency.{MeasuredValues, deficiency_of}
use Rattle.vectors.specs.declared.answers.Says.TheVariants.{Counted}
use Rattle.vectors.specs.declared.answers.Answer.{Answer}
use Rattle.vectors.specs.Answers.{expected, same_answer}
use Rattle.vectors.specs.Corpus.{Parts}
use Rattle.cases.specs.Judging.{counts_written}

-- how the corpus writes a deficiency: as a number of clauses
abbrev pub deficiency_written : MeasuredValues → Answer
deficiency_written a = counts_written Counted a.number a.place 0 a.deficiency

-- deficiency of the vector's input has the expected answer
unfoldable pub deficiency_agrees : Parts → Bool
deficiency_agrees v = same_answer (expected v.fields) (deficiency_written (deficiency_of v.input))
