-- The vectors of weigh: the answer of its definition (S20.2), compared with the one that the corpus has.
use Rattle.std.specs.Prelude.{ℕ, Bool, List, get_or, take, drop, replicate}
use Rattle.limits.specs.Limits.{max_clauses}
use Rattle.lists.specs.Over.{over}
use Rattle.matched.specs.Weigh.{WeighedValues, weighed}
use Rattle.vectors.specs.declared.answers.Says.TheVariants.{Counted}
use Rattle.vectors.specs.declared.answers.Answer.{Answer}
use Rattle.vectors.specs.Answers.{expected, same_answer}
use Rattle.vectors.specs.Corpus.{Parts}
use Rattle.cases.specs.Assuming.{assumptions_of}
use Rattle.cases.specs.Judging.{counts_written}

abbrev pub weigh_written : WeighedValues → Answer
weigh_written a = counts_written Counted a.number a.place a.variables a.clauses

-- the array before the call, from the fields: the marks, and the fill behind them; a buffer of some size is its beginning
abbrev pub lent_array : List ℕ → List ℕ
lent_array fields = over (take max_clauses (drop 8 fields)) (replicate 256 (get_or fields 7 0))

-- weigh of the vector's input has the expected answer, for a buffer of the vector's size
unfoldable pub weigh_agrees : Parts → Bool
weigh_agrees v =
    same_answer (expected v.fields) (weigh_written (weighed v.input (assumptions_of v) (take (get_or v.fields 6 0) (lent_array v.fields))))
