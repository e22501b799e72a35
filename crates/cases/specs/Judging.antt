-- The vectors of judge: the answer and the buffer of its definition (S5.7, S17.2), compared with those that the corpus has.
use Rattle.std.specs.Prelude.{ℕ, zero, suc, Bool, ◌++◌, get_or, take, drop, replicate}
use Rattle.limits.specs.Limits.{max_clauses}
use Rattle.matched.specs.Judge.{JudgementValues, judge}
use Rattle.vectors.specs.declared.answers.Says.{Says}
use Rattle.vectors.specs.declared.answers.Says.TheVariants.{Refused, Accepted}
use Rattle.vectors.specs.declared.answers.Answer.{Answer}
use Rattle.vectors.specs.Answers.{expected}
use Rattle.vectors.specs.Comparing.{alike}
use Rattle.vectors.specs.Corpus.{Parts}
use Rattle.cases.specs.Assuming.{assumptions_of}

-- what an answer says that is a refusal or not, by the refusal's number: as given if there is none
abbrev pub unless_refused : Says → ℕ → Says
unless_refused says zero = says
unless_refused says (suc n) = Refused

-- and an answer that has the numbers of variables and of clauses if it is no refusal
abbrev pub counts_written : Says → ℕ → ℕ → ℕ → ℕ → Answer
counts_written says number place variables clauses = record {
  says = unless_refused says number;
  number = number;
  place = place;
  variables = variables;
  clauses = clauses;
}

abbrev pub judge_written : JudgementValues → Answer
judge_written a = counts_written Accepted a.number a.place a.variables a.clauses

-- judge of the vector's input has the expected answer, and leaves the expected array. The fields behind the answer: the length of the
-- buffer, which is the beginning of an array that has the fill everywhere before the call; the fill; and the first bytes after the call, with
-- the fill behind them
unfoldable pub judge_agrees : Parts → Bool
judge_agrees v =
    let size = get_or v.fields 6 0 in
    let fill = get_or v.fields 7 0 in
    let j = judge v.input (assumptions_of v) (take size (replicate 256 fill)) in
    alike (expected v.fields) (judge_written j.answer)
    (λ i. get_or (take max_clauses (drop 8 v.fields)) i fill)
    (j.buffer ++ drop size (replicate 256 fill))
