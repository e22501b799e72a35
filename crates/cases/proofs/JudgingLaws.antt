-- The law of `judge_agrees`: from what its parts give.
use Rattle.std.proofs.Common.{ℕ, ◌≡◌, ◌++◌, List, get_or, take, drop, replicate}
use Rattle.limits.specs.Limits.{max_clauses}
use Rattle.matched.specs.Judge.{JudgementValues, judge}
use Rattle.vectors.specs.declared.answers.Answer.{Answer}
use Rattle.vectors.specs.Answers.{expected}
use Rattle.vectors.specs.Comparing.{alike}
use Rattle.vectors.specs.Corpus.{Parts}
use Rattle.cases.specs.Assuming.{assumptions_of}
use Rattle.cases.specs.Judging.{judge_written, judge_agrees}

pub compared :
    (v : Parts) (size : ℕ) (got : Answer) (values : JudgementValues) (buffer : List ℕ) →
    size ≡ get_or v.fields 6 0 →
    got ≡ judge_written values →
    values ≡ (judge v.input (assumptions_of v) (take size (replicate 256 (get_or v.fields 7 0)))).answer →
    buffer ≡ (judge v.input (assumptions_of v) (take size (replicate 256 (get_or v.fields 7 0)))).buffer →
    alike (expected v.fields) got (λ i. get_or (take max_clauses (drop 8 v.fields)) i (get_or v.fields 7 0)) (buffer ++ drop size (replicate 256 (get_or v.fields 7 0)))
    ≡ judge_agrees v
unfolding judge_agrees
compared v size got values buffer z g e b = rw (g, e, b, z)
