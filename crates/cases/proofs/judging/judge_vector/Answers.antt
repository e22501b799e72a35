-- `judge_vector`: the comparison is that of `judge_agrees`, since each side is what its function ensures.
use Rattle.std.proofs.Common.{rules, take, drop, get_or}
use Rattle.limits.specs.Limits.{max_clauses}
use Rattle.vectors.specs.Corpus.{parts_of}
use Rattle.cases.proofs.JudgingLaws.{compared}
use Rattle.cases.proofs.judging.judge_vector.Goals as goal

pub returns : goal.returns
returns g c =
    let fields = c.args.v.now.fields.now in
    rw (← compared (parts_of c.args.v.now) _ _ _ _ c.from-size.ensures c.answer_of-got.ensures c.judge.ensures.0 c.judge.ensures.1)
    (c.compare_bytes.ensures (λ i. get_or (take max_clauses (drop 8 fields)) i (get_or fields 7 0)) (λ i r lt p. search rules))
