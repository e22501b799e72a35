-- `weigh_vector`: the comparison is that of `weigh_agrees`, since each side is what its function ensures.
use Rattle.vectors.specs.Corpus.{parts_of}
use Rattle.cases.proofs.WeighingLaws.{lent, compared}
use Rattle.cases.proofs.weighing.weigh_vector.Goals as goal

pub returns : goal.returns
returns g c =
    rw (← compared (parts_of c.args.v.now) _ _ _ _ c.answer_of.ensures c.weigh.ensures c.from-size.ensures (lent _ _ c.requires c.copy_from_slice.ensures.after))
    c.compare_answer.ensures
