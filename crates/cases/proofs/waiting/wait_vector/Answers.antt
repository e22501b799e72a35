-- `wait_vector`: the comparison is that of `waits_agree`, since each side is what its function ensures.
use Rattle.std.proofs.Common.{◌≡◌, sym, ◌∙◌}
use Rattle.vectors.specs.Corpus.{parts_of}
use Rattle.cases.specs.Waiting.{waits_agree}
use Rattle.cases.proofs.WaitingLaws.{compared}
use Rattle.cases.proofs.waiting.wait_vector.Given.{Over}
use Rattle.cases.proofs.waiting.wait_vector.Goals.{After-agree}
use Rattle.cases.proofs.waiting.wait_vector.Goals as goal

-- what the comparison gives
told : (g : Over) (c : After-agree g) → c.agree.result ≡ waits_agree (parts_of c.args.v.now)
told g c = c.agree.ensures ∙ compared (parts_of c.args.v.now) c.waits_of-w.result _ c.waits_of-w.ensures (c.from-wanted.ensures ∙ c.four_bytes.ensures)

pub returns-then-agree : goal.returns-then-agree
returns-then-agree g c = sym c.if-agree.true ∙ told g (goal.at.returns-then-agree g c).After-agree

pub returns : goal.returns
returns g c = sym c.if-agree.false ∙ told g (goal.at.returns g c).After-agree
