-- `none` is the survey of no clauses.
use mathlib.Core.Path.{refl}
use Rattle.splitting.specs.InnerChoose.{survey_from}
use Rattle.splitting.proofs.clauses.Survey.none.Goals as goal

pub returns : goal.returns
unfolding survey_from
returns c = refl
