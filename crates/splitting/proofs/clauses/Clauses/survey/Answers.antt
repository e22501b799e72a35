-- `survey` is the survey of the clauses.
use mathlib.Core.Path.{sym}
use Rattle.lists.specs.Tabulated.{tabulated}
use Rattle.splitting.proofs.OpenClauseLaws.{survey_more}
use Rattle.splitting.proofs.clauses.Clauses.survey.Goals as goal

pub loop-i-init : goal.loop-i-init
unfolding tabulated
loop-i-init c = c.none-s.ensures

pub loop-i-preserved : goal.loop-i-preserved
loop-i-preserved c =
    let s = c.args.self.now in
    rw (c.with-s.ensures, c.clause.ensures, c.loop-i.invariant) (sym (survey_more s.positives s.negatives c.loop-i.i))
