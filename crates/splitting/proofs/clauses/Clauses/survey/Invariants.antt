-- `survey` is the survey of the clauses. The invariant: so far that of the first i.
use mathlib.Core.Path.{◌≡◌}
use Rattle.splitting.specs.InnerChoose.{clauses_in, survey_of}
use Rattle.splitting.proofs.clauses.Clauses.survey.Given as goal

abbrev pub invariant-loop-i : goal.invariant-loop-i
invariant-loop-i l = l.s ≡ survey_of (clauses_in l.self.positives l.self.negatives l.i)
