-- `matched::accept` meets its contract: by the reader's answer, by the assumptions, and by what comes of the formula.
use mathlib.Core.List.{List}
use mathlib.Core.Path.{◌≡◌, sym, ◌∙◌}
use Rattle.std.proofs.lemmas.Result.{err_from_is_err_and}
use Rattle.formula.specs.Format.{Literal}
use Rattle.formula.proofs.MaskedLaws.{Accepts, decoded_accepted, decoded_refused}
use Rattle.assumptions.specs.declared.Assumption.{Assumption}
use Rattle.assumptions.specs.Assumed.{literals, assumed}
use Rattle.assumptions.specs.InnerAssumed.{MasksOf}
use Rattle.assumptions.proofs.Demands.{literals_over}
use Rattle.splitting.specs.InnerChoose.{assignment_of}
use Rattle.matched.specs.Acceptance.{formula_acceptance}
use Rattle.matched.specs.InnerAccept.{held_row}
use Rattle.matched.proofs.AcceptLaws.{given_literals, given_bad, accepted_held, declined_held, bad_held, refused_held}
use Rattle.matched.proofs.accept.Goals.{In_ok-formula, After-branch-row}
use Rattle.matched.proofs.accept.Goals as goal

-- the formula that was read
read : (c : In_ok-formula) → Accepts c.args.input.now c.in_ok-formula.formula
read c = decoded_accepted _ _ (sym c.decode.ensures ∙ c.in_ok-formula.was)

-- the literals that are assumed
assumes : (c : After-branch-row) (w : Accepts c.args.input.now c.in_ok-formula.formula) (us : List Assumption) → MasksOf c.args.input.now us c.args.u
    → (t : List Literal) × (assumed w.variables us ≡ literals t) × (c.in_ok-assignment.assignment ≡ assignment_of t)
assumes c w us g = given_literals _ us _ g w.variables w.clauses w.reads _ c.in_ok-assignment.was

-- what comes of the formula
comes : (c : After-branch-row) (w : Accepts c.args.input.now c.in_ok-formula.formula) (us : List Assumption) (g : MasksOf c.args.input.now us c.args.u)
    → c.match_row.result ≡ held_row (formula_acceptance w.variables (assumes c w us g).0 w.clauses)
comes c w us g =
    let l = assumes c w us g in
    c.match_row.ensures w.variables l.0 w.clauses w.sized (literals_over _ us l.0 l.1) w.formula l.2

pub returns-in_err-formula : goal.returns-in_err-formula
returns-in_err-formula c us g =
    let p = err_from_is_err_and c.from_residual.result c.from_residual.ensures.1 in
    rw (p.1, p.2) (refused_held _ us _ (decoded_refused _ _ (sym c.decode.ensures ∙ c.in_err-formula.was)))

pub returns-in_err-assignment : goal.returns-in_err-assignment
returns-in_err-assignment c us g =
    let p = err_from_is_err_and c.from_residual-in_err-assignment.result c.from_residual-in_err-assignment.ensures.1 in
    let w = read (goal.at.returns-in_err-assignment c).In_ok-formula in
    let b = given_bad _ us _ g w.variables w.clauses w.reads _ c.in_err-assignment.was in
    rw (p.1, p.2, b.2) (bad_held _ us w.variables w.clauses b.0 w.reads b.1)

pub match_row-requires : goal.match_row-requires
match_row-requires c = (read (goal.at.match_row-requires c).In_ok-formula).fits

pub returns-in_err-row : goal.returns-in_err-row
returns-in_err-row c us g =
    let p = err_from_is_err_and c.from_residual-in_err-row.result c.from_residual-in_err-row.ensures.1 in
    let e = (goal.at.returns-in_err-row c).After-branch-row in
    let w = read (goal.at.returns-in_err-row c).In_ok-formula in
    let l = assumes e w us g in
    rw (p.1, p.2) (declined_held _ us w.variables l.0 w.clauses w.reads l.1 _ (sym c.in_err-row.was ∙ comes e w us g))

pub returns : goal.returns
returns c us g =
    let e = (goal.at.returns c).After-branch-row in
    let w = read (goal.at.returns c).In_ok-formula in
    let l = assumes e w us g in
    rw (w.formula, l.2) (accepted_held _ us w.variables l.0 w.clauses w.reads l.1 _ (sym c.in_ok-row.was ∙ comes e w us g))
