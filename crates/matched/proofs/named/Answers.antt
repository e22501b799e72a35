-- `matched::named` meets its contract: every clause is marked, so that what the marked ones name is what all do.
use native.Mathlib.Omega.{arith}
use Prim.Native.Nat.{ℕ, ◌≤◌}
use mathlib.Core.List.{List, map}
use mathlib.Core.Path.{ap, ◌∙◌}
use lib.ListN.{length, length-map}
use Rattle.std.proofs.lemmas.List.{take-replicate}
use Rattle.limits.specs.Limits.{max_clauses}
use Rattle.formula.specs.InnerFits.{clause_variables}
use Rattle.matching.specs.Sets.{union, selected}
use Rattle.matching.proofs.SelectedLaws.{selected_all}
use Rattle.matched.proofs.named.Goals as goal

pub returns : goal.returns
returns c =
    let n = c.len.result in
    let cs = c.args.f.now.clauses.items in
    let l = map clause_variables cs in
    let few : length l ≤ n = omega (arith, length-map cs clause_variables, c.len.ensures.value) in
    c.named_by.ensures ∙ ap (λ (m : List ℕ). union (selected m l)) (take-replicate n max_clauses 1 c.len.ensures.fits) ∙ ap union (selected_all n l few)
