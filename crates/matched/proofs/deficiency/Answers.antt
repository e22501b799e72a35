-- `matched::deficiency` meets its contract: by the reader's answer, and by the most clauses that can be matched.
use Prim.Native.Nat.{ℕ}
use mathlib.Core.Path.{sym, ap, ◌∙◌}
use lib.ListN.{take}
use Rattle.matching.specs.Deficiency.{most}
use Rattle.std.proofs.lemmas.Result.{err_from_is_err_and}
use Rattle.formula.proofs.MaskedLaws.{Accepts, decoded_accepted, decoded_refused}
use Rattle.matched.proofs.DeficiencyLaws.{unreadable_deficiency, masks_clauses, counted_deficiency, counted_few}
use Rattle.matched.proofs.deficiency.Goals.{In_ok-f}
use Rattle.matched.proofs.deficiency.Goals as goal

-- the formula that was read
read : (c : In_ok-f) → Accepts c.args.input.now c.in_ok-f.f
read c = decoded_accepted _ _ (sym c.decode.ensures ∙ c.in_ok-f.was)

-- ---- what is answered
pub returns-in_err-f : goal.returns-in_err-f
returns-in_err-f c =
    let p = err_from_is_err_and c.from_residual.result c.from_residual.ensures.1 in
    rw (p.1, p.2) (sym (unreadable_deficiency _ _ (decoded_refused _ _ (sym c.decode.ensures ∙ c.in_err-f.was))))

pub returns : goal.returns
returns c =
    let e = goal.at.returns c in
    rw c.len-count.ensures.value
    (sym (counted_deficiency _ _ (read e.In_ok-f) _ c.clause_masks-sets.ensures _ (c.match_most.ensures ∙ ap (λ (k : ℕ). most (take k c.clause_masks-sets.result)) c.len-count.ensures.value)))

-- ---- what is asked on the way
pub match_most-requires : goal.match_most-requires
match_most-requires c =
    let e = goal.at.match_most-requires c in
    rw c.len-count.ensures.value
    (masks_clauses _ _ (read e.In_ok-f) _ c.clause_masks-sets.ensures)

pub overflow_sub-result : goal.overflow_sub-result
overflow_sub-result c =
    let e = goal.at.overflow_sub-result c in
    rw c.len-count.ensures.value
    (counted_few _ _ (read e.In_ok-f) _ c.clause_masks-sets.ensures _ (c.match_most.ensures ∙ ap (λ (k : ℕ). most (take k c.clause_masks-sets.result)) c.len-count.ensures.value))
