-- `matched::strip_row` meets its contract: by whether what is left is matched.
use Rattle.matched.proofs.SpreadLaws.{bytes_length}
use Rattle.matched.proofs.AcceptLaws.{variables_fit, notes_fit, left_held, unmatched_held}
use mathlib.Core.Path.{ap, ◌∙◌}
use native.Mathlib.Omega.{arith}
use lib.ListN.{length}
use Rattle.matched.proofs.strip_row.Goals as goal

pub spread-row-requires : goal.spread-row-requires
spread-row-requires c = variables_fit _ c.requires _ _ c.match_open.ensures _ c.in-Ok.is

pub tell_dropped-requires : goal.tell_dropped-requires
tell_dropped-requires c =
    let f = c.args.f.now in
    let n = ap length (c.as_slice.ensures.value ∙ c.spread-row.ensures) ∙ bytes_length f.clauses.items c.strip-s.result.assignment c.in-Ok.answers 1 (length f.clauses.items) in
    (omega (arith, n), notes_fit _ c.requires _ _ c.strip-s.ensures)

pub returns-in-Ok : goal.returns-in-Ok
returns-in-Ok c n t cs z o q d =
    left_held z o q d c.strip-s.ensures c.match_open.ensures _ c.in-Ok.is c.as_slice.result.now c.tell_dropped.result (c.as_slice.ensures.value ∙ c.spread-row.ensures)
    c.tell_dropped.ensures

pub returns-in-Err : goal.returns-in-Err
returns-in-Err c n t cs z o q d =
    unmatched_held z o q d c.strip-s.ensures c.match_open.ensures _ c.in-Err.is c.spread.result c.spread.ensures
