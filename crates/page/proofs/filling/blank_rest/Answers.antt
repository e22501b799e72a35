-- `blank_rest` meets its contract. The loop's invariant: lines i to j - 1 are blank.
use native.Mathlib.Omega.{arith}
use mathlib.Core.Path.{◌≡◌, ◌∙◌}
use Rattle.page.specs.PageLines.{page_lines}
use Rattle.page.proofs.JoinedLaws.{blanked-none, blanked_next}
use Rattle.page.proofs.filling.blank_rest.Goals as goal

pub loop-j-init : goal.loop-j-init
loop-j-init c = blanked-none c.args.i c.args.page.now

pub put_blank-requires : goal.put_blank-requires
put_blank-requires c = (omega arith, omega (arith, c.requires.1))

pub loop-j-preserved : goal.loop-j-preserved
loop-j-preserved c = c.put_blank.ensures ∙ blanked_next c.args.i c.loop-j.j c.args.page.now c.loop-j.page (omega arith) (omega arith) c.requires.1 c.loop-j.invariant

pub returns : goal.returns
returns c =
    let e : c.loop-j.j ≡ page_lines = omega arith in
    rw e at c.loop-j.invariant
