-- `fill_page` writes the whole page: the lines of models, then the blank ones.
use mathlib.Core.Path.{ap, ◌∙◌}
use native.Mathlib.Omega.{arith}
use Rattle.walk.specs.InnerTest.{shown}
use Rattle.page.proofs.GoingLaws.{filled_most, filled_blanked}
use Rattle.page.proofs.filling.fill_page.Goals as goal

pub blank_rest-requires : goal.blank_rest-requires
blank_rest-requires c =
    let v = c.requires.valid in
    (filled_most _ _ _ _ _ _ _ _ (c.fill_lines-lines.ensures v.tree v.follows v.holds), omega (arith, c.requires.room, c.fill_lines-lines.auto.page))

pub checkpoint-requires : goal.checkpoint-requires
checkpoint-requires c =
    let v = c.requires.valid in
    let h = (c.fill_lines-lines.ensures v.tree v.follows v.holds).holds in
    omega (arith, h.short, h.room)

pub returns : goal.returns
returns c =
    λ K F h.
    let x = c.fill_lines-lines.ensures K F h in
    record {
      lines = x.count;
      checkpoint = c.checkpoint.ensures K x.holds ∙ ap shown x.position;
      written = filled_blanked _ _ _ _ _ _ _ _ x _ c.requires.fits.most c.requires.serials c.blank_rest.ensures;
    }
