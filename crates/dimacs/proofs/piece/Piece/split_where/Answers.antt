-- `split_where`: up to where the byte is found.
use Rattle.std.proofs.Common.{◌≡◌, length, drop, refl, arith, ◌∙◌, ◌-◌, length-drop}
use Rattle.std.proofs.Math.Seq.{take_all}
use Rattle.std.specs.List.{position_or_len}
use Rattle.std.proofs.lemmas.Fn.{called_at}
use Rattle.std.proofs.lemmas.Iterator.{YieldsList-from_slice}
use Rattle.std.proofs.lemmas.Iterator.Search.{position_from_yields_List}
use Rattle.dimacs.proofs.PieceLaws.{position_whole}
use Rattle.dimacs.proofs.piece.Piece.split_where.Goals as goal

pub returns : goal.returns
returns g c = λ t h.
    let s = c.args.self.bytes.now in
    let p = position_from_yields_List t _ _ _ c.position.ensures.ran (YieldsList-from_slice s c.iter.ensures.rest) (λ x b q k. h x.now b q (called_at _ k refl)) in
    let e : c.unwrap_or-end.result ≡ position_or_len t s = (rw p at c.unwrap_or-end.ensures) ∙ position_whole t s in
    (rw e refl, rw (e, take_all (length s - position_or_len t s) (drop (position_or_len t s) s) (omega (arith, length-drop (position_or_len t s) s))) refl)
