-- `Writer::put_blanks` meets its contract.
use Prim.Native.Nat.{ℕ, ◌-◌, ◌+◌}
use native.Mathlib.Omega.{arith}
use mathlib.Core.List.{List}
use mathlib.Core.Path.{◌≡◌, refl, sym, ap, ◌∙◌}
use lib.ListN.{length, replicate}
use Rattle.writing.specs.Text.{blank, blanks}
use Rattle.writing.specs.Placed.{placed}
use Rattle.writing.proofs.BlankLaws.{blanks-length}
use Rattle.writing.proofs.PlacedLaws.{placed_part, placed_length}
use Rattle.writing.proofs.Writer.put_blanks.Goals as goal

pub returns : goal.returns
unfolding blanks
returns c =
    let w = c.args.self.now in
    let k : length c.fill.new.self ≡ c.args.count = omega arith in
    let e : c.fill.new.self ≡ blanks c.args.count = c.fill.ensures.after (λ y h. h) ∙ ap (λ (n : ℕ). replicate n blank) (sym c.fill.ensures.len ∙ k) in
    let p = placed_part w.at (w.at + c.args.count - w.at) c.fill.new.self w.buffer.now (omega arith) ∙ ap (λ (l : List ℕ). placed w.at l w.buffer.now) e in
    let l = blanks-length c.args.count in
    record {
      same = refl;
      wrote = record { buffer = p; next = omega arith };
      shape = ap length p ∙ placed_length w.at (blanks c.args.count) w.buffer.now (omega arith);
      room = omega arith;
    }
