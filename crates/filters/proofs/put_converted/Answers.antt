-- `put_converted`: the longest line fits its array.
use native.Mathlib.Omega.{arith}
use Rattle.writing.proofs.LineLaws.{numbers-length}
use Rattle.filters.proofs.put_converted.Goals as goal

-- the line has room, since each number is below 2 ^ 64
pub put_refused_line-requires : goal.put_refused_line-requires
put_refused_line-requires g c =
    omega (arith, numbers-length 19 19 c.number.result c.place.result (omega arith) (omega arith))
