-- `matched::tell` meets its contract: a noted variable fits a mask.
use native.Mathlib.Omega.{arith}
use Rattle.matched.proofs.TellLaws.{first_noted_small}
use Rattle.matched.proofs.tell.Goals as goal

pub overflow_add-result : goal.overflow_add-result
overflow_add-result c = let h = first_noted_small c.args.s.now c.args.c c.requires in omega (arith, c.first_noted.ensures, h)
