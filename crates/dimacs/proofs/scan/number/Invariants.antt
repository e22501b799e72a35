-- `number`: the bytes before the index are digits, so those from there on decide, and they write the number behind `a`.
use Rattle.std.proofs.Common.{◌≡◌, ◌≤◌, drop}
use Rattle.dimacs.specs.Text.{all_digits, value, value_from}
use Rattle.dimacs.specs.InnerScan.{cap, capped}
use Rattle.dimacs.proofs.scan.number.Given as goal

abbrev pub invariant-loop-x : goal.invariant-loop-x
invariant-loop-x l = (l.a ≤ cap) × (all_digits (drop l.x-index l.word) ≡ all_digits l.word) × (capped (value_from l.a (drop l.x-index l.word)) ≡ capped (value l.word))
