-- S17.6: what is printed, told without assumptions: `printed_unassumed` in proofs/Demands.antt.
use Rattle.std.specs.Prelude.{ℕ, List, ◌++◌, length}
use Rattle.matched.specs.Acceptance.{Acceptance, accepted, declined}
use Rattle.walk.specs.Task.{whole}
use Rattle.printing.specs.Printed.{header, refusal_line, max_models, walk_lines}

-- the first line and the walk of an accepted formula's own task, or the refusal
abbrev pub plain_lines : Acceptance → List ℕ
plain_lines (accepted n t cs row) = header n (length cs) ++ walk_lines (whole n cs) max_models 0
plain_lines (declined r row) = refusal_line r
