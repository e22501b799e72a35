-- S21.4: the lines of the printed walk by the gaps between its models.
use Rattle.std.specs.Prelude.{ℕ, List, [], ◌∷◌, ◌++◌}
use Rattle.walk.specs.Plain.{assignment}
use Rattle.walk.specs.Gaps.{Gap, to_model, to_end, so_far}
use Rattle.printing.specs.Printed.{model_line, end_line, more_line}

-- a model's line, that of its trail's assignment, with the steps and the expansions of the gap before it; `end` likewise; `more` where the
-- calls stop
unfoldable pub gap_lines : ℕ → ℕ → List Gap → List ℕ
gap_lines n mask [] = []
gap_lines n mask (to_model c e x ∷ gs) = model_line n mask (assignment x) c e ++ gap_lines n mask gs
gap_lines n mask (to_end c e ∷ gs) = end_line c e
gap_lines n mask (so_far c e ∷ gs) = more_line
