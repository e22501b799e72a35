-- The assumptions of a vector.
use Rattle.std.specs.Prelude.{List}
use Rattle.assumptions.specs.declared.Assumption.{Assumption}
use Rattle.assumptions.specs.Bytes.{of_bytes}
use Rattle.vectors.specs.Corpus.{Parts}

-- two bytes each
abbrev pub assumptions_of : Parts → List Assumption
assumptions_of v = of_bytes v.assumptions
