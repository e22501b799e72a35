-- `run_file`: the totals after no bytes where there is no file, else after those that were read.
use native.Mathlib.Omega.{arith}
use mathlib.Core.List.{[]}
use mathlib.Core.Path.{refl}
use Rattle.cases.specs.Runs.{run_from, run_of}
use Rattle.cases.proofs.run_file.Goals as goal

pub returns-in_default : goal.returns-in_default
unfolding run_from run_of
returns-in_default g c = record { bytes = []; totals = refl; grown = record { vectors = omega arith; differences = omega arith } }
