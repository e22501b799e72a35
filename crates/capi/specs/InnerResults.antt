-- The results as the code makes them: those of a refusal, and those of an answer or of its refusal.
use Rattle.std.specs.Prelude.{ℕ, List, [], ◌∷◌, Result, Ok, Err}
use Rattle.formula.specs.declared.Refusal.{Refusal}
use Rattle.formula.specs.Refusals.{table_row}

abbrev pub refusal_results : Refusal → List ℕ
refusal_results r = 3 ∷ 0 ∷ (table_row r).number ∷ (table_row r).place ∷ 0 ∷ 0 ∷ []

abbrev pub told_results : Result (List ℕ) Refusal → List ℕ
told_results (Ok results) = results
told_results (Err r) = refusal_results r
