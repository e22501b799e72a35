-- Laws of the results: what they are for each case of an answer.
use Prim.Native.Nat.{ℕ}
use mathlib.Core.Bool.{cond}
use mathlib.Core.List.{List}
use mathlib.Core.Path.{◌≡◌, refl}
use lib.Dec.{eqb}
use Rattle.std.specs.Prelude.{Result, Ok, Err}
use Rattle.std.specs.Result.{IsOkAnd, MatchResult}
use Rattle.formula.specs.declared.Refusal.{Refusal}
use Rattle.formula.specs.Refusals.{table_row}
use Rattle.formula.proofs.NumberLaws.{refusal_numbered}
use Rattle.walk.specs.Checkpoints.{Checkpoint}
use Rattle.enumeration.specs.declared.steps.Answer.{Answer}
use Rattle.enumeration.specs.declared.steps.Answer.TheVariants.{Model, Spent, Ended}
use Rattle.enumeration.specs.Values.{answer_values}
use Rattle.capi.specs.InnerResults.{refusal_results, told_results}

-- a refusal's number is never 0
pub refused_code : (r : Refusal) (n : ℕ) → cond (eqb (table_row r).number 0) n 3 ≡ 3
refused_code r n = rw (refusal_numbered r)

-- an answer of which the results F are told, where a refusal has those of a refusal
pub told : {T : Type 0} (F : Result T Refusal → List ℕ) → ((e : Refusal) → F (Err e) ≡ refusal_results e) → (r : Result T Refusal) (m : Result (List ℕ) Refusal)
    → MatchResult r (λ x. IsOkAnd m (λ y. y ≡ F (Ok x))) (λ e. m ≡ Err e) → told_results m ≡ F r
told F refused (Ok x) (Ok y) h = h
told F refused (Ok x) (Err e) h = absurd h
told F refused (Err e) m h = rw (h, refused e)

-- the values of an answer have the checkpoint beside it
pub beside : (a : Answer) (s e : ℕ) (c : Checkpoint) → (answer_values a s e c).checkpoint ≡ c
beside (Model m) s e c = refl
beside Spent s e c = refl
beside Ended s e c = refl
