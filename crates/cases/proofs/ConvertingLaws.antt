-- The law of `convert_agrees`: from what its parts give.
use Rattle.std.specs.Prelude as std
use Rattle.std.proofs.Common.{ℕ, ◌≡◌, List, get_or, take, replicate}
use Rattle.formula.specs.declared.Refusal.{Refusal}
use Rattle.dimacs.specs.Convert.{converted_values, Conversion}
use Rattle.vectors.specs.declared.answers.Answer.{Answer}
use Rattle.vectors.specs.Answers.{expected}
use Rattle.vectors.specs.Comparing.{alike}
use Rattle.vectors.specs.Corpus.{Parts, two_bytes}
use Rattle.cases.specs.Converting.{convert_written, convert_agrees}

pub compared :
    (conversion : List ℕ → List ℕ → Conversion) (v : Parts) (got : Answer) (size : ℕ) (r : std.Result ℕ Refusal) (buffer : List ℕ) →
    size ≡ two_bytes v.fields 6 →
    got ≡ convert_written (converted_values r) →
    conversion v.input (take size (replicate 65536 (get_or v.fields 8 0))) ≡ record { answer = converted_values r; buffer = buffer } →
    alike (expected v.fields) got (λ i. get_or v.expected i (get_or v.fields 8 0)) buffer ≡ convert_agrees conversion v
unfolding convert_agrees
compared conversion v got size r buffer z g c = rw (g, ← z, c)
