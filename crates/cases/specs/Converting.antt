-- The vectors of the conversions: the answer and the buffer of their definitions (S15, S16), compared with those that the corpus has.
use Rattle.std.specs.Prelude as std
use Rattle.std.specs.Prelude.{ℕ, ◌+◌, Bool, List, ◌≡◌, get_or, take, replicate}
use Rattle.std.specs.Borrow.{Bor, MutBor}
use Rattle.formula.specs.declared.Refusal.{Refusal}
use Rattle.dimacs.specs.Convert.{ConvertedValues, converted_values, Conversion}
use Rattle.vectors.specs.declared.answers.Says.TheVariants.{Written}
use Rattle.vectors.specs.declared.answers.Answer.{Answer}
use Rattle.vectors.specs.Answers.{plain, expected}
use Rattle.vectors.specs.Comparing.{alike}
use Rattle.vectors.specs.Corpus.{Parts, two_bytes}
use Rattle.cases.specs.Judging.{unless_refused}

-- how the corpus writes an answer: the place is the refusal's or the number of bytes that were written, since the other one is 0
abbrev pub convert_written : ConvertedValues → Answer
convert_written a = plain (unless_refused Written a.number) a.number (a.place + a.count)

-- what a call of a conversion tells is the answer of this, and the buffer as it is left
abbrev pub Converts : (Bor (List ℕ) → MutBor (List ℕ) → std.Result ℕ Refusal → MutBor (List ℕ) → Type 0) → (List ℕ → List ℕ → Conversion) → Type 0
Converts told conversion =
    (given : Bor (List ℕ)) (before after : MutBor (List ℕ)) (r : std.Result ℕ Refusal) →
    told given before r after → conversion given.now before.now ≡ record { answer = converted_values r; buffer = after.now }

-- a conversion of the vector's input has the expected answer, and leaves the expected bytes and behind them the fill. The fields behind the
-- answer: the length of the buffer, which has the fill everywhere before the call, and the fill
unfoldable pub convert_agrees : (List ℕ → List ℕ → Conversion) → Parts → Bool
convert_agrees conversion v =
    let fill = get_or v.fields 8 0 in
    let c = conversion v.input (take (two_bytes v.fields 6) (replicate 65536 fill)) in
    alike (expected v.fields) (convert_written c.answer) (λ i. get_or v.expected i fill) c.buffer
