-- Answers as the corpus writes them.
use Rattle.std.specs.Prelude.{ℕ, Bool, ◌&&◌, List, [], ◌∷◌, eqb, get_or}
use Rattle.vectors.specs.declared.answers.Says.{Says}
use Rattle.vectors.specs.declared.answers.Says.TheVariants.{No, Yes, Refused, Accepted, Model, Spent, Ended, NotCompared, Models, OtherModels, Written, Filled, Counted, Unknown}
use Rattle.vectors.specs.declared.answers.Answer.{Answer}
use Rattle.vectors.specs.Corpus.{two_bytes}

-- what a byte says: 0 no, 1 yes, and so on; any other is kept
abbrev pub says_of : ℕ → Says
says_of b =
    get_or (No ∷ Yes ∷ Refused ∷ Accepted ∷ Model ∷ Spent ∷ Ended ∷ NotCompared ∷ Models ∷ OtherModels ∷ Written ∷ Filled ∷ Counted ∷ []) b (Unknown b)

-- the number of what an answer says: the byte that says it, or the one that is kept
abbrev pub byte_of : Says → ℕ
byte_of No = 0
byte_of Yes = 1
byte_of Refused = 2
byte_of Accepted = 3
byte_of Model = 4
byte_of Spent = 5
byte_of Ended = 6
byte_of NotCompared = 7
byte_of Models = 8
byte_of OtherModels = 9
byte_of Written = 10
byte_of Filled = 11
byte_of Counted = 12
byte_of (Unknown n) = n

-- an answer that is not accepted: what it says, and the refusal's number and place
abbrev pub plain : Says → ℕ → ℕ → Answer
plain says number place = record { says = says; number = number; place = place; variables = 0; clauses = 0 }

abbrev pub refused_answer : ℕ → ℕ → Answer
refused_answer number place = plain Refused number place

-- the expected answer, with which a vector's fields begin
abbrev pub expected : List ℕ → Answer
expected fields = record {
  says = says_of (get_or fields 0 0);
  number = get_or fields 1 0;
  place = two_bytes fields 2;
  variables = get_or fields 4 0;
  clauses = get_or fields 5 0;
}

abbrev pub same_answer : Answer → Answer → Bool
same_answer a b =
    eqb (byte_of a.says) (byte_of b.says) && (eqb a.number b.number && (eqb a.place b.place && (eqb a.variables b.variables && eqb a.clauses b.clauses)))
