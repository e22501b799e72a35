-- What a call gives, compared with what the corpus has.
use Rattle.std.specs.Prelude.{ℕ, zero, suc, ◌+◌, ◌<◌, Bool, cond, ◌&&◌, List, ◌≡◌, eqb, length, get_or}
use Rattle.vectors.specs.declared.answers.Answer.{Answer}
use Rattle.vectors.specs.Answers.{same_answer}

-- the first of k places from i on where something else stands than must, else the place after them
unfoldable pub wrong_from : {T : Type 0} → (T → T → Bool) → (ℕ → T) → List T → ℕ → ℕ → ℕ
wrong_from same wanted got zero i = i
wrong_from same wanted got (suc k) i =
    cond (same (get_or got i (wanted i)) (wanted i)) (wrong_from same wanted got k (i + 1)) i

-- the first of all places, else how many they are
unfoldable pub first_wrong : {T : Type 0} → (T → T → Bool) → (ℕ → T) → List T → ℕ
first_wrong same wanted got = wrong_from same wanted got (length got) 0

-- what is told of the places below n is what a function gives there
abbrev pub Gives : {T : Type 0} → (ℕ → T → Type 0) → (ℕ → T) → ℕ → Type 0
Gives {T = T} told wanted n = (i : ℕ) (r : T) → i < n → told i r → r ≡ wanted i

-- the answers are the same, and the first wrong byte would stand behind all
abbrev pub alike : Answer → Answer → (ℕ → ℕ) → List ℕ → Bool
alike expected got wanted bytes = same_answer expected got && eqb (first_wrong eqb wanted bytes) (length bytes)
