-- S3.1: what each of the refusals 2 to 9 means, in the words of the grammar and without the reader's: where a record may fail, and
-- what is then wrong with it and with nothing that the order of checks (S3.2) asks before.
use Rattle.std.specs.Prelude.{ℕ, ◌+◌, ◌-◌, ◌<◌, ◌≤◌, Bool, true, List, [], ◌∷◌, ◌++◌, ◌⊎◌, ◌≡◌, length}
use Rattle.limits.specs.Limits.{max_variables, max_clauses}
use Rattle.formula.specs.declared.Refusal.{Refusal}
use Rattle.formula.specs.declared.Refusal.TheVariants.{Truncated, UnknownKind, Misplaced, BadVariableCount, NoSuchVariable, ComplementaryLiteral, TooManyClauses, TrailingByte}
use Rattle.formula.specs.Format.{Literal, clauses_bytes, literals_bytes, literal_kind, has_complement, WrittenOver, WrittenSized}

-- what may stand before a record: nothing, or kind 1 with n, whole clauses as they are written, and the literals of one without its end
pub data Beginning : Type 0 where
  nothing : Beginning
  inside : ℕ → List (List Literal) → List Literal → Beginning

-- the bytes of a beginning
abbrev pub written : Beginning → List ℕ
written nothing = []
written (inside n ws w) = 1 ∷ n ∷ (clauses_bytes ws ++ literals_bytes w)

-- a beginning of the grammar
abbrev pub Begins : Beginning → Type 0
Begins nothing = Unit {0}
Begins (inside n ws w) = WrittenSized n ws × WrittenOver n w

-- S2.2: kind k may stand after the beginning: kind 1 where nothing is before it, another after that, kind 5 with no clause begun
abbrev pub MayStand : Beginning → ℕ → Type 0
MayStand nothing k = k ≡ 1
MayStand (inside n ws w) k = (2 ≤ k) × (k ≤ 5) × (k ≡ 5 → w ≡ [])

-- the failing record stands at the front of the bytes; the input has `len` bytes and the record's offset is `at`
pub data Given (len at : ℕ) : Beginning → List ℕ → Refusal → Type 0 where
  -- 2: no kind byte is left
  no_kind : {b : Beginning} → Given len at b [] (Truncated len)
  -- 3: the kind is 0 or above 5
  kind_unknown : {b : Beginning} {s : List ℕ} (k : ℕ) → (k < 1) ⊎ (5 < k) → Given len at b (k ∷ s) (UnknownKind at)
  -- 4: a known kind that may not stand after the beginning
  kind_misplaced : {b : Beginning} {s : List ℕ} (k : ℕ) → 1 ≤ k → k ≤ 5 → (MayStand b k → ⊥) → Given len at b (k ∷ s) (Misplaced at)
  -- 2: a kind that has a body is the last byte
  no_body : {b : Beginning} (k : ℕ) → MayStand b k → k ≤ 3 → Given len at b (k ∷ []) (Truncated len)
  -- 5: the number of variables is not within 1 to 48
  count_bad : {s : List ℕ} (n : ℕ) → (n < 1) ⊎ (max_variables < n) → Given len at nothing (1 ∷ n ∷ s) (BadVariableCount at)
  -- 6: the variable is not within 1 to n
  variable_unknown : {ws : List (List Literal)} {w : List Literal} {s : List ℕ} (n : ℕ) (sign : Bool) (v : ℕ) → (v < 1) ⊎ (n < v)
      → Given len at (inside n ws w) (literal_kind sign ∷ v ∷ s) (NoSuchVariable at)
  -- 7 (request: named twice): the clause has named the variable the other way
  literal_complementary : {ws : List (List Literal)} {w : List Literal} {s : List ℕ} (n : ℕ) (sign : Bool) (v : ℕ) → 1 ≤ v → v ≤ n
      → has_complement w (record { variable = v - 1; positive = sign }) ≡ true
      → Given len at (inside n ws w) (literal_kind sign ∷ v ∷ s) (ComplementaryLiteral at)
  -- 8: a kind 4 after 96 clauses
  clause_extra : {n : ℕ} {w : List Literal} {s : List ℕ} (ws : List (List Literal)) → length ws ≡ max_clauses → Given len at (inside n ws w) (4 ∷ s) (TooManyClauses at)
  -- 9: a byte after kind 5
  byte_extra : {n : ℕ} {ws : List (List Literal)} (x : ℕ) (s : List ℕ) → Given len at (inside n ws []) (5 ∷ x ∷ s) (TrailingByte (at + 1))

-- the input is a beginning of the grammar, then a record that the refusal is given for
pub record Refuses (s : List ℕ) (r : Refusal) : Type 0 where
  pub before : Beginning
  pub begins : Begins before
  pub rest : List ℕ
  pub bytes : s ≡ written before ++ rest
  pub given : Given (length s) (length (written before)) before rest r
