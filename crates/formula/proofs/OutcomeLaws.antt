-- Every input is the bytes of a formula or one that a refusal is given for.
use Prim.Native.Nat.{ℕ, zero, suc, ◌+◌, ◌-◌, ◌≤◌, ◌<◌}
use mathlib.Core.Bool.{Bool, true, false}
use mathlib.Core.List.{List, [], ◌∷◌, ◌++◌, map, append_assoc}
use mathlib.Core.Logic.{◌⊎◌, inl, inr, ⊎_elim}
use mathlib.Core.Path.{◌≡◌, refl, sym, ap, ◌∙◌}
use native.Mathlib.Decide.{dec_le, dec_lt}
use native.Mathlib.Omega.{arith}
use lib.ListN.{length, length-append}
use Rattle.limits.specs.Limits.{max_variables, max_clauses}
use Rattle.formula.specs.declared.Refusal.{Refusal}
use Rattle.formula.specs.declared.Refusal.TheVariants.{Truncated, UnknownKind, Misplaced, BadVariableCount, NoSuchVariable, ComplementaryLiteral, TooManyClauses, TrailingByte}
use Rattle.formula.specs.Format.{Literal, literal_kind, literal_bytes, has_complement, without_repeats, WrittenSized, Encodes}
use Rattle.formula.specs.InnerDecode.{decode}
use Rattle.formula.specs.Decoding.{Decoding, readable, refused}
use Rattle.formula.specs.Table.{Beginning, nothing, inside, written, Begins, MayStand, Given, no_kind, kind_unknown, kind_misplaced, no_body, count_bad, variable_unknown, literal_complementary, clause_extra, byte_extra, Refuses}
use Rattle.formula.proofs.ExtendsLaws.{formula_written, Extends, count, literal, clause_end, extends_begins, extends_written, extends_longer}
use Rattle.formula.proofs.DecodeLaws.{gives_stop, gives_formula, decode_after}
use Rattle.formula.proofs.RefusalLaws.{each_kind, inner_stands, given_read}
use Rattle.formula.proofs.RepeatLaws.{written_none}

-- what may stand after a beginning: the last record of a formula, a record that is wrong, or one more record of the grammar
data Front (len : ℕ) : Beginning → List ℕ → Type 0 where
  ends : {n : ℕ} {ws : List (List Literal)} → Front len (inside n ws []) (5 ∷ [])
  fails : {b : Beginning} {s : List ℕ} (r : Refusal) → Given len (length (written b)) b s r → Front len b s
  continues : {b b' : Beginning} {x s : List ℕ} (t : List ℕ) → Extends b x b' → s ≡ x ++ t → Front len b s

-- a number is within 1 to n or outside
within : (n v : ℕ) → ((1 ≤ v) × (v ≤ n)) ⊎ ((v < 1) ⊎ (n < v))
within n v = go (dec_le 1 v) (dec_le v n)
  where
    go : Dec (1 ≤ v) → Dec (v ≤ n) → ((1 ≤ v) × (v ≤ n)) ⊎ ((v < 1) ⊎ (n < v))
    go (yes h) (yes k) = inl (h, k)
    go (yes h) (no k) = inr (inr (omega arith))
    go (no h) (yes k) = inr (inl (omega arith))
    go (no h) (no k) = inr (inl (omega arith))

module _ (len : ℕ) where
  -- kind 1 at the start
  count_front : (s : List ℕ) → Front len nothing (1 ∷ s)
  count_front [] = fails (Truncated len) (no_body 1 refl (omega arith))
  count_front (n ∷ s) =
      ⊎_elim (λ w. continues s (count n w.0 w.1) refl) (λ o. fails (BadVariableCount 0) (count_bad n o)) (within max_variables n)

  -- kinds 2 and 3 after it
  literal_front : (n : ℕ) (ws : List (List Literal)) (w : List Literal) (sign : Bool) (s : List ℕ) → MayStand (inside n ws w) (literal_kind sign)
      → literal_kind sign ≤ 3 → Front len (inside n ws w) (literal_kind sign ∷ s)
  unfolding literal_bytes
  literal_front n ws w sign [] m k = fails (Truncated len) (no_body (literal_kind sign) m k)
  literal_front n ws w sign (v ∷ s) m k = ⊎_elim (λ o. go o.0 o.1 (has_complement w l) refl) (λ o. fails (NoSuchVariable _) (variable_unknown n sign v o)) (within n v)
    where
      l : Literal
      l = record { variable = v - 1; positive = sign }

      go : 1 ≤ v → v ≤ n → (t : Bool) → has_complement w l ≡ t → Front len (inside n ws w) (literal_kind sign ∷ v ∷ s)
      go h k true e = fails (ComplementaryLiteral _) (literal_complementary n sign v h k e)
      go h k false e =
          let q : v - 1 + 1 ≡ v = omega arith in
          continues {s = literal_kind sign ∷ v ∷ s} s (literal {n = n} {ws = ws} {w = w} l (omega arith) e) (rw q)

  -- kind 4
  clause_front : (n : ℕ) (ws : List (List Literal)) (w : List Literal) (s : List ℕ) → WrittenSized n ws → Front len (inside n ws w) (4 ∷ s)
  clause_front n ws w s z = go (dec_lt (length ws) max_clauses)
    where
      go : Dec (length ws < max_clauses) → Front len (inside n ws w) (4 ∷ s)
      go (yes h) = continues s (clause_end h) refl
      go (no h) = fails (TooManyClauses _) (clause_extra ws (omega arith))

  -- kind 5
  formula_front : (n : ℕ) (ws : List (List Literal)) (w : List Literal) (s : List ℕ) → Front len (inside n ws w) (5 ∷ s)
  formula_front n ws [] [] = ends
  formula_front n ws [] (x ∷ s) = fails (TrailingByte _) (byte_extra x s)
  formula_front n ws (l ∷ w) s = fails (Misplaced _) (kind_misplaced {b = inside n ws (l ∷ w)} 5 (omega arith) (omega arith) (λ m. omega (arith, ap length (m.2 refl))))

  -- a beginning of the grammar is followed by one of the three
  front : (b : Beginning) → Begins b → (s : List ℕ) → Front len b s
  front b g [] = fails (Truncated len) no_kind
  front nothing g (k ∷ s) =
      each_kind (λ k. Front len nothing (k ∷ s)) (count_front s) (misplaced 2 (omega arith)) (misplaced 3 (omega arith)) (misplaced 4 (omega arith))
      (misplaced 5 (omega arith)) (λ k o. fails (UnknownKind 0) (kind_unknown k o)) k
    where
      misplaced : (k : ℕ) → (2 ≤ k) × (k ≤ 5) → Front len nothing (k ∷ s)
      misplaced k h = fails (Misplaced 0) (kind_misplaced {b = nothing} k (omega arith) (omega arith) (λ m. omega arith))
  front (inside n ws w) g (k ∷ s) =
      each_kind (λ k. Front len (inside n ws w) (k ∷ s)) (fails (Misplaced _) (kind_misplaced 1 (omega arith) (omega arith) (λ (m : MayStand (inside n ws w) 1). omega arith)))
      (literal_front n ws w true s (inner_stands n ws w 2 (omega arith) (omega arith)) (omega arith))
      (literal_front n ws w false s (inner_stands n ws w 3 (omega arith) (omega arith)) (omega arith)) (clause_front n ws w s g.0)
      (formula_front n ws w s) (λ k o. fails (UnknownKind _) (kind_unknown k o)) k

-- what a result of reading says of the input: it is the bytes of that formula, or that refusal is given for it
abbrev pub DecodesTo : List ℕ → Decoding → Type 0
DecodesTo s (readable n cs) = Encodes s n cs
DecodesTo s (refused r) = Refuses s r

-- some result says what the input is, after a beginning of the grammar
means_after : (s : List ℕ) (k : ℕ) (b : Beginning) → Begins b → (rest : List ℕ) → length rest ≤ k → s ≡ written b ++ rest → (d : Decoding) × DecodesTo s d
means_after s zero b g [] l e = (refused (Truncated (length s)), record { before = b; begins = g; rest = []; bytes = e; given = no_kind })
means_after s zero b g (x ∷ rest) l e = absurd (omega arith)
means_after s (suc k) b g rest l e = go (means_after s k) b g rest l e (front (length s) b g rest)
  where
    go : ((b : Beginning) → Begins b → (rest : List ℕ) → length rest ≤ k → s ≡ written b ++ rest → (d : Decoding) × DecodesTo s d) → (b : Beginning)
        → Begins b → (rest : List ℕ) → length rest ≤ suc k → s ≡ written b ++ rest → Front (length s) b rest → (d : Decoding) × DecodesTo s d
    go again b g rest l e (ends {n} {ws}) =
        (readable n (map without_repeats ws), record { written = ws; bytes = e ∙ formula_written n ws; sized = g.0; read = refl })
    go again b g rest l e (fails r w) = (refused r, record { before = b; begins = g; rest = rest; bytes = e; given = w })
    go again b g rest l e (continues {b' = b'} {x = x} t w q) =
        again b' (extends_begins w g) t (omega (arith, extends_longer w, ap length q ∙ length-append x t))
        (e ∙ rw (q, extends_written w, append_assoc))

-- a result that says what the input is, is the one that reading gives
pub decode_gives : (s : List ℕ) (d : Decoding) → DecodesTo s d → decode s ≡ d
decode_gives s (readable n cs) e =
    rw e.read
    (decode_after (inside n e.written []) (e.sized, written_none) (5 ∷ []) (e.bytes ∙ sym (formula_written n e.written)) (gives_formula (length s) n e.written))
decode_gives s (refused r) e =
    decode_after e.before e.begins e.rest e.bytes (gives_stop (given_read (length s) e.begins e.given refl))

-- what reading gives says what the input is
pub decode_means : (s : List ℕ) → DecodesTo s (decode s)
decode_means s =
    let w : (d : Decoding) × DecodesTo s d = means_after s (length s) nothing tt s (omega arith) refl in
    rw (decode_gives s w.0 w.1) w.1
