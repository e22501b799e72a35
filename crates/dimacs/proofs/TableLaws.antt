-- The table of a text's refusals: it holds of what reading gives, and of nothing else.
use Prim.Native.Nat.{ℕ, suc, ◌-◌, ◌≤◌}
use mathlib.Core.Bool.{Bool, true, false, cond, ◌&&◌, and-false}
use mathlib.Core.List.{List, [], ◌∷◌, ◌++◌}
use mathlib.Core.Logic.{◌⊎◌, inl, inr}
use mathlib.Core.Path.{◌≡◌, refl, ap, ◌∙◌}
use native.Mathlib.Omega.{arith}
use borrow.Author.Tests.{ltb-true, ltb-false, leb-true, leb-false, eqb-true, eqb-false, lt-ltb, le-ltb, le-leb, lt-leb, eq-eqb, ne_eqb}
use lib.Dec.{eqb, leb, ltb}
use lib.ListN.{length}
use lib.Seq.{append_snoc}
use Rattle.limits.specs.Limits.{max_variables, max_clauses}
use Rattle.formula.specs.declared.Refusal.{Refusal}
use Rattle.formula.specs.declared.Refusal.TheVariants.{Truncated, BadVariableCount, NoSuchVariable, ComplementaryLiteral, TooManyClauses, ClauseCountDiffers}
use Rattle.formula.specs.Format.{Literal, has_complement, add, ClauseOver, Sized}
use Rattle.formula.specs.Decoding.{Decoding, readable, refused}
use Rattle.formula.specs.Refusals.{table_row}
use Rattle.formula.proofs.RepeatLaws.{over_none, add-over, sized_more}
use Rattle.dimacs.specs.Text.{Piece, lines, words, others, all_words, value, Token, ends, names_variable, bad, token, Progress, progress_start, Taking, next, stop, take_literal, take_end, take_token, take_word, take_words, Opening, p_line, other_line, opening, closing, by_opening, by_lines, read_text}
use Rattle.dimacs.specs.TextTable.{Opens, ComesTo, TakesAll, TextRead, TextRefused, no_line, no_p_line, count_bad, word_bad, variable_unknown, literal_complementary, clause_extra, clause_open, count_differs}
use Rattle.dimacs.proofs.GoesLaws.{token_some}
use Rattle.dimacs.proofs.TakeLaws.{behind, take_words-append, take_words-first}

-- ---- what is read so far

-- the clauses that have ended, and the literals of the one that has not, keep to the limits of n variables
record Within (n : ℕ) (s : Progress) : Type 0 where
  sized : Sized n s.ended
  over : ClauseOver n s.current

-- ---- words

-- what the step of a word says: what is read then keeps to the limits, or the text is refused so by the table
abbrev StepMeans : List ℕ → ℕ → Taking → Type 0
StepMeans t n (next s) = Within n s
StepMeans t n (stop r) = TextRefused t r

-- of a word that is reached
module _ {t : List ℕ} {n : ℕ} {w : Piece} {s : Progress} (at : ComesTo t n w s) (k : Within n s) where
  -- the step of a clause's end says so
  end_means : token w.bytes ≡ ends → StepMeans t n (take_end w.at s)
  end_means q = go (ltb (length s.ended) max_clauses) refl
    where
      go : (b : Bool) → ltb (length s.ended) max_clauses ≡ b
          → StepMeans t n (cond b (next (record { ended = s.ended ++ (s.current ∷ []); current = [] })) (stop (TooManyClauses w.at)))
      go true e = record { sized = sized_more k.sized k.over (ltb-true (length s.ended) max_clauses e); over = over_none }
      go false e = clause_extra n w s at q (omega (arith, ltb-false (length s.ended) max_clauses e, k.sized.few))

  -- and that of a literal
  literal_means : (sign : Bool) (v : ℕ) → token w.bytes ≡ names_variable sign v → StepMeans t n (take_literal n w.at s sign v)
  literal_means sign v q = go (leb v n) (has_complement s.current l) refl refl
    where
      l : Literal
      l = record { variable = v - 1; positive = sign }

      go : (a b : Bool) → leb v n ≡ a → has_complement s.current l ≡ b
          → StepMeans t n (cond a (cond b (stop (ComplementaryLiteral w.at)) (next (record { ended = s.ended; current = add s.current l }))) (stop (NoSuchVariable w.at)))
      go true true e f = literal_complementary n w s sign v at q (leb-true v n e) f
      go true false e f = record { sized = k.sized; over = add-over l k.over (omega (arith, leb-true v n e, token_some w.bytes sign v q)) }
      go false b e f = variable_unknown n w s sign v at q (leb-false v n e)

  -- and so that of any word
  word_means : StepMeans t n (take_word n w s)
  word_means = go (token w.bytes) refl
    where
      go : (x : Token) → token w.bytes ≡ x → StepMeans t n (take_token n w.at s x)
      go ends q = end_means q
      go (names_variable sign v) q = literal_means sign v q
      go bad q = word_bad n w s at q

-- a word behind words that are taken, taken itself, is one more of them
taken_more : (n : ℕ) (us : List Piece) (w : Piece) (s s' : Progress) → take_words n us progress_start ≡ next s → take_word n w s ≡ next s'
    → take_words n (us ++ (w ∷ [])) progress_start ≡ next s'
unfolding take_words
taken_more n us w s s' e f = take_words-append n us (w ∷ []) progress_start ∙ rw e (take_words-first n w [] s s' f)

-- the steps of the words ws say so, if all words before them are taken
words_means : {t : List ℕ} {n : ℕ} {d : Piece} (us ws : List Piece) (s : Progress) → Opens t n d (us ++ ws) → take_words n us progress_start ≡ next s
    → Within n s → StepMeans t n (take_words n ws s)
unfolding take_words
words_means us [] s o e k = k
words_means {t} {n} {d} us (w ∷ ws) s o e k =
    go (λ s'. words_means {d = d} (us ++ (w ∷ [])) ws s' (rw append_snoc o)) (take_word n w s) refl
    (word_means (record { fourth = d; before = us; after = ws; opens = o; taken = e }) k)
  where
    go : ((s' : Progress) → take_words n (us ++ (w ∷ [])) progress_start ≡ next s' → Within n s' → StepMeans t n (take_words n ws s')) → (x : Taking)
        → take_word n w s ≡ x → StepMeans t n x → StepMeans t n (behind n ws x)
    go again (next s') q h = again s' (taken_more n us w s s' e q) h
    go again (stop r) q h = h

-- ---- the whole text

-- before the first word nothing is read
within_start : {n : ℕ} → 1 ≤ n → n ≤ max_variables → Within n progress_start
within_start some most = record { sized = record { some = some; most = most; few = omega arith; clauses = tt }; over = over_none }

-- the steps of all words behind the p line say so
all_means : {t : List ℕ} {n : ℕ} {d : Piece} {ws : List Piece} → Opens t n d ws → StepMeans t n (take_words n ws progress_start)
unfolding take_words
all_means {ws = ws} o = words_means [] ws progress_start o refl (within_start o.some o.most)

-- what a result of reading says of the text, by the table
abbrev TextMeans : List ℕ → Decoding → Type 0
TextMeans t (readable n cs) = TextRead t n cs
TextMeans t (refused r) = TextRefused t r

-- the result behind the last word says what the text is
closing_means : {t : List ℕ} {n : ℕ} {d : Piece} {ws : List Piece} → Opens t n d ws → (x : Taking) → take_words n ws progress_start ≡ x → StepMeans t n x
    → TextMeans t (closing (length t) n d x)
closing_means o (stop r) e h = h
closing_means {t} {n} {d} {ws} o (next s) e h = go s.current refl (eqb (length s.ended) (value d.bytes)) refl
  where
    passes : (c : List Literal) → s.current ≡ c → TakesAll t n d (record { ended = s.ended; current = c })
    passes c q = record { all = ws; opens = o; taken = rw q at e }

    go : (c : List Literal) → s.current ≡ c → (b : Bool) → eqb (length s.ended) (value d.bytes) ≡ b
        → TextMeans t (cond (eqb (length c) 0) (cond b (readable n s.ended) (refused (ClauseCountDiffers d.at))) (refused (Truncated (length t))))
    go [] q true f = record { fourth = d; passes = passes [] q; clauses = eqb-true (length s.ended) (value d.bytes) f }
    go [] q false f = count_differs n d (record { ended = s.ended; current = [] }) (passes [] q) refl (eqb-false (length s.ended) (value d.bytes) f)
    go (l ∷ c) q b f =
        rw (ne_eqb (suc (length c)) 0 (λ z. absurd (omega arith)))
        (clause_open n d (record { ended = s.ended; current = l ∷ c }) (passes (l ∷ c) q) (λ z. absurd (omega (arith, ap length z))))

-- and so does the result by the first line that is no comment
opening_means : (t : List ℕ) (l : Piece) (ls : List Piece) → others (lines t) ≡ l ∷ ls → TextMeans t (by_opening (length t) l ls (opening (words l)))
opening_means t l ls e = go (opening (words l)) refl
  where
    count : (c d : Piece) → opening (words l) ≡ p_line c d → (a b : Bool) → ltb 0 (value c.bytes) ≡ a → leb (value c.bytes) max_variables ≡ b
        → TextMeans t
        (cond (a && b) (closing (length t) (value c.bytes) d (take_words (value c.bytes) (all_words ls) progress_start)) (refused (BadVariableCount c.at)))
    count c d q true true f g =
        let o : Opens t (value c.bytes) d (all_words ls) = record {
          line = l;
          behind = ls;
          third = c;
          first = e;
          is_p_line = q;
          variables = refl;
          some = ltb-true 0 (value c.bytes) f;
          most = leb-true (value c.bytes) max_variables g;
          follow = refl;
        } in
        closing_means o (take_words (value c.bytes) (all_words ls) progress_start) refl (all_means o)
    count c d q true false f g = count_bad l c d ls e q (inr (leb-false (value c.bytes) max_variables g))
    count c d q false b f g = count_bad l c d ls e q (inl (omega (arith, ltb-false 0 (value c.bytes) f)))

    go : (o : Opening) → opening (words l) ≡ o → TextMeans t (by_opening (length t) l ls o)
    go (p_line c d) q = count c d q (ltb 0 (value c.bytes)) (leb (value c.bytes) max_variables) refl refl
    go other_line q = no_p_line l ls e q

-- and so what reading gives
text_means : (t : List ℕ) → TextMeans t (read_text t)
unfolding read_text
text_means t = go (others (lines t)) refl
  where
    go : (ls : List Piece) → others (lines t) ≡ ls → TextMeans t (by_lines (length t) ls)
    go [] e = no_line e
    go (l ∷ ls) e = opening_means t l ls e

-- S15.4: a text is read only if its words all pass, no clause is open, and there are as many as its p line says
pub text_read_only : (t : List ℕ) (n : ℕ) (cs : List (List Literal)) → read_text t ≡ readable n cs → TextRead t n cs
text_read_only t n cs e = rw e at (text_means t)

-- S15.4: a refusal is given only where its row of the table applies
pub text_refused_only : (t : List ℕ) (r : Refusal) → read_text t ≡ refused r → TextRefused t r
text_refused_only t r e = rw e at (text_means t)

-- S1.2: what is read keeps to the limits
pub text_sized : (t : List ℕ) (n : ℕ) (cs : List (List Literal)) → read_text t ≡ readable n cs → Sized n cs
text_sized t n cs e =
    let p = (text_read_only t n cs e).passes in
    let k : Within n (record { ended = cs; current = [] }) = rw p.taken at (all_means p.opens) in
    k.sized

-- ---- the other way: the table's rows give what is read

-- a text that opens with a p line of 1 to 48 variables is read by its words
opens_read : {t : List ℕ} {n : ℕ} {d : Piece} {ws : List Piece} → Opens t n d ws → read_text t ≡ closing (length t) n d (take_words n ws progress_start)
unfolding read_text
opens_read o = rw (o.first, o.is_p_line, ← o.variables, lt-ltb 0 _ o.some, le-leb _ max_variables o.most, o.follow)

-- a word that is reached and refused refuses the text
comes_to_read : {t : List ℕ} {n : ℕ} {w : Piece} {s : Progress} {r : Refusal} → ComesTo t n w s → take_word n w s ≡ stop r → read_text t ≡ refused r
unfolding take_words
comes_to_read {n = n} {w = w} a e = opens_read a.opens ∙ rw (take_words-append n a.before (w ∷ a.after) progress_start, a.taken, e, take_words)

-- a text whose words are all taken is read by what they give
takes_all_read : {t : List ℕ} {n : ℕ} {d : Piece} {s : Progress} → TakesAll t n d s → read_text t ≡ closing (length t) n d (next s)
takes_all_read p = opens_read p.opens ∙ rw p.taken

-- S15.4: every such text is read, as these clauses
pub text_read_all : (t : List ℕ) (n : ℕ) (cs : List (List Literal)) → TextRead t n cs → read_text t ≡ readable n cs
text_read_all t n cs h = takes_all_read h.passes ∙ rw (eq-eqb (length cs) (value h.fourth.bytes) h.clauses)

-- S15.4: a refusal is given wherever its row of the table applies
pub text_refused_all : (t : List ℕ) (r : Refusal) → TextRefused t r → read_text t ≡ refused r
unfolding read_text
text_refused_all t r (no_line e) = rw e
text_refused_all t r (no_p_line l ls e q) = rw (e, q)
text_refused_all t r (count_bad l c d ls e q (inl h)) = rw (e, q, le-ltb 0 (value c.bytes) (omega arith))
text_refused_all t r (count_bad l c d ls e q (inr h)) = rw (e, q, lt-leb (value c.bytes) max_variables h, and-false (ltb 0 (value c.bytes)))
text_refused_all t r (word_bad n w s a q) = comes_to_read a (rw q)
text_refused_all t r (variable_unknown n w s sign k a q h) = comes_to_read a (rw (q, lt-leb k n h))
text_refused_all t r (literal_complementary n w s sign k a q h f) = comes_to_read a (rw (q, le-leb k n h, f))
text_refused_all t r (clause_extra n w s a q h) = comes_to_read a (rw (q, le-ltb (length s.ended) max_clauses (omega arith)))
text_refused_all t r (clause_open n d s p h) = takes_all_read p ∙ go s.current h
  where
    go : (c : List Literal) → (c ≡ [] → ⊥) → closing (length t) n d (next (record { ended = s.ended; current = c })) ≡ refused (Truncated (length t))
    go [] h = absurd (h refl)
    go (l ∷ c) h = rw (ne_eqb (suc (length c)) 0 (λ z. absurd (omega arith)))
text_refused_all t r (count_differs n d s p e h) = takes_all_read p ∙ rw (e, ne_eqb (length s.ended) (value d.bytes) h)

-- S3.1: a text is refused with 2, 5 to 8 or 13 to 15
pub text_numbers : {t : List ℕ} {r : Refusal} → TextRefused t r
    → (let k = (table_row r).number in ((k ≡ 2) ⊎ ((5 ≤ k) × (k ≤ 8))) ⊎ ((13 ≤ k) × (k ≤ 15)))
text_numbers (no_line e) = inr (omega arith)
text_numbers (no_p_line l ls e q) = inr (omega arith)
text_numbers (count_bad l c d ls e q h) = inl (inr (omega arith))
text_numbers (word_bad n w s a q) = inr (omega arith)
text_numbers (variable_unknown n w s sign k a q h) = inl (inr (omega arith))
text_numbers (literal_complementary n w s sign k a q h f) = inl (inr (omega arith))
text_numbers (clause_extra n w s a q h) = inl (inr (omega arith))
text_numbers (clause_open n d s p h) = inl (inl refl)
text_numbers (count_differs n d s p e h) = inr (omega arith)
