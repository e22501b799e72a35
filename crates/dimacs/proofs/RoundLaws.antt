-- What is written is read back.
use Prim.Native.Nat.{ℕ, ◌+◌, ◌-◌, ◌≤◌, ◌<◌}
use mathlib.Core.Bool.{true}
use mathlib.Core.List.{List, [], ◌∷◌, ◌++◌, append-nil}
use mathlib.Core.Path.{◌≡◌, refl, ap, ◌∙◌}
use native.Mathlib.Omega.{arith}
use borrow.Author.Tests.{lt-ltb, le-leb, eq-eqb}
use lib.ListN.{length, length-append}
use lib.Seq.{append_snoc}
use Rattle.limits.specs.Limits.{max_variables, max_clauses}
use Rattle.lists.specs.Every.{Every}
use Rattle.writing.specs.Text.{decimal}
use Rattle.formula.specs.Format.{Literal, distinct, ClauseOver, Sized, add}
use Rattle.formula.specs.Decoding.{readable}
use Rattle.formula.proofs.ClauseLaws.{one_way_distinct}
use Rattle.formula.proofs.FormatLaws.{distinct_fresh}
use Rattle.formula.proofs.RepeatLaws.{complement_absent}
use Rattle.dimacs.specs.Text.{Piece, pieces, ends_line, non_empty, others, all_words, token, Progress, next, take_literal, take_token, take_words, p_word, cnf_word, opening, p_line, same, by_opening, by_lines, read_text}
use Rattle.dimacs.specs.InnerScan.{words_at}
use Rattle.dimacs.specs.Written.{literal_word, clause_line, clause_lines, text_of}
use Rattle.dimacs.proofs.TakeLaws.{behind, take_words-append, take_words-first}
use Rattle.dimacs.proofs.WrittenLaws.{Word, joined, placed, words-joined, decimal-run, decimal-value, decimal_word, token_literal, token_end, clause_words, clause_each_word, clause_no_comment, others-line}

-- ---- a clause

-- a literal of a variable below n that the clause does not name is added at its end
take_fresh : (n at : ℕ) (ds : List (List Literal)) (b c : List Literal) (l : Literal) → l.variable < n → distinct (b ++ (l ∷ c)) ≡ true
    → take_literal n at (record { ended = ds; current = b }) l.positive (l.variable + 1) ≡ next (record { ended = ds; current = b ++ (l ∷ []) })
unfolding add
take_fresh n at ds b c l h d =
    let e : l.variable + 1 - 1 ≡ l.variable = omega arith in
    rw (e, le-leb (l.variable + 1) n (omega arith), complement_absent b l c (one_way_distinct (b ++ (l ∷ c)) d), distinct_fresh b l c d)

-- the words of a clause end it
take_clause : (n at : ℕ) (ds : List (List Literal)) (b c : List Literal) → Every (λ l. l.variable < n) c → distinct (b ++ c) ≡ true → length ds < max_clauses
    → take_words n (placed at (clause_words c)) (record { ended = ds; current = b }) ≡ next (record { ended = ds ++ ((b ++ c) ∷ []); current = [] })
unfolding take_words
take_clause n at ds b [] h d k =
    let s : Progress = record { ended = ds; current = b } in
    let s' : Progress = record { ended = ds ++ (b ∷ []); current = [] } in
    let e : take_token n at s (token (decimal 0)) ≡ next s' = rw (token_end, lt-ltb (length ds) max_clauses k) in
    take_words-first n (record { at = at; bytes = decimal 0 }) [] s s' e ∙ rw append-nil
take_clause n at ds b (l ∷ c) h d k =
    let s : Progress = record { ended = ds; current = b } in
    let s' : Progress = record { ended = ds; current = b ++ (l ∷ []) } in
    let e : take_token n at s (token (literal_word l)) ≡ next s' = rw (token_literal l) (take_fresh n at ds b c l h.0 d) in
    let from = at + length (literal_word l) + 1 in
    take_words-first n (record { at = at; bytes = literal_word l }) (placed from (clause_words c)) s s' e
    ∙ take_clause n from ds (b ++ (l ∷ [])) c h.1 (rw append_snoc d) k
    ∙ rw append_snoc

-- ---- the lines of clauses

-- the line behind that of a clause starts here
abbrev behind_line : ℕ → List Literal → ℕ
behind_line at c = at + length (joined (clause_words c)) + 1

-- the words of a clause's line, and those of the lines behind it
line_words : (at : ℕ) (c : List Literal) (s : List ℕ)
    → all_words (others (pieces ends_line at [] (clause_line c ++ s)))
    ≡ placed at (clause_words c) ++ all_words (others (pieces ends_line (behind_line at c) [] s))
unfolding all_words
line_words at c s =
    ap all_words (others-line at (clause_words c) s (clause_each_word c) (clause_no_comment c))
    ∙ ap (λ (ws : List Piece). ws ++ all_words (others (pieces ends_line (behind_line at c) [] s))) (words-joined at (clause_words c) (clause_each_word c))

-- the lines of clauses end them, one after the other
take_lines : (n at : ℕ) (ds cs : List (List Literal)) → Every (ClauseOver n) cs → length ds + length cs ≤ max_clauses
    → take_words n (all_words (others (pieces ends_line at [] (clause_lines cs)))) (record { ended = ds; current = [] })
    ≡ next (record { ended = ds ++ cs; current = [] })
unfolding clause_lines all_words others pieces non_empty take_words
take_lines n at ds [] h k = rw append-nil
take_lines n at ds (c ∷ cs) h k =
    let vs = all_words (others (pieces ends_line (behind_line at c) [] (clause_lines cs))) in
    let s : Progress = record { ended = ds; current = [] } in
    ap (λ (us : List Piece). take_words n us s) (line_words at c (clause_lines cs))
    ∙ take_words-append n (placed at (clause_words c)) vs s
    ∙ ap (behind n vs) (take_clause n at ds [] c h.0.below h.0.once (omega arith))
    ∙ take_lines n (behind_line at c) (ds ++ (c ∷ [])) cs h.1 (omega (arith, length-append ds (c ∷ [])))
    ∙ rw append_snoc

-- ---- the p line

-- its words
abbrev opening_words : ℕ → ℕ → List (List ℕ)
opening_words n m = p_word ∷ cnf_word ∷ decimal n ∷ decimal m ∷ []

-- each is a word
opening_each_word : (n m : ℕ) → Every Word (opening_words n m)
opening_each_word n m =
    let p : Word p_word = record { some = omega arith; whole = (refl, tt) } in
    let cnf : Word cnf_word = record { some = omega arith; whole = (refl, (refl, (refl, tt))) } in
    (p, (cnf, (decimal_word n, (decimal_word m, tt))))

-- the words of its two numbers
abbrev third : ℕ → Piece
third n = record { at = 6; bytes = decimal n }

abbrev fourth : ℕ → ℕ → Piece
fourth n m = record { at = 6 + length (decimal n) + 1; bytes = decimal m }

-- the written p line is read as one
opening_written : (n m : ℕ) → opening (words_at 0 (joined (opening_words n m))) ≡ p_line (third n) (fourth n m)
unfolding opening same
opening_written n m = rw (words-joined 0 (opening_words n m) (opening_each_word n m), decimal-run n, decimal-run m)

-- ---- the whole

-- the text of a formula within the limits is read as that formula
pub text_read : {n : ℕ} {cs : List (List Literal)} → Sized n cs → read_text (text_of n cs) ≡ readable n cs
unfolding read_text text_of
text_read {n} {cs} z =
    let each = opening_each_word n (length cs) in
    let line = joined (opening_words n (length cs)) in
    let len = length (text_of n cs) in
    let rest = others (pieces ends_line (0 + length line + 1) [] (clause_lines cs)) in
    let taken = take_lines n (0 + length line + 1) [] cs z.clauses (omega arith) in
    ap (by_lines len) (others-line 0 (opening_words n (length cs)) (clause_lines cs) each refl)
    ∙ ap (by_opening len (record { at = 0; bytes = line }) rest) (opening_written n (length cs))
    ∙ rw (decimal-value, lt-ltb 0 n z.some, le-leb n max_variables z.most, taken, decimal-value, eq-eqb (length cs) (length cs) refl)
