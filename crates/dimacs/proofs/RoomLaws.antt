-- How long a text is at most, and the longest one.
use Prim.Native.Nat.{ℕ, zero, suc, ◌+◌, ◌*◌, ◌-◌, ◌≤◌, ◌<◌}
use mathlib.Core.Bool.{Bool, true, false, cond, ◌||◌}
use mathlib.Core.List.{List, [], ◌∷◌}
use mathlib.Core.Path.{◌≡◌, refl, ap, ◌∙◌}
use native.Mathlib.Omega.{arith}
use borrow.Author.Tests.{ltb-true, ltb-false, eqb-true, eqb-false, eq-eqb, ne_eqb}
use lib.Dec.{eqb, ltb}
use lib.ListN.{length, length-append, length-map, replicate, length-replicate}
use Rattle.limits.specs.Limits.{max_variables, max_clauses}
use Rattle.lists.specs.Every.{Every}
use Rattle.lists.proofs.EveryLaws.{every_replicate}
use Rattle.writing.specs.Text.{digit_zero, line_feed, decimal, decimal_within}
use Rattle.writing.proofs.DecimalLaws.{decimal-length}
use Rattle.writing.proofs.LineLaws.{numbers-length}
use Rattle.writing.specs.declared.Writer.{Writer}
use Rattle.writing.specs.Placed.{RoomFor}
use Rattle.formula.specs.declared.Formula.{Formula}
use Rattle.formula.specs.Format.{Literal, names, distinct, ClauseOver, Sized}
use Rattle.formula.specs.InnerMasked.{clause_of}
use Rattle.formula.proofs.FormatLaws.{distinct_rest}
use Rattle.formula.proofs.RepeatLaws.{below_most}
use Rattle.formula.proofs.LengthLaws.{clause_le}
use Rattle.formula.proofs.MaskedLaws.{Accepts}
use Rattle.dimacs.specs.Written.{clause_line, clause_lines, opening_line, text_of, max_opening, text_room}
use Rattle.dimacs.specs.InnerWriter.{sign_bytes, literal_text, Readable}
use Rattle.dimacs.proofs.LineLaws.{text_sum, literals_text, line_texts}

-- variables below this are written with one digit, and the others with two
abbrev one_digit : ℕ
one_digit = 9

-- the longest line of a clause: each variable with a minus and a blank, then 0 and the line feed
abbrev pub longest_line : ℕ
longest_line = one_digit * 3 + (max_variables - one_digit) * 4 + 2

-- the longest text, 17,772
abbrev pub longest_text : ℕ
longest_text = max_opening + max_clauses * longest_line

-- ---- the line of a clause

-- the literals of two digits, their variables counted from 0 again
high : List Literal → List Literal
high [] = []
high (l ∷ c) = cond (ltb l.variable one_digit) (high c) (record { variable = l.variable - one_digit; positive = l.positive } ∷ high c)

-- they name what the clause names
high_names : (c : List Literal) (v : ℕ) → names (high c) v ≡ names c (v + one_digit)
unfolding high names
high_names [] v = refl
high_names (l ∷ c) v = go (ltb l.variable one_digit) refl (high_names c v)
  where
    shift : (x : Bool) → eqb (l.variable - one_digit) v ≡ x → one_digit ≤ l.variable → x ≡ eqb l.variable (v + one_digit)
    shift true e h = let f = eqb-true (l.variable - one_digit) v e in rw (eq-eqb l.variable (v + one_digit) (omega arith))
    shift false e h = rw (ne_eqb l.variable (v + one_digit) (λ f. eqb-false (l.variable - one_digit) v e (omega arith)))

    go : (x : Bool) → ltb l.variable one_digit ≡ x → names (high c) v ≡ names c (v + one_digit)
        → names (cond x (high c) (record { variable = l.variable - one_digit; positive = l.positive } ∷ high c)) v
        ≡ eqb l.variable (v + one_digit) || names c (v + one_digit)
    go true e h = let f = ltb-true l.variable one_digit e in rw (ne_eqb l.variable (v + one_digit) (omega arith)) h
    go false e h = rw (h, shift _ refl (ltb-false l.variable one_digit e))

-- so none of them twice
high_once : (c : List Literal) → distinct c ≡ true → distinct (high c) ≡ true
unfolding high distinct
high_once [] d = refl
high_once (l ∷ c) d = let a = distinct_rest l c d in go (ltb l.variable one_digit) refl a.0 (high_once c a.1)
  where
    go : (x : Bool) → ltb l.variable one_digit ≡ x → names c l.variable ≡ false → distinct (high c) ≡ true
        → distinct (cond x (high c) (record { variable = l.variable - one_digit; positive = l.positive } ∷ high c)) ≡ true
    go true e n h = h
    go false e n h =
        let f = ltb-false l.variable one_digit e in
        let s : l.variable - one_digit + one_digit ≡ l.variable = omega arith in
        rw (high_names c (l.variable - one_digit), s, n, h)

-- over so many variables less
high_below : (m : ℕ) (c : List Literal) → Every (λ l. l.variable < m + one_digit) c → Every (λ l. l.variable < m) (high c)
unfolding high
high_below m [] h = tt
high_below m (l ∷ c) h = go (ltb l.variable one_digit) refl (high_below m c h.1)
  where
    go : (x : Bool) → ltb l.variable one_digit ≡ x → Every (λ k. k.variable < m) (high c)
        → Every (λ k. k.variable < m) (cond x (high c) (record { variable = l.variable - one_digit; positive = l.positive } ∷ high c))
    go true e k = k
    go false e k = let f = ltb-false l.variable one_digit e in let b = h.0 in (omega arith, k)

-- a sign has one byte at most
sign_le : (sign : Bool) → length (sign_bytes sign) ≤ 1
sign_le true = omega arith
sign_le false = omega arith

-- and a literal three, or one more if it has two digits
texts_le : (c : List Literal) → Every (λ l. l.variable < max_variables) c → length (literals_text c) ≤ 3 * length c + length (high c)
unfolding high
texts_le [] h = omega arith
texts_le (l ∷ c) h = go (ltb l.variable one_digit) refl (texts_le c h.1)
  where
    t : length (literals_text (l ∷ c)) ≡ length (sign_bytes l.positive) + length (decimal (l.variable + 1)) + 1 + length (literals_text c)
    t = length-append (literal_text l.positive (l.variable + 1)) (literals_text c) ∙ ap (λ (k : ℕ). k + length (literals_text c)) (text_sum l.positive (l.variable + 1))

    go : (x : Bool) → ltb l.variable one_digit ≡ x → length (literals_text c) ≤ 3 * length c + length (high c)
        → length (literals_text (l ∷ c)) ≤ 3 * suc (length c) + length (cond x (high c) (record { variable = l.variable - one_digit; positive = l.positive } ∷ high c))
    go true e k =
        let f = ltb-true l.variable one_digit e in
        omega (arith, t, sign_le l.positive, decimal-length 0 (l.variable + 1) (omega arith))
    go false e k =
        let b = h.0 in
        omega (arith, t, sign_le l.positive, decimal-length 1 (l.variable + 1) (omega arith))

-- the line of a clause is no longer than the longest
line_le : {n : ℕ} (c : List Literal) → n ≤ max_variables → ClauseOver n c → length (clause_line c) ≤ longest_line
line_le {n} c h o =
    let below = below_most c h o.below in
    let over : ClauseOver (max_variables - one_digit) (high c) = record { below = high_below (max_variables - one_digit) c below; once = high_once c o.once } in
    omega (arith, ap length (line_texts c), length-append (literals_text c) (digit_zero ∷ line_feed ∷ []), texts_le c below, clause_le o, clause_le over)

-- ---- the text

-- nor are the lines of clauses, each
lines_le : {n : ℕ} (cs : List (List Literal)) → n ≤ max_variables → Every (ClauseOver n) cs → length (clause_lines cs) ≤ length cs * longest_line
unfolding clause_lines
lines_le [] h k = omega arith
lines_le (c ∷ cs) h k = omega (arith, length-append (clause_line c) (clause_lines cs), line_le c h k.0, lines_le cs h k.1)

-- the text of a formula within the limits is no longer than the longest
pub text_le : {n : ℕ} {cs : List (List Literal)} → Sized n cs → length (text_of n cs) ≤ longest_text
unfolding text_of
text_le {n} {cs} z =
    let a = z.most in
    let b = z.few in
    omega (
      arith,
      length-append (opening_line n (length cs)) (clause_lines cs),
      numbers-length 1 1 n (length cs) (omega arith) (omega arith),
      lines_le cs z.most z.clauses,
    )

-- so a writer with the room asked for has room for the text of an accepted input
pub accepted_readable : {s : List ℕ} {f : Formula} {w : Writer} → Accepts s f → RoomFor text_room w → Readable s f.variables (length f.clauses.items) w
accepted_readable a h = rw (a.formula, length-map a.clauses clause_of) (record {
  clauses = a.clauses;
  reads = a.reads;
  all = refl;
  room = omega (arith, text_le a.sized);
})

-- ---- the longest text

-- the clause that names each variable below n as false
all_false : ℕ → List Literal
all_false zero = []
all_false (suc n) = record { variable = n; positive = false } ∷ all_false n

-- over n variables or more
all_false_below : (n m : ℕ) → n ≤ m → Every (λ l. l.variable < m) (all_false n)
unfolding all_false
all_false_below zero m h = tt
all_false_below (suc n) m h = (h, all_false_below n m (omega arith))

-- for the most it is a clause
all_false_over : ClauseOver max_variables (all_false max_variables)
unfolding all_false distinct names
all_false_over = record { below = all_false_below max_variables max_variables (omega arith); once = refl }

-- with the longest line
all_false_line : length (clause_line (all_false max_variables)) ≡ longest_line
unfolding all_false decimal decimal_within
all_false_line = refl

-- a line so many times
repeat_lines : (k : ℕ) (c : List Literal) → length (clause_lines (replicate k c)) ≡ k * length (clause_line c)
unfolding clause_lines
repeat_lines zero c = omega arith
repeat_lines (suc k) c = omega (arith, length-append (clause_line c) (clause_lines (replicate k c)), repeat_lines k c)

-- the most clauses, each of which names the most variables as false
pub longest : List (List Literal)
longest = replicate max_clauses (all_false max_variables)

-- are a formula within the limits
pub longest_sized : Sized max_variables longest
unfolding longest
longest_sized =
    record {
      some = omega arith;
      most = omega arith;
      few = omega (arith, length-replicate max_clauses (all_false max_variables));
      clauses = every_replicate (ClauseOver max_variables) max_clauses (all_false max_variables) all_false_over;
    }

-- and have the longest text
pub longest_length : length (text_of max_variables longest) ≡ longest_text
unfolding longest text_of decimal decimal_within
longest_length =
    omega (
      arith,
      length-append (opening_line max_variables (length longest)) (clause_lines longest),
      ap (λ (m : ℕ). length (opening_line max_variables m)) (length-replicate max_clauses (all_false max_variables)) ∙ opening_most,
      repeat_lines max_clauses (all_false max_variables),
      all_false_line,
    )
  where
    opening_most : length (opening_line max_variables max_clauses) ≡ max_opening
    opening_most = refl
