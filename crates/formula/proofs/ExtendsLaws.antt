-- One record more: how a beginning of the grammar grows, and what each record carries back, a whole beginning carries back.
use Prim.Native.Nat.{ℕ, ◌+◌, ◌≤◌, ◌<◌}
use mathlib.Core.Bool.{false}
use mathlib.Core.List.{List, [], ◌∷◌, ◌++◌, append_assoc, append-nil}
use mathlib.Core.Path.{◌≡◌, refl, ap, ◌∙◌}
use native.Mathlib.Omega.{arith}
use lib.ListN.{length, length-append}
use lib.Seq.{append_snoc}
use Rattle.limits.specs.Limits.{max_variables, max_clauses}
use Rattle.lists.specs.Every.{Every}
use Rattle.formula.specs.Format.{Literal, literal_bytes, literals_bytes, clause_bytes, clauses_bytes, formula_bytes, has_complement, WrittenOver}
use Rattle.formula.specs.Table.{Beginning, nothing, inside, written, Begins}
use Rattle.formula.proofs.ClauseLaws.{OneWay}
use Rattle.formula.proofs.FormatLaws.{literals_append, clauses_append}
use Rattle.formula.proofs.RepeatLaws.{complement_absent, written_none, written_more, written_sized_more}

-- a formula is a beginning with no open clause, then kind 5
pub formula_written : (n : ℕ) (ws : List (List Literal)) → written (inside n ws []) ++ (5 ∷ []) ≡ formula_bytes n ws
unfolding formula_bytes literals_bytes
formula_written n ws = rw (append-nil (clauses_bytes ws))

-- a record takes one beginning to the next: kind 1, a literal, or the end of a clause
pub data Extends : Beginning → List ℕ → Beginning → Type 0 where
  count : (n : ℕ) → 1 ≤ n → n ≤ max_variables → Extends nothing (1 ∷ n ∷ []) (inside n [] [])
  literal : {n : ℕ} {ws : List (List Literal)} {w : List Literal} (l : Literal) → l.variable < n → has_complement w l ≡ false
      → Extends (inside n ws w) (literal_bytes l) (inside n ws (w ++ (l ∷ [])))
  clause_end : {n : ℕ} {ws : List (List Literal)} {w : List Literal} → length ws < max_clauses → Extends (inside n ws w) (4 ∷ []) (inside n (ws ++ (w ∷ [])) [])

-- it leads from a beginning of the grammar to another
pub extends_begins : {b b' : Beginning} {x : List ℕ} → Extends b x b' → Begins b → Begins b'
extends_begins (count n h k) g = (record { some = h; most = k; few = omega arith; clauses = tt }, written_none)
extends_begins (literal l h k) g = (g.0, written_more l g.1 h k)
extends_begins (clause_end h) g = (written_sized_more g.0 g.1 h, written_none)

-- it is written after the beginning
pub extends_written : {b b' : Beginning} {x : List ℕ} → Extends b x b' → written b' ≡ written b ++ x
unfolding clauses_bytes clause_bytes literals_bytes
extends_written (count n h k) = refl
extends_written (literal {n} {ws} {w} l h k) = rw (literals_append w (l ∷ []), append-nil, append_assoc)
extends_written (clause_end {n} {ws} {w} h) = simp (clauses_append, append-nil, append_assoc)

-- so the beginning is longer by its bytes
pub extends_length : {b b' : Beginning} {x : List ℕ} → Extends b x b' → length (written b') ≡ length (written b) + length x
extends_length {b} {b'} {x} e = ap length (extends_written e) ∙ length-append (written b) x

-- it has a byte at least
pub extends_longer : {b b' : Beginning} {x : List ℕ} → Extends b x b' → 1 ≤ length x
unfolding literal_bytes
extends_longer (count n h k) = omega arith
extends_longer (literal l h k) = omega arith
extends_longer (clause_end h) = omega arith

-- P holds of a beginning and the bytes behind it, and each record carries it back
module _ (P : Beginning → List ℕ → Type 0) (back : (b b' : Beginning) (x s : List ℕ) → Begins b → Extends b x b' → P b' s → P b (x ++ s)) where
  -- the literals d of a clause that has w carry it back
  literals_back : {n : ℕ} {ws : List (List Literal)} {s : List ℕ} (w d : List Literal) → Begins (inside n ws w) → Every (λ l. l.variable < n) d
      → OneWay (w ++ d) → P (inside n ws (w ++ d)) s → P (inside n ws w) (literals_bytes d ++ s)
  unfolding literals_bytes
  literals_back w [] g h o p = rw append-nil at p
  literals_back {n} {ws} {s} w (l ∷ d) g h o p =
      let x : Extends (inside n ws w) (literal_bytes l) (inside n ws (w ++ (l ∷ []))) = literal l h.0 (complement_absent w l d o) in
      rw append_assoc (back (inside n ws w) (inside n ws (w ++ (l ∷ []))) (literal_bytes l) (literals_bytes d ++ s) g x (literals_back (w ++ (l ∷ [])) d (extends_begins x g) h.1 (λ v. rw append_snoc (o v)) (rw append_snoc p)))

  -- and so do whole clauses
  clauses_back : {n : ℕ} {s : List ℕ} (ws vs : List (List Literal)) → Begins (inside n ws []) → Every (WrittenOver n) vs → length (ws ++ vs) ≤ max_clauses
      → P (inside n (ws ++ vs) []) s → P (inside n ws []) (clauses_bytes vs ++ s)
  unfolding clauses_bytes clause_bytes
  clauses_back ws [] g h l p = rw append-nil at p
  clauses_back {n} {s} ws (w ∷ vs) g h l p =
      let m : length ws < max_clauses = omega (arith, length-append ws (w ∷ vs)) in
      let x : Extends (inside n ws w) (4 ∷ []) (inside n (ws ++ (w ∷ [])) []) = clause_end m in
      let c : Begins (inside n ws w) = (g.0, h.0) in
      simp append_assoc
      (literals_back [] w g h.0.below h.0.one_way
      (back (inside n ws w) (inside n (ws ++ (w ∷ [])) []) (4 ∷ []) (clauses_bytes vs ++ s) c x (clauses_back (ws ++ (w ∷ [])) vs (extends_begins x c) h.1 (rw append_snoc l) (rw append_snoc p))))

  -- and a whole beginning
  pub beginning_back : {s : List ℕ} (b : Beginning) → Begins b → P b s → P nothing (written b ++ s)
  beginning_back nothing g p = p
  beginning_back {s} (inside n ws w) g p =
      let x : Extends nothing (1 ∷ n ∷ []) (inside n [] []) = count n g.0.some g.0.most in
      simp append_assoc
      (back nothing (inside n [] []) (1 ∷ n ∷ []) (clauses_bytes ws ++ (literals_bytes w ++ s)) tt x
      (clauses_back [] ws (extends_begins x tt) g.0.clauses g.0.few
      (literals_back [] w (g.0, written_none) g.1.below g.1.one_way p)))
