-- The bound in `records` is never what stops it.
use Prim.Native.Nat.{ℕ, zero, suc, ◌-◌, ◌≤◌, ◌<◌}
use mathlib.Core.Bool.{Bool, true, false, cond}
use mathlib.Core.List.{List, [], ◌∷◌}
use mathlib.Core.Path.{◌≡◌, refl}
use native.Mathlib.Omega.{arith}
use lib.Dec.{ltb}
use lib.ListN.{length}
use Rattle.limits.specs.Limits.{max_variables, max_clauses}
use Rattle.formula.specs.Format.{has_complement}
use Rattle.formula.specs.InnerDecode.{Kind, variable_count, literal, clause_end, formula_end, unknown, kind_of, known, allowed, one_to, Reading, Step, next, stop, after_kind, read_record, records}
use Rattle.formula.specs.Decoding.{Decoding}
use Rattle.formula.proofs.DecodeLaws.{gives_next, gives_stop}

-- where reading goes on, fewer bytes than those of s are left
data Shorter (s : List ℕ) : Step → Type 0 where
  fewer : {r : Reading} {s' : List ℕ} → length s' < length s → Shorter s (next r s')
  stops : {d : Decoding} → Shorter s (stop d)

by_test : {s : List ℕ} {x y : Step} (t : Bool) → Shorter s x → Shorter s y → Shorter s (cond t x y)
by_test true p q = p
by_test false p q = q

module _ (len : ℕ) (r : Reading) where
  kind_shorter : (b : ℕ) (k : Kind) (s : List ℕ) → Shorter (b ∷ s) (after_kind len r k s)
  kind_shorter b variable_count [] = stops
  kind_shorter b variable_count (n ∷ s) = by_test (one_to max_variables n) (fewer (omega arith)) stops
  kind_shorter b (literal sign) [] = stops
  kind_shorter b (literal sign) (v ∷ s) = by_test (one_to r.variables v) (by_test (has_complement r.current (record { variable = v - 1; positive = sign })) stops (fewer (omega arith))) stops
  kind_shorter b clause_end s = by_test (ltb (length r.ended) max_clauses) (fewer (omega arith)) stops
  kind_shorter b formula_end [] = stops
  kind_shorter b formula_end (x ∷ s) = stops
  kind_shorter b unknown s = stops

  record_shorter : (s : List ℕ) → Shorter s (read_record len r s)
  unfolding read_record
  record_shorter [] = stops
  record_shorter (b ∷ s) = by_test (known (kind_of b)) (by_test (allowed r (kind_of b)) (kind_shorter b (kind_of b) s) stops) stops

-- two bounds that are at least the bytes that are left
records_same : (j k len : ℕ) (r : Reading) (s : List ℕ) → length s ≤ j → length s ≤ k → records j len r s ≡ records k len r s
unfolding records read_record
records_same zero zero len r s a b = refl
records_same zero (suc k) len r [] a b = refl
records_same zero (suc k) len r (x ∷ s) a b = absurd (omega arith)
records_same (suc j) zero len r [] a b = refl
records_same (suc j) zero len r (x ∷ s) a b = absurd (omega arith)
records_same (suc j) (suc k) len r s a b =
    go (read_record len r s) (record_shorter len r s) (λ r' s' h. records_same j k len r' s' (omega arith) (omega arith))
  where
    go : (x : Step) → Shorter s x → ((r' : Reading) (s' : List ℕ) → length s' < length s → records j len r' s' ≡ records k len r' s')
        → ◌≡◌ {A = Decoding} (elim x [ next r' s' ↦ records j len r' s' | stop d ↦ d ]) (elim x [ next r' s' ↦ records k len r' s' | stop d ↦ d ])
    go (next r' s') (fewer h) again = again r' s' h
    go (stop d) stops again = refl

-- S3.2: the bound in the definition of `records` is never what stops it. Wherever reading stands and s is left, any larger bound gives
-- the same,
pub records_unbounded : (len : ℕ) (r : Reading) (s : List ℕ) (k : ℕ) → length s ≤ k → records k len r s ≡ records (length s) len r s
records_unbounded len r s k h = records_same k (length s) len r s h (omega arith)

-- a record after which reading goes on is followed by the next
pub records_next : (len : ℕ) (r r' : Reading) (s s' : List ℕ) → read_record len r s ≡ next r' s' → records (length s) len r s ≡ records (length s') len r' s'
records_next len r r' s s' e =
    (gives_next e (less (rw e at (record_shorter len r s))) (record { runs = λ k h. records_same k (length s') len r' s' h (omega arith) })).runs (length s) (omega arith)
  where
    less : Shorter s (next r' s') → length s' < length s
    less (fewer h) = h

-- and one that stops it gives what it stops with
pub records_stop : (len : ℕ) (r : Reading) (s : List ℕ) (d : Decoding) → read_record len r s ≡ stop d → records (length s) len r s ≡ d
records_stop len r s d e = (gives_stop e).runs (length s) (omega arith)
