-- Bytes are those of one list of written clauses at most: a literal begins with kind 2 or 3, and its byte says which variable.
use Prim.Native.Nat.{ℕ, ◌+◌}
use mathlib.Core.Bool.{Bool}
use mathlib.Core.List.{List, [], ◌∷◌, ◌++◌, append_assoc}
use mathlib.Core.Path.{◌≡◌, refl, sym, ap, ◌∙◌}
use native.Mathlib.Omega.{arith}
use Rattle.formula.specs.Format.{Literal, literal_kind, literal_bytes, literals_bytes, clause_bytes, clauses_bytes, formula_bytes}
use Rattle.formula.proofs.KindLaws.{kind_low, kind_sign}

-- a literal is its variable and its sign
literal_same : (l k : Literal) → l.variable ≡ k.variable → l.positive ≡ k.positive → l ≡ k
literal_same l k a b =
    ap (λ (v : ℕ). record { variable = v; positive = l.positive }) a ∙ ap (λ (p : Bool). record { variable = k.variable; positive = p }) b

-- the bytes of literals and of kind 4 behind them tell the literals
literals_one : (w v : List Literal) (s t : List ℕ) → literals_bytes w ++ (4 ∷ s) ≡ literals_bytes v ++ (4 ∷ t) → (w ≡ v) × (s ≡ t)
unfolding literals_bytes literal_bytes
literals_one [] [] s t e = (refl, cc)
literals_one [] (l ∷ v) s t e = let q : 4 ≡ literal_kind l.positive = cc in absurd (omega (arith, kind_low l.positive))
literals_one (l ∷ w) [] s t e = let q : literal_kind l.positive ≡ 4 = cc in absurd (omega (arith, kind_low l.positive))
literals_one (l ∷ w) (k ∷ v) s t e =
    let a = kind_sign l.positive k.positive cc in
    let b : l.variable + 1 ≡ k.variable + 1 = cc in
    let c : l.variable ≡ k.variable = omega arith in
    let d = literal_same l k c a in
    let r : literals_bytes w ++ (4 ∷ s) ≡ literals_bytes v ++ (4 ∷ t) = cc in
    let i = literals_one w v s t r in
    (rw (d, i.0), i.1)

-- no clause begins with kind 5
not_five : (w : List Literal) (s : List ℕ) → 5 ∷ [] ≡ literals_bytes w ++ (4 ∷ s) → ⊥
unfolding literals_bytes literal_bytes
not_five [] s e = let q : ◌≡◌ {A = ℕ} 5 4 = cc in omega arith
not_five (l ∷ w) s e = let q : 5 ≡ literal_kind l.positive = cc in omega (arith, kind_low l.positive)

-- those of clauses and of kind 5 the clauses
clauses_one : (ws vs : List (List Literal)) → clauses_bytes ws ++ (5 ∷ []) ≡ clauses_bytes vs ++ (5 ∷ []) → ws ≡ vs
unfolding clauses_bytes clause_bytes
clauses_one [] [] e = refl
clauses_one [] (v ∷ vs) e = absurd (not_five v _ (simp append_assoc at e))
clauses_one (w ∷ ws) [] e = absurd (not_five w _ (simp append_assoc at (sym e)))
clauses_one (w ∷ ws) (v ∷ vs) e =
    let r : literals_bytes w ++ (4 ∷ (clauses_bytes ws ++ (5 ∷ []))) ≡ literals_bytes v ++ (4 ∷ (clauses_bytes vs ++ (5 ∷ []))) = simp append_assoc at e in
    let i = literals_one w v (clauses_bytes ws ++ (5 ∷ [])) (clauses_bytes vs ++ (5 ∷ [])) r in
    rw (i.0, clauses_one ws vs i.1)

-- and those of a formula its number of variables and its clauses
pub formula_one : (n k : ℕ) (ws vs : List (List Literal)) → formula_bytes n ws ≡ formula_bytes k vs → (n ≡ k) × (ws ≡ vs)
unfolding formula_bytes
formula_one n k ws vs e = let r : clauses_bytes ws ++ (5 ∷ []) ≡ clauses_bytes vs ++ (5 ∷ []) = cc in (cc, clauses_one ws vs r)
