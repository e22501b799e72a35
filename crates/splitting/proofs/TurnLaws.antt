-- One turn of stripping, for a loop: no bound on the turns is seen.
use Prim.Native.Nat.{ℕ, zero, suc, ◌≤◌, ◌<◌}
use mathlib.Core.Path.{◌≡◌, refl, sym, ◌∙◌, ap, subst}
use mathlib.Core.Bool.{Bool, true, false}
use mathlib.Core.List.{List, [], ◌∷◌, ◌++◌}
use mathlib.Core.Logic.{⊎_elim}
use native.Mathlib.Omega.{arith}
use lib.Dec.{ltb}
use borrow.Author.Tests.{ltb-true, ltb-false, lt-ltb, le-ltb}
use Rattle.lists.proofs.TestLaws.{bool_cases}
use Rattle.matching.proofs.Counting.{count}
use Rattle.formula.specs.Format.{Literal}
use Rattle.splitting.specs.Nodes.{named, lowest_with}
use Rattle.splitting.specs.Stripping.{pure, not_naming, Stripped, note, strip, stripped}
use Rattle.splitting.specs.Terms.{left_after}
use Rattle.splitting.proofs.CountLaws.{count_le}
use Rattle.splitting.proofs.SearchLaws.{lowest_some}
use Rattle.splitting.proofs.StrippingLaws.{falls}

-- the two outcomes of the test
abbrev turn : ℕ → ℕ → List (List Literal) → Bool → Stripped
turn k n cs b =
    elim b [
      | true ↦ note (lowest_with (pure cs) n) (strip k n (not_naming (lowest_with (pure cs) n) cs))
      | false ↦ record { noted = []; left = cs }
    ]

pub strip_next : (k n : ℕ) (cs : List (List Literal)) → lowest_with (pure cs) n < n
    → strip (suc k) n cs ≡ note (lowest_with (pure cs) n) (strip k n (not_naming (lowest_with (pure cs) n) cs))
unfolding strip
strip_next k n cs l = ap (turn k n cs) (lt-ltb (lowest_with (pure cs) n) n l)

pub strip_end : (k n : ℕ) (cs : List (List Literal)) → n ≤ lowest_with (pure cs) n → strip k n cs ≡ record { noted = []; left = cs }
unfolding strip
strip_end zero n cs l = refl
strip_end (suc k) n cs l = ap (turn k n cs) (le-ltb (lowest_with (pure cs) n) n l)

-- a turn drops a variable, so that one was named
fewer : (n : ℕ) (cs : List (List Literal)) → lowest_with (pure cs) n < n → count (named (not_naming (lowest_with (pure cs) n) cs)) n < count (named cs) n
fewer n cs l = falls n (lowest_with (pure cs) n) cs l (lowest_some (pure cs) n l)

-- no variable below n is named: nothing happens
bare : (j k n : ℕ) (cs : List (List Literal)) → count (named cs) n ≤ 0 → strip j n cs ≡ strip k n cs
bare j k n cs p =
    ⊎_elim
    (λ t. let f = fewer n cs (ltb-true (lowest_with (pure cs) n) n t) in absurd (omega arith))
    (λ f. let l = ltb-false (lowest_with (pure cs) n) n f in strip_end j n cs l ∙ sym (strip_end k n cs l))
    (bool_cases (ltb (lowest_with (pure cs) n) n))

-- as many turns as variables are named are enough
strip_enough : (j k n : ℕ) (cs : List (List Literal)) → count (named cs) n ≤ j → count (named cs) n ≤ k → strip j n cs ≡ strip k n cs
strip_enough zero k n cs p q = bare 0 k n cs p
strip_enough (suc j) zero n cs p q = bare (suc j) 0 n cs q
strip_enough (suc j) (suc k) n cs p q =
    ⊎_elim
    (λ t.
    let l = ltb-true (lowest_with (pure cs) n) n t in
    let f = fewer n cs l in
    strip_next j n cs l
    ∙ ap (note (lowest_with (pure cs) n)) (strip_enough j k n (not_naming (lowest_with (pure cs) n) cs) (omega arith) (omega arith))
    ∙ sym (strip_next k n cs l))
    (λ f. let l = ltb-false (lowest_with (pure cs) n) n f in strip_end (suc j) n cs l ∙ sym (strip_end (suc k) n cs l))
    (bool_cases (ltb (lowest_with (pure cs) n) n))

-- while some variable is pure, the lowest is noted and the clauses that name it are dropped
pub stripped_next : (n : ℕ) (cs : List (List Literal)) → lowest_with (pure cs) n < n
    → stripped n cs ≡ note (lowest_with (pure cs) n) (stripped n (not_naming (lowest_with (pure cs) n) cs))
stripped_next n cs l =
    let c = count_le (named cs) n in
    strip_enough n (suc n) n cs c (omega arith) ∙ strip_next n n cs l

-- and then it ends
pub stripped_end : (n : ℕ) (cs : List (List Literal)) → n ≤ lowest_with (pure cs) n → stripped n cs ≡ record { noted = []; left = cs }
stripped_end n cs l = strip_end n n cs l

-- the first noted variable is the lowest pure one, and the others are noted once it has dropped its clauses
noted_first : (n : ℕ) (cs : List (List Literal)) (v : ℕ) (l : List ℕ) → (stripped n cs).noted ≡ v ∷ l
    → (lowest_with (pure cs) n < n) × (lowest_with (pure cs) n ≡ v) × ((stripped n (not_naming v cs)).noted ≡ l)
noted_first n cs v l e =
    let x = lowest_with (pure cs) n in
    ⊎_elim
    (λ t.
    let k = ltb-true x n t in
    let q = sym (ap (λ (s : Stripped). s.noted) (stripped_next n cs k)) ∙ e in
    let same : x ≡ v = cc in
    (k, same, ap (λ (y : ℕ). (stripped n (not_naming y cs)).noted) (sym same) ∙ (cc)))
    (λ f.
    let q = sym (ap (λ (s : Stripped). s.noted) (stripped_end n cs (ltb-false x n f))) ∙ e in
    let z : ◌≡◌ {A = ℕ} 0 1 = cc in
    absurd (omega arith))
    (bool_cases (ltb x n))

-- each is so where those before it have dropped theirs
pub noted-pure : (n : ℕ) (cs : List (List Literal)) (before after : List ℕ) (v : ℕ) → (stripped n cs).noted ≡ before ++ (v ∷ after)
    → (lowest_with (pure (left_after before cs)) n ≡ v) × (v < n) × (pure (left_after before cs) v ≡ true)
unfolding left_after
noted-pure n cs [] after v e =
    let w = noted_first n cs v after e in
    (w.1, subst (λ y. y < n) w.1 w.0, subst (λ y. pure cs y ≡ true) w.1 (lowest_some (pure cs) n w.0))
noted-pure n cs (x ∷ before) after v e = noted-pure n (not_naming x cs) before after v (noted_first n cs x (before ++ (v ∷ after)) e).2
