-- Laws of matched lists of clauses: sub-lists, how many they are, assignments, the splitting theorem, and the model that a matching gives.
use Prim.Native.Nat.{ℕ, ◌≤◌, ◌<◌}
use mathlib.Core.Path.{◌≡◌, refl, sym, ◌∙◌, ap, subst}
use mathlib.Core.Bool.{Bool, true, false, not, cond}
use mathlib.Core.List.{List, [], ◌∷◌, map, Sublistᴰ}
use mathlib.Core.Logic.{⊎_elim}
use native.Mathlib.Omega.{arith}
use lib.ListN.{length, get_or, length-map, get_or-map}
use lib.Dec.{ltb}
use borrow.Author.Tests.{ltb-true, lt-ltb}
use Rattle.lists.specs.Tabulated.{tabulated}
use Rattle.lists.proofs.TestLaws.{both_signs, bool_cases, bool_clash}
use Rattle.lists.proofs.SublistLaws.{get_or_element, element_place, sub_map}
use Rattle.lists.proofs.TabulatedLaws.{length_tabulated, get_or_tabulated}
use Rattle.masks.specs.Mask.{bit}
use Rattle.matching.specs.InnerMatched.{Matches, Matched}
use Rattle.matching.proofs.Counting.{count_all, pigeon}
use Rattle.matching.proofs.Theorems.{sub_list_matched}
use Rattle.formula.specs.Format.{Literal, names, names_as}
use Rattle.formula.specs.Masked.{variables}
use Rattle.formula.proofs.ClauseLaws.{named_as, variables-bit}
use Rattle.splitting.specs.Nodes.{less, assign, named}
use Rattle.splitting.specs.Terms.{Below, NonePure}
use Rattle.splitting.proofs.ClauseLaws.{names_some, less_other, occurs_some, occurs_in, named_in, named_by, other_way}
use Rattle.splitting.proofs.CoreLaws.{Core, core, turn}

-- ── Sub-lists ────────────────────────────────────────────────────────────────────────────────────────────────────────

-- a sub-list of matched clauses is matched
pub sub_matched : {ds cs : List (List Literal)} → Sublistᴰ ds cs → Matched (map variables cs) → Matched (map variables ds)
sub_matched s M = sub_list_matched (sub_map variables s) M

-- ── Matchings by position ────────────────────────────────────────────────────────────────────────────────────────────

-- the clause at a position
abbrev pub at : List (List Literal) → ℕ → List Literal
at cs i = get_or cs i []

-- and its mask
pub variables-at : (cs : List (List Literal)) (i : ℕ) → get_or (map variables cs) i 0 ≡ variables (at cs i)
unfolding variables
variables-at cs i = get_or-map variables cs i []

-- each clause names its variable
pub matches_names : (cs : List (List Literal)) (vs : List ℕ) → Matches (map variables cs) vs → (i : ℕ) → i < length cs → names (at cs i) (get_or vs i 0) ≡ true
matches_names cs vs M i l =
    sym (variables-bit (at cs i) (get_or vs i 0)) ∙ (let h = length-map cs variables in rw (variables-at cs i) at (M.named i (omega arith)))

matches_apart : (cs : List (List Literal)) (vs : List ℕ) → Matches (map variables cs) vs
    → (i j : ℕ) → i < length cs → j < length cs → get_or vs i 0 ≡ get_or vs j 0 → i ≡ j
matches_apart cs vs M i j l k = let h = length-map cs variables in M.distinct i j (omega arith) (omega arith)

-- matched clauses over variables below n are at most n
pub matched_few : (n : ℕ) (cs : List (List Literal)) → Below n cs → Matched (map variables cs) → length cs ≤ n
matched_few n cs low w =
    let v : ℕ → ℕ = λ i. get_or w.0 i 0 in
    let k = pigeon (λ _. true) (length cs) (λ _. true) n v
    (λ i l _. (low (v i) (named_by cs (at cs i) (v i) (get_or_element cs i [] l) (matches_names cs w.0 w.1 i l)), refl))
    (λ i j l m _ _. matches_apart cs w.0 w.1 i j l m) in
    omega (arith, count_all (length cs), count_all n)

matches_of : (cs : List (List Literal)) (m : ℕ → ℕ) → ((i : ℕ) → i < length cs → names (at cs i) (m i) ≡ true)
    → ((i j : ℕ) → i < length cs → j < length cs → m i ≡ m j → i ≡ j) → Matches (map variables cs) (tabulated m (length cs))
matches_of cs m nm apart =
    let h = length-map cs variables in
    let n = length cs in
    record {
      one_each = length_tabulated m n ∙ sym h;
      named = λ i l.
          rw (variables-at cs i, get_or_tabulated m n i 0 (omega arith), variables-bit (at cs i) (m i)) (nm i (omega arith));
      distinct = λ i j l k e.
          apart i j (omega arith) (omega arith) (sym (get_or_tabulated m n i 0 (omega arith)) ∙ e ∙ get_or_tabulated m n j 0 (omega arith));
    }

-- ── A matching that gives x to a clause that x = s satisfies serves where x gets the value s ─────────────────────────

-- the variables of a clause that x = s satisfies, and of another less x
part : ℕ → Bool → List Literal → ℕ
part x s c = cond (names_as c x s) (variables c) (variables (less x c))

part_sub : (x : ℕ) (s : Bool) (cs : List (List Literal)) → Sublistᴰ (map variables (assign x s cs)) (map (part x s) cs)
unfolding assign part
part_sub x s [] = Sublistᴰ.slnil
part_sub x s (c ∷ cs) = go (names_as c x s) (part_sub x s cs)
  where
    go : (b : Bool) → Sublistᴰ (map variables (assign x s cs)) (map (part x s) cs)
        → Sublistᴰ (map variables (cond b (assign x s cs) (less x c ∷ assign x s cs))) (cond b (variables c) (variables (less x c)) ∷ map (part x s) cs)
    go true r = Sublistᴰ.cons r
    go false r = Sublistᴰ.cons-cons refl r

part_at : (x : ℕ) (s : Bool) (cs : List (List Literal)) (i : ℕ) → get_or (map (part x s) cs) i 0 ≡ part x s (at cs i)
unfolding variables part less names_as
part_at x s cs i = get_or-map (part x s) cs i []

part_bit : (x : ℕ) (s : Bool) (c : List Literal) (v : ℕ) → names c v ≡ true → (v ≡ x → names_as c x s ≡ true) → bit (part x s c) v ≡ true
unfolding part
part_bit x s c v t same = go (names_as c x s) refl
  where
    go : (b : Bool) → names_as c x s ≡ b → bit (cond b (variables c) (variables (less x c))) v ≡ true
    go true e = variables-bit c v ∙ t
    go false e =
        let w = names_some c v t in
        variables-bit (less x c) v ∙ named_as (less x c) v w.0 (less_other x c v w.0 (λ q. bool_clash (same q) e) ∙ w.1)

assigned_matched : (cs : List (List Literal)) (vs : List ℕ) (i x : ℕ) (s : Bool) → Matches (map variables cs) vs
    → i < length cs → get_or vs i 0 ≡ x → names_as (at cs i) x s ≡ true → Matched (map variables (assign x s cs))
assigned_matched cs vs i x s M l is sat =
    let h = length-map cs variables in
    let k = length-map cs (part x s) in
    sub_list_matched (part_sub x s cs) (
      vs,
      record {
        one_each = M.one_each ∙ h ∙ sym k;
        named = λ j u.
            rw (part_at x s cs j)
            (part_bit x s (at cs j) (get_or vs j 0) (matches_names cs vs M j (omega arith))
            (λ e. subst (λ p. names_as (at cs p) x s ≡ true) (matches_apart cs vs M i j l (omega arith) (is ∙ sym e)) sat));
        distinct = λ j p u w. M.distinct j p (omega arith) (omega arith);
      },
    )

-- ── The splitting theorem (theorem 5.9 of the source) ────────────────────────────────────────────────────────────────

-- clause j has the variable of clause i the other way
abbrev Turns : List (List Literal) → (ℕ → ℕ) → ℕ → ℕ → Type 0
Turns cs m i j = (j < length cs) × (s : Bool) × (names_as (at cs i) (m i) s ≡ true) × (names_as (at cs j) (m i) (not s) ≡ true)

turning : (cs : List (List Literal)) (m : ℕ → ℕ) → NonePure cs → ((i : ℕ) → i < length cs → names (at cs i) (m i) ≡ true)
    → (q : ℕ → ℕ) × ((i : ℕ) → i < length cs → Turns cs m i (q i))
turning cs m np nm = (λ i. (pick i).0, λ i. (pick i).1)
  where
    found : (i : ℕ) → i < length cs → (j : ℕ) × Turns cs m i j
    found i l =
        let w = names_some (at cs i) (m i) (nm i l) in
        let o = other_way cs (m i) (np (m i)) w.0 (not w.0) (occurs_in cs (at cs i) (m i) w.0 (get_or_element cs i [] l) w.1) in
        let c = occurs_some cs (m i) (not w.0) o in
        let p = element_place cs c.0 [] c.1 in
        (p.0, (p.1, w.0, w.1, subst (λ (d : List Literal). names_as d (m i) (not w.0) ≡ true) (sym p.2) c.2))

    pick : (i : ℕ) → (j : ℕ) × (i < length cs → Turns cs m i j)
    pick i =
        ⊎_elim
        (λ t. let w = found i (ltb-true i (length cs) t) in (w.0, λ _. w.1))
        (λ e. (i, λ l. bool_clash (lt-ltb i (length cs) l) e))
        (bool_cases (ltb i (length cs)))

-- the matching turned along the core
module _ (cs : List (List Literal)) (m : ℕ → ℕ) (nm : (i : ℕ) → i < length cs → names (at cs i) (m i) ≡ true)
    (apart : (i j : ℕ) → i < length cs → j < length cs → m i ≡ m j → i ≡ j)
    (q : ℕ → ℕ) (turns : (i : ℕ) → i < length cs → Turns cs m i (q i)) (K : Core q (length cs)) where
  back : ℕ → ℕ
  back j = (turn q (length cs) K j).0

  back_in : (j : ℕ) → K.In j ≡ true → (K.In (back j) ≡ true) × (q (back j) ≡ j) × (j ≡ q K.some → back j ≡ K.some)
  unfolding back
  back_in j = (turn q (length cs) K j).1.0

  back_out : (j : ℕ) → K.In j ≡ false → back j ≡ j
  unfolding back
  back_out j = (turn q (length cs) K j).1.1

  back_low : (j : ℕ) → j < length cs → back j < length cs
  back_low j l = ⊎_elim (λ t. K.low (back j) (back_in j t).0) (λ f. rw (back_out j f) l) (bool_cases (K.In j))

  back_apart : (i j : ℕ) → back i ≡ back j → i ≡ j
  back_apart i j e =
      ⊎_elim
      (λ t. ⊎_elim
      (λ u. sym (back_in i t).1 ∙ ap q e ∙ (back_in j u).1)
      (λ g. bool_clash (back_in i t).0 (rw (e, back_out j g) g))
      (bool_cases (K.In j)))
      (λ f. ⊎_elim
      (λ u. bool_clash (back_in j u).0 (rw (← e, back_out i f) f))
      (λ g. sym (back_out i f) ∙ e ∙ back_out j g)
      (bool_cases (K.In j)))
      (bool_cases (K.In i))

  turned : Matches (map variables cs) (tabulated (λ j. m (back j)) (length cs))
  turned =
      matches_of cs (λ j. m (back j))
      (λ j l.
      ⊎_elim
      (λ t.
      let w = turns (back j) (K.low (back j) (back_in j t).0) in
      subst (λ k. names (at cs k) (m (back j)) ≡ true) (back_in j t).1 (named_as (at cs (q (back j))) (m (back j)) (not w.1) w.3))
      (λ f. rw (back_out j f) (nm j l))
      (bool_cases (K.In j)))
      (λ i j l k e. back_apart i j (apart (back i) (back j) (back_low i l) (back_low j k) e))

-- Matched clauses, not none of them, and no variable pure: some variable can get both values.
pub splits : (cs : List (List Literal)) → Matched (map variables cs) → 0 < length cs → NonePure cs
    → (v : ℕ) × (named cs v ≡ true) × ((b : Bool) → Matched (map variables (assign v b cs)))
splits cs (vs, M) some np =
    let n = length cs in
    let m : ℕ → ℕ = λ i. get_or vs i 0 in
    let nm : (i : ℕ) → i < n → names (at cs i) (m i) ≡ true = matches_names cs vs M in
    let apart : (i j : ℕ) → i < n → j < n → m i ≡ m j → i ≡ j = matches_apart cs vs M in
    let w = turning cs m np nm in
    let q = w.0 in
    let turns = w.1 in
    let K = core q n (λ i l. (turns i l).0) some in
    let z = K.some in
    let z_low = K.low z K.some_in in
    let t = turns z z_low in
    let home : m (back cs m nm apart q turns K (q z)) ≡ m z = ap m ((back_in cs m nm apart q turns K (q z) (K.fwd z K.some_in)).2 refl) in (
      m z,
      named_in cs (m z) t.1 (occurs_in cs (at cs z) (m z) t.1 (get_or_element cs z [] z_low) t.2),
      both_signs (λ b. Matched (map variables (assign (m z) b cs))) t.1
          (assigned_matched cs vs z (m z) t.1 M z_low refl t.2)
          (assigned_matched cs (tabulated (λ j. m (back cs m nm apart q turns K j)) n) (q z) (m z) (not t.1) (turned cs m nm apart q turns K) t.0
          (get_or_tabulated (λ j. m (back cs m nm apart q turns K j)) n (q z) 0 t.0 ∙ home) t.3),
    )
