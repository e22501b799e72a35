-- Laws of the choice at a node: the variable is new, an open value keeps the invariant, a closed one cannot be had, and the cost.
use Prim.Native.Nat.{ℕ, suc, ◌*◌, ◌≤◌, ◌<◌}
use mathlib.Core.Path.{◌≡◌, refl, sym, ◌∙◌, subst}
use mathlib.Core.Bool.{Bool, true, false, not}
use mathlib.Core.List.Memᴰ
use mathlib.Core.List.Sublistᴰ
use mathlib.Core.List.{List, [], ◌∷◌, map, Sublistᴰ}
use native.Mathlib.Nat.{mul-le-mul_right}
use native.Mathlib.Omega.{arith}
use lib.ListN.{length}
use borrow.Author.Tests.{not-true, not-false}
use Rattle.lists.proofs.TestLaws.{bool_clash}
use Rattle.lists.proofs.SublistLaws.{sub_within}
use Rattle.masks.specs.Mask.{size}
use Rattle.matching.specs.InnerMatched.{Matched}
use Rattle.formula.specs.Format.{Literal}
use Rattle.formula.specs.Masked.{variables}
use Rattle.splitting.specs.Nodes.{assign, named, lowest_with}
use Rattle.splitting.specs.Stripping.{stripped}
use Rattle.splitting.specs.Choosing.{trial, first_passing, candidates, among, listed, last, emptied, last_listed, by_left, by_remaining}
use Rattle.splitting.specs.Terms.{Below, NonePure, Sound, Covers, opened}
use Rattle.splitting.proofs.ModelLaws.{Satisfies}
use Rattle.splitting.proofs.ClauseLaws.{named_by, named_within}
use Rattle.splitting.proofs.SearchLaws.{lowest_found}
use Rattle.splitting.proofs.StrippingLaws.{left_sub, left_none_pure}
use Rattle.splitting.proofs.MatchedLaws.{splits}
use Rattle.splitting.proofs.SoundLaws.{none_sound, left_sound, noted_some, last_of, last-named, last_none, emptied_unsatisfied}
use Rattle.splitting.proofs.TrialLaws.{passes_matched, matched_passes, candidates-named, named-candidates, candidates-length, first_passes, first_open, first_cost}

-- ── Something is left ────────────────────────────────────────────────────────────────────────────────────────────────

-- Over matched clauses with no pure variable some candidate passes, and the first that does is the choice.
pub left_chosen : (n : ℕ) (left : List (List Literal)) (e : ℕ) → n ≤ 64 → Below n left → NonePure left → Matched (map variables left) → 0 < length left
    → (among (candidates n left) (first_passing left (candidates n left) e).variable ≡ true)
    × ((trial left (first_passing left (candidates n left) e).variable).passes ≡ true)
left_chosen n left e fits low np M some =
    let w = splits left M some np in
    first_passes left (candidates n left) e w.0 (named-candidates n left low w.0 w.1) (matched_passes n left w.0 fits low w.2)

module _ (n : ℕ) (ds : List (List Literal)) (fits : n ≤ 64) (low : Below n ds) where
  pub left_below : Below n (stripped n ds).left
  left_below v t = low v (named_within (stripped n ds).left ds v (sub_within (left_sub n ds)) t)

  -- what is left of a sound list, not nothing, as left_chosen wants it
  left_passes : Sound n ds → (c : List Literal) (left : List (List Literal)) → (stripped n ds).left ≡ c ∷ left
      → (among (candidates n (c ∷ left)) (first_passing (c ∷ left) (candidates n (c ∷ left)) 0).variable ≡ true)
      × ((trial (c ∷ left) (first_passing (c ∷ left) (candidates n (c ∷ left)) 0).variable).passes ≡ true)
  left_passes S c left e =
      left_chosen n (c ∷ left) 0 fits (subst (Below n) e left_below) (subst NonePure e (left_none_pure n ds low))
      (subst (λ (l : List (List Literal)). Matched (map variables l)) e S) (omega arith)

  -- the chosen variable is named in what is left, and both values keep the invariant
  left_named : Sound n ds → (c : List Literal) (left : List (List Literal)) → (stripped n ds).left ≡ c ∷ left
      → named (stripped n ds).left (first_passing (c ∷ left) (candidates n (c ∷ left)) 0).variable ≡ true
  left_named S c left e =
      rw e (candidates-named n (c ∷ left) (first_passing (c ∷ left) (candidates n (c ∷ left)) 0).variable (left_passes S c left e).0)

  left_keeps_sound : Sound n ds → (c : List Literal) (left : List (List Literal)) → (stripped n ds).left ≡ c ∷ left
      → (b : Bool) → Sound n (assign (first_passing (c ∷ left) (candidates n (c ∷ left)) 0).variable b ds)
  left_keeps_sound S c left e b =
      let v = (first_passing (c ∷ left) (candidates n (c ∷ left)) 0).variable in
      left_sound n v b ds low (left_named S c left e)
      (rw e (passes_matched n (c ∷ left) v fits (subst (Below n) e left_below) (left_passes S c left e).1 b))

-- ── Nothing is left, or no clause remains ────────────────────────────────────────────────────────────────────────────

-- a value of the last listed is open unless it empties a clause
listed_open : (cs : List (List Literal)) (v : ℕ) (b : Bool) → opened (last_listed cs v) b ≡ not (emptied (assign v b cs))
unfolding last_listed
listed_open cs v false = refl
listed_open cs v true = refl

-- where no clause remains none remains after an assignment
none_remain : (n v : ℕ) (b : Bool) → Sound n (assign v b [])
unfolding assign
none_remain n v b = none_sound n [] (Sublistᴰ.eq-nil (left_sub n []))

-- ── All three cases ──────────────────────────────────────────────────────────────────────────────────────────────────

-- the chosen variable is free and below n, where a free one is and the named ones are
pub chosen_free : (n : ℕ) (free : ℕ → Bool) (ds : List (List Literal)) → n ≤ 64 → Below n ds → Sound n ds
    → ((v : ℕ) → named ds v ≡ true → free v ≡ true) → (v : ℕ) × (v < n) × (free v ≡ true)
    → ((by_remaining n free ds).variable < n) × (free (by_remaining n free ds).variable ≡ true)
unfolding last_listed
chosen_free n free [] fits low S names_free w = lowest_found free n w.0 w.1 w.2
chosen_free n free (c ∷ cs) fits low S names_free w = go (stripped n (c ∷ cs)).left refl
  where
    ok : (v : ℕ) → named (c ∷ cs) v ≡ true → (v < n) × (free v ≡ true)
    ok v h = (low v h, names_free v h)

    go : (left : List (List Literal)) → (stripped n (c ∷ cs)).left ≡ left
        → ((by_left n (c ∷ cs) (stripped n (c ∷ cs)).noted left).variable < n) × (free (by_left n (c ∷ cs) (stripped n (c ∷ cs)).noted left).variable ≡ true)
    go [] e =
        let y = noted_some n (c ∷ cs) e c (Memᴰ.head refl) in
        ok (last (listed n (c ∷ cs) (stripped n (c ∷ cs)).noted))
        (last-named n (c ∷ cs) low y.0 (named_by (c ∷ cs) c y.0 (Memᴰ.head refl) y.2))
    go (k ∷ left) e =
        let v = (first_passing (k ∷ left) (candidates n (k ∷ left)) 0).variable in
        ok v (named_within (stripped n (c ∷ cs)).left (c ∷ cs) v (sub_within (left_sub n (c ∷ cs))) (left_named n (c ∷ cs) fits low S k left e))

-- an open value keeps the invariant
pub chosen_open : (n : ℕ) (free : ℕ → Bool) (ds : List (List Literal)) → n ≤ 64 → Below n ds → Sound n ds
    → (b : Bool) → opened (by_remaining n free ds) b ≡ true → Sound n (assign (by_remaining n free ds).variable b ds)
unfolding last_listed
chosen_open n free [] fits low S b o = none_remain n (lowest_with free n) b
chosen_open n free (c ∷ cs) fits low S b o = go (stripped n (c ∷ cs)).left refl b o
  where
    go : (left : List (List Literal)) → (stripped n (c ∷ cs)).left ≡ left → (b : Bool) → opened (by_left n (c ∷ cs) (stripped n (c ∷ cs)).noted left) b ≡ true
        → Sound n (assign (by_left n (c ∷ cs) (stripped n (c ∷ cs)).noted left).variable b (c ∷ cs))
    go [] e b o =
        let v = last (listed n (c ∷ cs) (stripped n (c ∷ cs)).noted) in
        none_sound n (assign v b (c ∷ cs)) (last_none n v b (c ∷ cs) low e (last_of n (c ∷ cs) low) (not-true _ (sym (listed_open (c ∷ cs) v b) ∙ o)))
    go (k ∷ left) e b o = left_keeps_sound n (c ∷ cs) fits low S k left e b

-- nothing that satisfies the clauses has a closed value
pub chosen_closed : (n : ℕ) (free : ℕ → Bool) (ds : List (List Literal))
    → (b : Bool) → opened (by_remaining n free ds) b ≡ false → (a : ℕ → Bool) → Satisfies a ds → a (by_remaining n free ds).variable ≡ b → ⊥
unfolding last_listed
chosen_closed n free [] false o a sat e = bool_clash refl o
chosen_closed n free [] true o a sat e = bool_clash refl o
chosen_closed n free (c ∷ cs) b o a sat e = go (stripped n (c ∷ cs)).left b o e
  where
    go : (left : List (List Literal)) (b : Bool) → opened (by_left n (c ∷ cs) (stripped n (c ∷ cs)).noted left) b ≡ false
        → a (by_left n (c ∷ cs) (stripped n (c ∷ cs)).noted left).variable ≡ b → ⊥
    go [] b o e =
        let v = last (listed n (c ∷ cs) (stripped n (c ∷ cs)).noted) in
        emptied_unsatisfied v b (c ∷ cs) (not-false _ (sym (listed_open (c ∷ cs) v b) ∙ o)) a sat e
    go (k ∷ left) false o e = bool_clash (first_open (k ∷ left) (candidates n (k ∷ left)) 0).0 o
    go (k ∷ left) true o e = bool_clash (first_open (k ∷ left) (candidates n (k ∷ left)) 0).1 o

-- a trial of two matchings for each variable of the mask at most, over the clauses that stripping leaves
pub chosen_cost : (n m scope : ℕ) (free : ℕ → Bool) (ds : List (List Literal)) → n ≤ 64 → Below n ds → Covers scope ds → length (stripped n ds).left ≤ m
    → (by_remaining n free ds).expansions ≤ size scope * (m * suc m)
unfolding last_listed
chosen_cost n m scope free [] fits low covers few = omega arith
chosen_cost n m scope free (c ∷ cs) fits low covers few = go (stripped n (c ∷ cs)).left refl
  where
    go : (left : List (List Literal)) → (stripped n (c ∷ cs)).left ≡ left
        → (by_left n (c ∷ cs) (stripped n (c ∷ cs)).noted left).expansions ≤ size scope * (m * suc m)
    go [] e = omega arith
    go (k ∷ left) e =
        let s = subst (λ (l : List (List Literal)). Sublistᴰ l (c ∷ cs)) e (left_sub n (c ∷ cs)) in
        let within : (v : ℕ) → named (k ∷ left) v ≡ true → named (c ∷ cs) v ≡ true = λ v t. named_within (k ∷ left) (c ∷ cs) v (sub_within s) t in
        let q = first_cost n m (k ∷ left) (candidates n (k ∷ left)) 0 fits (λ v t. low v (within v t)) (rw e at few) in
        let p = mul-le-mul_right (m * suc m) (candidates-length n scope (k ∷ left) fits (λ v t. covers v (within v t))) in
        omega arith
