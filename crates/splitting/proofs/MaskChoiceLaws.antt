-- The choice over masks, and stripping on the way to it, are those over lists of literals.
use Prim.Native.Nat.{ℕ, zero, suc, ◌+◌, ◌-◌, ◌≤◌, ◌<◌}
use mathlib.Core.Path.{◌≡◌, refl, sym, ◌∙◌, ap, ap₂, subst}
use mathlib.Core.Bool.{Bool, true, false, not, cond, ◌&&◌, ◌||◌, or_assoc, or-false}
use mathlib.Core.List.{List, [], ◌∷◌, ◌++◌, map, append-nil, Memᴰ}
use mathlib.Core.Logic.{⊎_elim}
use native.Mathlib.Omega.{arith}
use lib.Bits.{bit_or, bit_xor}
use lib.Dec.{eqb}
use lib.ListN.{length, length-map}
use borrow.Author.Tests.{eqb-true, eqb-false}
use Rattle.lists.proofs.TestLaws.{and_left, or_left, eqb_comm, bool_cases, bool_clash}
use Rattle.masks.specs.Mask.{bit, with, minus, members}
use Rattle.masks.specs.InnerMask.{lowest}
use Rattle.masks.proofs.MembersLaws.{some_member, member_some, members-none}
use Rattle.masks.proofs.BitLaws.{bit-with, bit-minus, bit-none}
use Rattle.matching.proofs.Counting.{zero_or_pos}
use Rattle.matching.specs.Search.{Outcome, outcome, succeeds, expansions}
use Rattle.formula.specs.declared.Clause.{Clause}
use Rattle.formula.specs.declared.Formula.{Formula}
use Rattle.formula.specs.Format.{Literal, names, names_as}
use Rattle.formula.specs.InnerMasked.{clause_of, formula_of}
use Rattle.formula.specs.InnerFits.{clause_variables}
use Rattle.formula.proofs.FormatLaws.{names-append, names_either, clause_more}
use Rattle.formula.specs.declared.assignment.Assignment.{Assignment}
use Rattle.splitting.specs.declared.Choice.{Choice}
use Rattle.splitting.specs.declared.clauses.Reduced.{Reduced}
use Rattle.splitting.specs.declared.clauses.Survey.{Survey}
use Rattle.splitting.specs.declared.clauses.Trial.{Trial}
use Rattle.splitting.specs.Nodes as nodes
use Rattle.splitting.specs.Nodes.{assign, remaining, satisfied_by, occurs, lowest_with, upward}
use Rattle.splitting.specs.Stripping.{pure, not_naming, Stripped, note, strip, stripped}
use Rattle.splitting.specs.Choosing as choosing
use Rattle.splitting.specs.Choosing.{matching_of, trial, both_open, first_passing, occurrences, by_count, candidates, among, listed, last, last_listed, by_left, by_remaining, unassigned_of, choice}
use Rattle.formula.specs.InnerAssignment.{assigned, set_to}
use Rattle.splitting.specs.InnerChoose.{node, survey_from, survey_of, matched_node, reduced_at, pure_of, reduce_from, reduced, noted_from, tried, passing, busiest_first, greatest, listed_last, others_of, mask_choice, assignment_of}
use Rattle.splitting.specs.Terms.{Below, Trail}
use Rattle.splitting.proofs.ClauseLaws.{occurs_in, pure-named}
use Rattle.splitting.proofs.NodeLaws.{remaining_snoc, named-remaining, below_remaining}
use Rattle.splitting.proofs.SearchLaws.{lowest_some, among_here, among_more, upward_in, last-append}
use Rattle.splitting.proofs.OrderLaws.{by_count_wide, occurrences-named}
use Rattle.splitting.proofs.TrialLaws.{candidates-named}
use Rattle.splitting.proofs.Theorems.{last_listed-named}
use Rattle.splitting.proofs.TurnLaws.{strip_next, strip_end}
use Rattle.splitting.proofs.ReduceLaws.{noted_done, noted_turn}
use Rattle.splitting.proofs.SatisfiedLaws.{less_all, less_all_other, remaining_in, satisfied_snoc}
use Rattle.splitting.proofs.MaskNodeLaws.{node_masks, assignment_more, assigned_trail}
use Rattle.splitting.proofs.MaskSearchLaws.{lowest_empty, lowest_member, members_upward}
use Rattle.splitting.proofs.MaskClauseLaws.{occurs-bit, named-bit, pure-bit, occurrences_masks, any_some, sets_variables, empty_emptied, assign_drops, pure_way}

-- ---- one trial, by its two outcomes

-- a choice by a test
abbrev pick : Bool → Choice → Choice → Choice
pick b x y = elim b [ true ↦ x | false ↦ y ]

-- the trials of both kinds, where a test decides
by_test_masks : (b : Bool) (p q : Outcome) → Trial
by_test_masks b p q =
    elim b [ true ↦ record { passes = succeeds q; cost = expansions p + expansions q } | false ↦ record { passes = false; cost = expansions p } ]

by_test_lists : (b : Bool) (p q : Outcome) → choosing.Trial
by_test_lists b p q =
    elim b [ true ↦ record { passes = succeeds q; cost = expansions p + expansions q } | false ↦ record { passes = false; cost = expansions p } ]

same_test : (b : Bool) (p q : Outcome) → ((by_test_masks b p q).passes ≡ (by_test_lists b p q).passes) × ((by_test_masks b p q).cost ≡ (by_test_lists b p q).cost)
unfolding by_test_masks by_test_lists
same_test true p q = (refl, refl)
same_test false p q = (refl, refl)

tried_is : (f : Formula) (a : Assignment) (v : ℕ)
    → tried f a v ≡ by_test_masks (succeeds (matched_node f (set_to a v false))) (matched_node f (set_to a v false)) (matched_node f (set_to a v true))
unfolding tried by_test_masks
tried_is f a v = refl

trial_is : (cs : List (List Literal)) (v : ℕ) → trial cs v ≡ by_test_lists (succeeds (matching_of (assign v false cs))) (matching_of (assign v false cs)) (matching_of (assign v true cs))
unfolding trial by_test_lists
trial_is cs v = refl

among_nil : (v : ℕ) → among [] v ≡ false
unfolding among
among_nil v = refl

-- the last of a list, or v
last_or : ℕ → List ℕ → ℕ
last_or v [] = v
last_or v (x ∷ l) = last_or x l

last_more : (x : ℕ) (l : List ℕ) → last (x ∷ l) ≡ last_or x l
unfolding last last_or
last_more x [] = refl
last_more x (y ∷ l) = last_more y l

last_from : (l : List ℕ) → last l ≡ last_or 0 l
unfolding last last_or
last_from [] = refl
last_from (x ∷ l) = last_more x l

-- the last of a list and then of the variables of a mask, upward
last_mask : (n m : ℕ) (g : ℕ → Bool) → n ≤ 64 → ((v : ℕ) → bit m v ≡ g v) → ((v : ℕ) → g v ≡ true → v < n) → (l : List ℕ) (x : ℕ) → x ≡ last_or 0 l
    → cond (eqb m 0) x (greatest m) ≡ last (l ++ upward g n)
last_mask n m g fits same low l x e = go (eqb m 0) refl
  where
    up : members m 64 ≡ upward g n
    up = members_upward n m g fits same low

    more : (m ≡ 0 → ⊥) → (r : List ℕ) → upward g n ≡ r → last r ≡ last (l ++ r)
    more ne [] q = let w = some_member m ne in bool_clash (upward_in g n w.0 (low w.0 (sym (same w.0) ∙ w.1)) (sym (same w.0) ∙ w.1)) (rw q (among_nil w.0))
    more ne (y ∷ r) q = sym (last-append l y r)

    go : (b : Bool) → eqb m 0 ≡ b → cond b x (greatest m) ≡ last (l ++ upward g n)
    go true q =
        let none : upward g n ≡ [] = sym up ∙ members-none m 64 (λ i _. ap (λ (k : ℕ). bit k i) (eqb-true m 0 q) ∙ bit-none i) in
        e ∙ sym (last_from l) ∙ ap last (sym (append-nil l) ∙ ap (λ (r : List ℕ). l ++ r) (sym none))
    go false q = ap last up ∙ more (eqb-false m 0 q) (upward g n) refl

-- ---- what stripping drops

-- the clause names one of the variables
unfoldable pub names_any : List ℕ → List Literal → Bool
names_any [] c = false
names_any (v ∷ vs) c = names c v || names_any vs c

-- one literal more: naming its variable this way is naming it, wherever the clause was not satisfied before
drop_more : (s x y z : Bool) → (s ≡ false → x ≡ y) → (s || x) || z ≡ s || (y || z)
drop_more true x y z e = refl
drop_more false x y z e = rw (e refl)

-- Stripping at the node of t, over masks: it assigns a trail, t and the noted variables.
pub record StripsTo (n : ℕ) (cs : List (List Literal)) (t : List Literal) : Type 0 where
  pub trail : List Literal
  pub is_trail : Trail n trail
  pub assigns : (reduced (formula_of n cs) (assignment_of t)).assignment ≡ assignment_of trail
  pub left : remaining trail cs ≡ (stripped n (remaining t cs)).left
  pub noted : noted_from n (formula_of n cs) (assignment_of t) ≡ (stripped n (remaining t cs)).noted
  pub keeps : (v : ℕ) → names t v ≡ true → names trail v ≡ true
  pub adds : (v : ℕ) → names trail v ≡ true → names t v ≡ false → among (stripped n (remaining t cs)).noted v ≡ true
  -- of the formula's clauses it satisfies those that t satisfies, and of the others those that name a noted variable
  pub drops : (c : List Literal) → Memᴰ c cs → satisfied_by trail c ≡ satisfied_by t c || names_any (stripped n (remaining t cs)).noted c

-- ---- one node

-- A formula of clauses over n variables, and a trail over them. The node over masks has the clauses that remain.
module _ (n : ℕ) (cs : List (List Literal)) (fits : n ≤ 64) (low : Below n cs) where
  abbrev f : Formula
  f = formula_of n cs

  -- a literal more
  more : (t : List Literal) (v : ℕ) (b : Bool) → List Literal
  more t v b = t ++ (record { variable = v; positive = b } ∷ [])

  node_of : (t : List Literal) → Trail n t → node f (assignment_of t) ≡ map clause_of (remaining t cs)
  node_of t w = node_masks n cs t w.once

  -- v gets the value b at the node
  node_more : (t : List Literal) (v : ℕ) (b : Bool) → Trail n t → v < n → names t v ≡ false
      → node f (set_to (assignment_of t) v b) ≡ map clause_of (assign v b (remaining t cs))
  node_more t v b w l e =
      let k : Literal = record { variable = v; positive = b } in
      ap (node f) (sym (assignment_more t k))
      ∙ node_of (t ++ (k ∷ [])) (clause_more k w l e)
      ∙ ap (map clause_of) (remaining_snoc t k cs)

  -- ---- trials

  matched_more : (t : List Literal) (v : ℕ) (b : Bool) → Trail n t → v < n → names t v ≡ false → matched_node f (set_to (assignment_of t) v b) ≡ matching_of (assign v b (remaining t cs))
  unfolding matching_of
  matched_more t v b w l e = ap (λ (d : List Clause). outcome (map clause_variables d)) (node_more t v b w l e) ∙ ap outcome (sets_variables (assign v b (remaining t cs)))

  tried_same : (t : List Literal) (v : ℕ) → Trail n t → v < n → names t v ≡ false
      → ((tried f (assignment_of t) v).passes ≡ (trial (remaining t cs) v).passes) × ((tried f (assignment_of t) v).cost ≡ (trial (remaining t cs) v).cost)
  tried_same t v w l e =
      rw (tried_is f (assignment_of t) v, matched_more t v false w l e, matched_more t v true w l e, trial_is (remaining t cs) v)
      (same_test (succeeds (matching_of (assign v false (remaining t cs)))) (matching_of (assign v false (remaining t cs))) (matching_of (assign v true (remaining t cs))))

  -- the variables that are tried are below n and not assigned
  passing_first : (t : List Literal) → Trail n t → (vs : List ℕ) (e : ℕ) → ((v : ℕ) → among vs v ≡ true → (v < n) × (names t v ≡ false))
      → passing f (assignment_of t) vs e ≡ first_passing (remaining t cs) vs e
  unfolding passing first_passing
  passing_first t w [] e new = refl
  passing_first t w (v ∷ vs) e new =
      let k = new v (among_here v vs) in
      let same = tried_same t v w k.0 k.1 in
      ap₂ (λ (b : Bool) (c : ℕ). pick b (both_open v (e + c)) (passing f (assignment_of t) vs (e + c))) same.0 same.1
      ∙ go (trial (remaining t cs) v).passes (both_open v (e + (trial (remaining t cs) v).cost)) (passing_first t w vs (e + (trial (remaining t cs) v).cost) (λ x h. new x (among_more x v vs h)))
    where
      go : (b : Bool) (x : Choice) {y z : Choice} → y ≡ z → pick b x y ≡ pick b x z
      go true x ih = refl
      go false x ih = ih

  -- ---- stripping

  below_node : (t : List Literal) → Below n (remaining t cs)
  below_node t = below_remaining n t cs low

  -- what reducing gives is what stripping gives, at the node of a trail with the noted variables
  record Reduces (t : List Literal) (k noted v : ℕ) (r : Reduced) : Type 0 where
    trail : List Literal
    is_trail : Trail n trail
    assigns : r.assignment ≡ assignment_of trail
    left : remaining trail cs ≡ (strip k n (remaining t cs)).left
    notes : (x : ℕ) → bit r.noted x ≡ bit noted x || among (strip k n (remaining t cs)).noted x
    last_noted : r.last ≡ last_or v (strip k n (remaining t cs)).noted
    surveyed : r.survey ≡ survey_of (map clause_of (strip k n (remaining t cs)).left)
    in_order : noted_from k f (assignment_of t) ≡ (strip k n (remaining t cs)).noted
    has : (x : ℕ) → names trail x ≡ names t x || among (strip k n (remaining t cs)).noted x
    drops : (c : List Literal) → Memᴰ c cs → satisfied_by trail c ≡ satisfied_by t c || names_any (strip k n (remaining t cs)).noted c

  -- nothing is pure: the same on both sides
  stops : (t : List Literal) (k noted v : ℕ) → Trail n t → strip k n (remaining t cs) ≡ record { noted = []; left = remaining t cs }
      → noted_from k f (assignment_of t) ≡ [] → Reduces t k noted v (reduced_at f (assignment_of t) noted v)
  unfolding among last_or names_any
  stops t k noted v w e d = record {
    trail = t;
    is_trail = w;
    assigns = refl;
    left = sym (ap (λ (s : Stripped). s.left) e);
    notes = λ x. rw e (sym (or-false (bit noted x)));
    last_noted = rw e;
    surveyed = ap survey_of (node_of t w) ∙ rw e;
    in_order = rw e d;
    has = λ x. rw e (sym (or-false (names t x)));
    drops = λ c _. rw e (sym (or-false (satisfied_by t c)));
  }

  -- the mask of the pure variables
  pure_mask : (t : List Literal) → Trail n t → (v : ℕ) → bit (pure_of f (assignment_of t)) v ≡ pure (remaining t cs) v
  pure_mask t w v = ap (λ (d : List Clause). bit (bit_xor (survey_of d).positive (survey_of d).negative) v) (node_of t w) ∙ pure-bit (remaining t cs) v

  pure_low : (t : List Literal) (v : ℕ) → pure (remaining t cs) v ≡ true → v < n
  pure_low t v h = below_node t v (pure-named (remaining t cs) v h)

  -- the lowest pure variable gets its way
  module _ (t : List Literal) (w : Trail n t) (e : pure_of f (assignment_of t) ≡ 0 → ⊥) where
    abbrev found : ℕ
    found = lowest (pure_of f (assignment_of t))

    abbrev way : Bool
    way = bit (survey_of (node f (assignment_of t))).positive (lowest (pure_of f (assignment_of t)))

    is_lowest : (lowest_with (pure (remaining t cs)) n < n) × (found ≡ lowest_with (pure (remaining t cs)) n)
    is_lowest = lowest_member n (pure_of f (assignment_of t)) (pure (remaining t cs)) fits (pure_mask t w) (pure_low t) e

    is_pure : pure (remaining t cs) found ≡ true
    is_pure = ap (pure (remaining t cs)) is_lowest.1 ∙ lowest_some (pure (remaining t cs)) n is_lowest.0

    is_way : way ≡ occurs (remaining t cs) found true
    is_way = ap (λ (d : List Clause). bit (survey_of d).positive found) (node_of t w) ∙ occurs-bit (remaining t cs) true found

    is_new : names t found ≡ false
    is_new = (named-remaining t cs found (pure-named (remaining t cs) found is_pure)).1

    found_low : found < n
    found_low = pure_low t found is_pure

    -- the trail with it
    abbrev next : List Literal
    next = t ++ (record { variable = found; positive = way } ∷ [])

    next_trail : Trail n next
    next_trail = clause_more (record { variable = found; positive = way }) w found_low is_new

    next_left : remaining next cs ≡ not_naming (lowest_with (pure (remaining t cs)) n) (remaining t cs)
    next_left =
        remaining_snoc t (record { variable = found; positive = way }) cs
        ∙ ap (λ (b : Bool). assign found b (remaining t cs)) is_way
        ∙ assign_drops found (occurs (remaining t cs) found true) (remaining t cs) (pure_way (remaining t cs) found is_pure)
        ∙ ap (λ (v : ℕ). not_naming v (remaining t cs)) is_lowest.1

    stripped_more : (k : ℕ) → strip (suc k) n (remaining t cs) ≡ note found (strip k n (remaining next cs))
    stripped_more k =
        strip_next k n (remaining t cs) is_lowest.0
        ∙ ap (λ (d : List (List Literal)). note (lowest_with (pure (remaining t cs)) n) (strip k n d)) (sym next_left)
        ∙ ap (λ (v : ℕ). note v (strip k n (remaining next cs))) (sym is_lowest.1)

    -- a clause that t does not satisfy names it this way, or not at all
    one_way : (c : List Literal) → Memᴰ c cs → satisfied_by t c ≡ false → names_as c found way ≡ names c found
    one_way c m s =
        let d = less_all t c in
        let off : occurs (remaining t cs) found (not way) ≡ false =
        ap (λ (b : Bool). occurs (remaining t cs) found (not b)) is_way ∙ pure_way (remaining t cs) found is_pure in
        let none : names_as c found (not way) ≡ false =
        ⊎_elim
        (λ (h : names_as d found (not way) ≡ true). bool_clash (occurs_in (remaining t cs) d found (not way) (remaining_in t c cs w.once m s) h) off)
        (λ (h : names_as d found (not way) ≡ false). sym (less_all_other t c found (not way) is_new) ∙ h)
        (bool_cases (names_as d found (not way))) in
        sym (or-false (names_as c found way)) ∙ ap (λ (b : Bool). names_as c found way || b) (sym none) ∙ sym (names_either c found way)

    reduces_more : (k noted v : ℕ) (r : Reduced) → Reduces next k (with noted found) found r → Reduces t (suc k) noted v r
    unfolding among last_or names names_any
    reduces_more k noted v r h = record {
      trail = h.trail;
      is_trail = h.is_trail;
      assigns = h.assigns;
      left = h.left ∙ ap (λ (s : Stripped). s.left) (sym (stripped_more k));
      notes = λ x.
          h.notes x
          ∙ ap (λ (b : Bool). b || among (strip k n (remaining next cs)).noted x) (bit-with noted found x ∙ ap (λ (b : Bool). bit noted x || b) (eqb_comm x found))
          ∙ or_assoc (bit noted x) (eqb found x) (among (strip k n (remaining next cs)).noted x)
          ∙ ap (λ (s : Stripped). bit noted x || among s.noted x) (sym (stripped_more k));
      last_noted = h.last_noted ∙ ap (λ (s : Stripped). last_or v s.noted) (sym (stripped_more k));
      surveyed = h.surveyed ∙ ap (λ (s : Stripped). survey_of (map clause_of s.left)) (sym (stripped_more k));
      in_order =
          noted_turn f (assignment_of t) k e
          ∙ ap (λ (a : Assignment). found ∷ noted_from k f a) (sym (assignment_more t (record { variable = found; positive = way })))
          ∙ ap (λ (l : List ℕ). found ∷ l) h.in_order
          ∙ ap (λ (s : Stripped). s.noted) (sym (stripped_more k));
      has = λ x.
          h.has x
          ∙ ap (λ (b : Bool). b || among (strip k n (remaining next cs)).noted x)
          (names-append t (record { variable = found; positive = way } ∷ []) x ∙ ap (λ (b : Bool). names t x || b) (or-false (eqb found x)))
          ∙ or_assoc (names t x) (eqb found x) (among (strip k n (remaining next cs)).noted x)
          ∙ ap (λ (s : Stripped). names t x || among s.noted x) (sym (stripped_more k));
      drops = λ c m.
          h.drops c m
          ∙ ap (λ (b : Bool). b || names_any (strip k n (remaining next cs)).noted c) (satisfied_snoc t (record { variable = found; positive = way }) c)
          ∙ drop_more (satisfied_by t c) (names_as c found way) (names c found) (names_any (strip k n (remaining next cs)).noted c) (one_way c m)
          ∙ ap (λ (s : Stripped). satisfied_by t c || names_any s.noted c) (sym (stripped_more k));
    }

  reduces : (k : ℕ) (t : List Literal) (noted v : ℕ) → Trail n t → Reduces t k noted v (reduce_from k f (assignment_of t) noted v)
  unfolding reduce_from strip noted_from
  reduces zero t noted v w = stops t 0 noted v w refl refl
  reduces (suc k) t noted v w = go (λ s m x u. reduces k s m x u) (eqb (pure_of f (assignment_of t)) 0) refl
    where
      go : ((s : List Literal) (m x : ℕ) → Trail n s → Reduces s k m x (reduce_from k f (assignment_of s) m x)) → (b : Bool) → eqb (pure_of f (assignment_of t)) 0 ≡ b
          → Reduces t (suc k) noted v (elim b as (λ _. Reduced) [
            | true ↦ reduced_at f (assignment_of t) noted v
            | false ↦ reduce_from k f
                (set_to (assignment_of t) (lowest (pure_of f (assignment_of t))) (bit (survey_of (node f (assignment_of t))).positive (lowest (pure_of f (assignment_of t)))))
                (with noted (lowest (pure_of f (assignment_of t))))
                (lowest (pure_of f (assignment_of t)))
          ])
      go ih true e =
          stops t (suc k) noted v w
          (strip_end (suc k) n (remaining t cs) (lowest_empty n (pure_of f (assignment_of t)) (pure (remaining t cs)) fits (pure_mask t w) (pure_low t) (eqb-true (pure_of f (assignment_of t)) 0 e)))
          (noted_done f (assignment_of t) (suc k) (eqb-true (pure_of f (assignment_of t)) 0 e))
      go ih false e =
          let q = eqb-false (pure_of f (assignment_of t)) 0 e in
          reduces_more t w q k noted v _
          (subst (λ (a : Assignment). Reduces (next t w q) k (with noted (found t w q)) (found t w q) (reduce_from k f a (with noted (found t w q)) (found t w q)))
          (assignment_more t (record { variable = found t w q; positive = way t w q }))
          (ih (next t w q) (with noted (found t w q)) (found t w q) (next_trail t w q)))

  -- as many turns as variables
  pub strips_to : (t : List Literal) → Trail n t → StripsTo n cs t
  strips_to t w =
      let h = reduces n t 0 0 w in
      record {
        trail = h.trail;
        is_trail = h.is_trail;
        assigns = h.assigns;
        left = h.left;
        noted = h.in_order;
        keeps = λ v e. h.has v ∙ or_left (names t v) _ e;
        adds = λ v e f. sym (h.has v ∙ rw f) ∙ e;
        drops = h.drops;
      }

  -- ---- the three cases of the choice

  -- something is left
  candidates_masks : (left : List (List Literal)) → Below n left → busiest_first (map clause_of left) ≡ candidates n left
  unfolding candidates
  candidates_masks left low_left =
      let q : 64 ≡ n + (64 - n) = omega arith in
      let none : (v : ℕ) → n ≤ v → occurrences left v ≡ 0 = λ v l. ⊎_elim (λ e. e) (λ k. absurd (let b = low_left v (occurrences-named left v k) in omega arith)) (zero_or_pos (occurrences left v)) in
      ap₂ (λ (f : ℕ → ℕ) (k : ℕ). by_count f 64 k) (λ i v. occurrences_masks left v i) (length-map left clause_of)
      ∙ ap (λ (k : ℕ). by_count (occurrences left) k (length left)) q
      ∙ by_count_wide (occurrences left) n (64 - n) (length left) none

  when_left : (t : List Literal) → Trail n t → (r : Reduced) → Reduces t n 0 0 r
      → passing f r.assignment (busiest_first (node f r.assignment)) 0
      ≡ first_passing (stripped n (remaining t cs)).left (candidates n (stripped n (remaining t cs)).left) 0
  when_left t w r h =
      let left = (stripped n (remaining t cs)).left in
      let low_left : Below n left = λ v k. below_node h.trail v (rw h.left k) in
      let cands : busiest_first (node f (assignment_of h.trail)) ≡ candidates n left =
      ap busiest_first (node_of h.trail h.is_trail ∙ ap (map clause_of) h.left) ∙ candidates_masks left low_left in
      rw (h.assigns, cands)
      (passing_first h.trail h.is_trail (candidates n left) 0
      (λ v k. let u = candidates-named n left v k in (low_left v u, (named-remaining h.trail cs v (rw h.left u)).1))
      ∙ ap (λ (d : List (List Literal)). first_passing d (candidates n left) 0) h.left)

  -- nothing is left: the last of the list
  others_bit : (t : List Literal) → Trail n t → (v : ℕ)
      → bit (others_of f (assignment_of t)) v ≡ nodes.named (remaining t cs) v && not (among (stripped n (remaining t cs)).noted v)
  others_bit t w v =
      let h = reduces n t 0 0 w in
      let d = node f (assignment_of t) in
      let noted : bit (reduced f (assignment_of t)).noted v ≡ among (stripped n (remaining t cs)).noted v = h.notes v ∙ rw (bit-none v) in
      bit-minus (bit_or (survey_of d).positive (survey_of d).negative) (reduced f (assignment_of t)).noted v
      ∙ ap₂ (λ (x y : Bool). x && not y)
      (ap (λ (d : List Clause). bit (bit_or (survey_of d).positive (survey_of d).negative) v) (node_of t w) ∙ named-bit (remaining t cs) v)
      noted

  last_is : (t : List Literal) → Trail n t
      → cond (eqb (others_of f (assignment_of t)) 0) (reduced f (assignment_of t)).last (greatest (others_of f (assignment_of t)))
      ≡ last (listed n (remaining t cs) (stripped n (remaining t cs)).noted)
  unfolding listed
  last_is t w =
      last_mask n (others_of f (assignment_of t)) (λ v. nodes.named (remaining t cs) v && not (among (stripped n (remaining t cs)).noted v)) fits (others_bit t w)
      (λ v h. below_node t v (and_left (nodes.named (remaining t cs) v) (not (among (stripped n (remaining t cs)).noted v)) h))
      (stripped n (remaining t cs)).noted
      (reduced f (assignment_of t)).last
      (reduces n t 0 0 w).last_noted

  when_stripped : (t : List Literal) (v : ℕ) → Trail n t → v < n → names t v ≡ false → listed_last f (assignment_of t) v ≡ last_listed (remaining t cs) v
  unfolding listed_last last_listed
  when_stripped t v w l e =
      rw (node_more t v false w l e, node_more t v true w l e, empty_emptied (assign v false (remaining t cs)), empty_emptied (assign v true (remaining t cs)))

  -- no clause remains
  when_free : (t : List Literal) (scope : ℕ) → ((v : ℕ) → bit scope v ≡ true → v < n) → (v : ℕ) → unassigned_of scope t v ≡ true
      → lowest (minus scope (assigned (assignment_of t))) ≡ lowest_with (unassigned_of scope t) n
  when_free t scope inside v u =
      (lowest_member n (minus scope (assigned (assignment_of t))) (unassigned_of scope t) fits same (λ x h. inside x (and_left (bit scope x) (not (names t x)) h))
      (member_some (minus scope (assigned (assignment_of t))) v (same v ∙ u))).1
    where
      same : (x : ℕ) → bit (minus scope (assigned (assignment_of t))) x ≡ unassigned_of scope t x
      same x = bit-minus scope (assigned (assignment_of t)) x ∙ ap (λ (b : Bool). bit scope x && not b) (assigned_trail t x)

  -- The choice over masks is the choice over lists of literals, wherever a variable is left to assign.
  pub chosen_choice : (t : List Literal) (scope : ℕ) → Trail n t → ((v : ℕ) → bit scope v ≡ true → v < n) → (v : ℕ) → unassigned_of scope t v ≡ true
      → mask_choice f scope (assignment_of t) ≡ choice n scope cs t
  unfolding mask_choice choice survey_from
  chosen_choice t scope w inside v u = go (remaining t cs) refl
    where
      h : Reduces t n 0 0 (reduced f (assignment_of t))
      h = reduces n t 0 0 w

      any_of : (ds : List (List Literal)) → remaining t cs ≡ ds → (survey_of (node f (assignment_of t))).any ≡ (survey_of (map clause_of ds)).any
      any_of ds e = ap (λ (d : List Clause). (survey_of d).any) (node_of t w ∙ ap (map clause_of) e)

      left_any : (ds : List (List Literal)) → (stripped n (remaining t cs)).left ≡ ds → (reduced f (assignment_of t)).survey.any ≡ (survey_of (map clause_of ds)).any
      left_any ds e = ap (λ (s : Survey). s.any) h.surveyed ∙ ap (λ (d : List (List Literal)). (survey_of (map clause_of d)).any) e

      remains : (d : List Literal) (ds left : List (List Literal)) → remaining t cs ≡ d ∷ ds → (stripped n (remaining t cs)).left ≡ left
          → mask_choice f scope (assignment_of t) ≡ by_left n (remaining t cs) (stripped n (remaining t cs)).noted left
      remains d ds [] e q =
          let x = last (listed n (remaining t cs) (stripped n (remaining t cs)).noted) in
          let is : nodes.named (remaining t cs) x ≡ true = last_listed-named n (remaining t cs) (below_node t) (rw e (omega arith)) q in
          rw (any_of (d ∷ ds) e, any_some d ds, left_any [] q, last_is t w)
          (when_stripped t x w (below_node t x is) (named-remaining t cs x is).1)
      remains d ds (c ∷ left) e q =
          rw (any_of (d ∷ ds) e, any_some d ds, left_any (c ∷ left) q, any_some c left)
          (when_left t w (reduced f (assignment_of t)) h ∙ ap (λ (l : List (List Literal)). first_passing l (candidates n l) 0) q)

      go : (ds : List (List Literal)) → remaining t cs ≡ ds → mask_choice f scope (assignment_of t) ≡ by_remaining n (unassigned_of scope t) ds
      go [] e = rw (any_of [] e) (ap (λ (x : ℕ). both_open x 0) (when_free t scope inside v u))
      go (d ∷ ds) e =
          remains d ds (stripped n (remaining t cs)).left e refl
          ∙ ap (λ (l : List (List Literal)). by_left n l (stripped n l).noted (stripped n l).left) e
