-- Trials over masks, and the masks of what is left to try.
use Prim.Native.Nat.{ℕ, ◌+◌, ◌-◌, ◌^◌, ◌≤◌, ◌<◌}
use mathlib.Core.Bool.{Bool, true, false, not, ◌&&◌}
use mathlib.Core.List.{List, [], ◌∷◌}
use mathlib.Core.Logic.{⊎_elim}
use mathlib.Core.Path.{◌≡◌, refl, sym, ap, ap₂, ◌∙◌}
use native.Mathlib.Decide.{ℕ_discrete}
use native.Mathlib.Omega.{arith}
use lib.Dec.{eqb, ltb}
use lib.ListN.{length}
use borrow.Author.Tests.{lt-ltb, ltb-true}
use Rattle.lists.proofs.TabulatedLaws.{length_tabulated}
use Rattle.lists.proofs.TestLaws.{and_left, bool_cases, bool_clash}
use Rattle.masks.specs.Mask.{bit, size}
use Rattle.masks.specs.InnerMask.{without}
use Rattle.masks.proofs.BitLaws.{minus_lt, bit-none, bit_below, bit-without, bit-without-same}
use Rattle.std.specs.Result.{is_ok}
use Rattle.matching.specs.declared.Matching.{Matching}
use Rattle.matching.specs.Search.{succeeds}
use Rattle.matching.proofs.ResultLaws.{packed-found, packed-expansions}
use Rattle.formula.specs.declared.Formula.{Formula}
use Rattle.formula.specs.declared.assignment.Assignment.{Assignment}
use Rattle.splitting.specs.declared.clauses.Clauses.{Clauses}
use Rattle.splitting.specs.declared.clauses.Trial.{Trial}
use Rattle.splitting.specs.declared.counts.Counts.{Counts}
use Rattle.splitting.specs.Choosing.{both_open, by_count, among}
use Rattle.splitting.specs.Terms.{Ordered}
use Rattle.formula.specs.InnerAssignment.{set_to}
use Rattle.splitting.specs.InnerChoose.{node, clause_in, clauses_of, Small, matched_node, matching_at, tried, passing, occurrences_in, busiest_first, count_at, max_count, Busiest}
use Rattle.splitting.proofs.CountLaws.{count_le, count_drop, size_count}
use Rattle.splitting.proofs.SearchLaws.{among_here, among_cases, among_none}
use Rattle.splitting.proofs.OrderLaws.{before_once, ordered_behind, by_count_of, by_count_in, by_count_ordered, by_count_length, by_count_high, counted_to}
use Rattle.splitting.proofs.CounterLaws.{count_below, occurrences_few}
use Rattle.splitting.proofs.NodeMatchingLaws.{node_cost}

-- ---- trials

module _ (f : Formula) (a : Assignment) (v : ℕ) where
  -- the matching with v false fails
  pub tried_false : (m : Matching) → m ≡ matching_at f (set_to a v false) → is_ok m.found ≡ false
      → ◌≡◌ {A = Trial} (record { passes = false; cost = m.expansions }) (tried f a v)
  unfolding tried
  tried_false m e h =
      let o = matched_node f (set_to a v false) in
      let n = length (node f (set_to a v false)) in
      let t : succeeds o ≡ false = sym (packed-found n o) ∙ ap (λ (x : Matching). is_ok x.found) (sym e) ∙ h in
      rw (e, packed-expansions, tried, t)

  -- it succeeds, and the one with v true decides
  pub tried_true : (m n : Matching) → m ≡ matching_at f (set_to a v false) → is_ok m.found ≡ true
      → n ≡ matching_at f (set_to a v true)
      → ◌≡◌ {A = Trial} (record { passes = is_ok n.found; cost = m.expansions + n.expansions }) (tried f a v)
  unfolding tried
  tried_true m n e h d =
      let o = matched_node f (set_to a v false) in
      let q = matched_node f (set_to a v true) in
      let t : succeeds o ≡ true = sym (packed-found (length (node f (set_to a v false))) o) ∙ ap (λ (x : Matching). is_ok x.found) (sym e) ∙ h in
      rw (
        e,
        d,
        packed-expansions (length (node f (set_to a v false))) o,
        packed-expansions (length (node f (set_to a v true))) q,
        packed-found (length (node f (set_to a v true))) q,
        tried,
        t,
      )

  -- a trial costs at most two matchings
  tried_cost : Small f → (tried f a v).cost ≤ 9312
  unfolding tried
  tried_cost fits = go (succeeds (matched_node f (set_to a v false))) refl
    where
      go : (b : Bool) → succeeds (matched_node f (set_to a v false)) ≡ b → (tried f a v).cost ≤ 9312
      go true e = rw (tried, e) (omega (arith, node_cost f fits (set_to a v false), node_cost f fits (set_to a v true)))
      go false e = rw (tried, e) (omega (arith, node_cost f fits (set_to a v false)))

-- the first of a list is tried
module _ (f : Formula) (a : Assignment) (l vs : List ℕ) (e v : ℕ) (t : Trial) (q : l ≡ v ∷ vs) (p : t ≡ tried f a v) where
  -- it passes
  pub passing_found : t.passes ≡ true → passing f a l e ≡ both_open v (e + t.cost)
  unfolding passing
  passing_found h = rw (q, passing, ← p, h, ← p)

  -- it does not
  pub passing_more : t.passes ≡ false → passing f a l e ≡ passing f a vs (e + t.cost)
  unfolding passing
  passing_more h = rw (q, passing, ← p, h, ← p)

pub trial_cost : (f : Formula) (a : Assignment) (v : ℕ) (t : Trial) → t ≡ tried f a v → Small f → t.cost ≤ 9312
trial_cost f a v t p fits = rw p (tried_cost f a v fits)

-- nothing is left to try
pub passing-none : (f : Formula) (a : Assignment) (e : ℕ) → passing f a [] e ≡ both_open 0 e
unfolding passing
passing-none f a e = refl

-- ---- a mask whose members are tried in order

-- the list has the members of the mask, in order
pub record Lists (f : ℕ → ℕ) (l : List ℕ) (m : ℕ) : Type 0 where
  pub ordered : Ordered f l
  pub members : (v : ℕ) → among l v ≡ bit m v

-- the first is the busiest member, and the others are the rest
pub lists_first : (f : ℕ → ℕ) (l : List ℕ) (m v : ℕ) → Lists f l m → Busiest f m v → (vs : List ℕ) × (l ≡ v ∷ vs) × Lists f vs (without m v)
lists_first f [] m v w b = among_none v (w.members v ∙ b.member)
lists_first f (x ∷ vs) m v w b = go (ℕ_discrete x v)
  where
    go : Dec (x ≡ v) → (us : List ℕ) × (x ∷ vs ≡ v ∷ us) × Lists f us (without m v)
    go (yes e) = (
      vs,
      ap (λ (y : ℕ). y ∷ vs) e,
      record {
        ordered = w.ordered.1;
        members = λ y. ordered_behind f x vs w.ordered y ∙ ap₂ (λ (b : Bool) (z : ℕ). b && not (eqb y z)) (w.members y) e ∙ sym (bit-without m v y);
      },
    )
    go (no q) =
        absurd
        (before_once f x v
        (⊎_elim (λ e. absurd (q (sym e))) (w.ordered.0 v) (among_cases v x vs (w.members v ∙ b.member)))
        (b.first x (sym (w.members x) ∙ among_here x vs) q))

-- an empty mask has none
pub lists_none : (f : ℕ → ℕ) (l : List ℕ) (m : ℕ) → Lists f l m → m ≡ 0 → l ≡ []
lists_none f [] m w e = refl
lists_none f (x ∷ l) m w e = bool_clash (among_here x l) (w.members x ∙ ap (λ (k : ℕ). bit k x) e ∙ bit-none x)

-- all that are counted, and how many they are at most
pub lists_counted : (c : Counts) (m : ℕ) → m < 2 ^ 64 → ((v : ℕ) → bit m v ≡ ltb 0 (count_at c v)) → Lists (count_at c) (by_count (count_at c) 64 max_count) m
lists_counted c m l h = record {
  ordered = by_count_ordered (count_at c) 64 max_count;
  members = λ v.
      ⊎_elim
      (λ t. t ∙ sym (h v ∙ lt-ltb 0 (count_at c v) (by_count_of (count_at c) 64 max_count v t).1))
      (λ t.
      ⊎_elim
      (λ u. bool_clash (by_count_in (count_at c) 64 max_count v (bit_below 64 v m l u) (ltb-true 0 (count_at c v) (sym (h v) ∙ u)) (let k : count_at c v < 2 ^ 7 = rw c.whole at (count_below c.digits v) in omega arith)) t)
      (λ u. t ∙ sym u)
      (bool_cases (bit m v)))
      (bool_cases (among (by_count (count_at c) 64 max_count) v));
}

-- counted of the clauses in arrays they are in the order of trials there
pub counted-first : (c : Counts) (s : Clauses) → ((v : ℕ) → count_at c v ≡ occurrences_in (clauses_of s) v)
    → by_count (count_at c) 64 max_count ≡ busiest_first (clauses_of s)
counted-first c s h =
    let cs = clauses_of s in
    let l = length_tabulated (clause_in s.positives s.negatives) s.count in
    let e : max_count ≡ max_count - length cs + length cs = omega arith in
    ap₂ (λ (f : ℕ → ℕ) (j : ℕ). by_count f 64 j) (λ i v. h v i) e ∙ by_count_high (occurrences_in cs) 64 (length cs) (max_count - length cs) (occurrences_few cs)

pub counted_few : (c : Counts) → length (by_count (count_at c) 64 max_count) ≤ 64
counted_few c = omega (arith, by_count_length (count_at c) 64 max_count, count_le (counted_to (count_at c) 64 max_count) 64)

-- a mask has more members than without one of them
pub without_fewer : (m v : ℕ) → m < 2 ^ 64 → bit m v ≡ true → size (without m v) < size m
without_fewer m v l t =
    let k : without m v < 2 ^ 64 = minus_lt 64 m (2 ^ v) l in
    let w = count_drop (bit (without m v)) (bit m) 64 v (λ i h. and_left (bit m i) (not (eqb i v)) (sym (bit-without m v i) ∙ h)) (bit_below 64 v m l t) t (bit-without-same m v) in
    omega (arith, size_count 64 m (omega arith) l, size_count 64 (without m v) (omega arith) k)
