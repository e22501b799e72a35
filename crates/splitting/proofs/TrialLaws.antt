-- Laws of trials: what they decide and what they cost, and the first candidate that passes.
use Prim.Native.Nat.{ℕ, suc, ◌+◌, ◌*◌, ◌≤◌, ◌<◌}
use mathlib.Core.Path.{◌≡◌, refl, sym, subst}
use mathlib.Core.Bool.{Bool, true, false}
use mathlib.Core.List.{List, [], ◌∷◌, map}
use mathlib.Core.Logic.{⊎_elim}
use native.Mathlib.Nat.{suc-mul, mul-le-mul}
use native.Mathlib.Omega.{arith}
use lib.ListN.{length, get_or, length-map}
use Rattle.lists.proofs.TestLaws.{bool_clash}
use Rattle.lists.proofs.SublistLaws.{get_or_element}
use Rattle.lists.proofs.EveryLaws.{every_of}
use Rattle.masks.specs.Mask.{bit, size}
use Rattle.matching.specs.Sets.{Words}
use Rattle.matching.specs.InnerMatched.{Matched}
use Rattle.matching.specs.Search.{succeeds, expansions}
use Rattle.formula.specs.Format.{Literal}
use Rattle.formula.specs.Masked.{variables}
use Rattle.formula.proofs.ClauseLaws.{variables_lt, named_as}
use Rattle.splitting.specs.declared.Choice.{Choice}
use Rattle.splitting.specs.Nodes.{assign, named}
use Rattle.splitting.specs.Choosing.{matching_of, Trial, trial, both_open, first_passing, occurrences, candidates, among}
use Rattle.splitting.specs.Terms.{Below, Covers, Before, Ordered}
use Rattle.splitting.proofs.ClauseLaws.{named_by, literal_names}
use Rattle.splitting.proofs.SearchLaws.{among_here, among_more, among_cases, among_none}
use Rattle.splitting.proofs.OrderLaws.{before_once, by_count_of, by_count_in, by_count_ordered, by_count_length, counted_to, counted_of, occurrences_le, occurrences-named, named-occurrences}
use Rattle.splitting.proofs.NodeLaws.{below_assign, length-assign}
use Rattle.splitting.proofs.MatchedLaws.{variables-at}
use Rattle.matching.proofs.Counting.{pigeon}
use Rattle.matching.proofs.MatchedLaws.{count_members}
use Rattle.matching.proofs.Theorems as theorems

-- ── One matching ─────────────────────────────────────────────────────────────────────────────────────────────────────

-- the masks are below 2 ^ 64
words : (n : ℕ) (cs : List (List Literal)) → n ≤ 64 → Below n cs → Words (map variables cs)
words n cs fits low i h =
    let k = length-map cs variables in
    let c = get_or cs i [] in
    rw (variables-at cs i)
    (variables_lt 64 c (every_of (λ (l : Literal). l.variable < 64) c (λ l m.
    let b = low l.variable (named_by cs c l.variable (get_or_element cs i [] (omega arith)) (named_as c l.variable l.positive (literal_names c l m))) in
    omega arith)))

-- a matching is found exactly where there is one
succeeds_matched : (n : ℕ) (cs : List (List Literal)) → n ≤ 64 → Below n cs → succeeds (matching_of cs) ≡ true → Matched (map variables cs)
unfolding matching_of
succeeds_matched n cs fits low t = theorems.succeeds_matched (map variables cs) (words n cs fits low) t

matched_succeeds : (n : ℕ) (cs : List (List Literal)) → n ≤ 64 → Below n cs → Matched (map variables cs) → succeeds (matching_of cs) ≡ true
unfolding matching_of
matched_succeeds n cs fits low M = theorems.matched_succeeds (map variables cs) (words n cs fits low) M

-- twice the expansions are at most m (m + 1)
matched_cost : (n m : ℕ) (cs : List (List Literal)) → n ≤ 64 → Below n cs → length cs ≤ m → 2 * expansions (matching_of cs) ≤ m * suc m
unfolding matching_of
matched_cost n m cs fits low few =
    let h = length-map cs variables in
    let k : length (map variables cs) * (length (map variables cs) + 1) ≤ m * suc m = mul-le-mul (omega arith) (omega arith) in
    let c = theorems.outcome_cost (map variables cs) (words n cs fits low) in
    omega arith

-- ── One trial ────────────────────────────────────────────────────────────────────────────────────────────────────────

-- a trial, by whether v = false succeeds
abbrev tried : List (List Literal) → ℕ → Bool → Trial
tried cs v s =
    elim s [
      | true ↦ record {
        passes = succeeds (matching_of (assign v true cs));
        cost = expansions (matching_of (assign v false cs)) + expansions (matching_of (assign v true cs));
      }
      | false ↦ record { passes = false; cost = expansions (matching_of (assign v false cs)) }
    ]

-- a trial that passes leaves the clauses matched for both values
pub passes_matched : (n : ℕ) (cs : List (List Literal)) (v : ℕ) → n ≤ 64 → Below n cs → (trial cs v).passes ≡ true
    → (b : Bool) → Matched (map variables (assign v b cs))
unfolding trial
passes_matched n cs v fits low t = go (succeeds (matching_of (assign v false cs))) refl t
  where
    decided : (b : Bool) → succeeds (matching_of (assign v b cs)) ≡ true → Matched (map variables (assign v b cs))
    decided b h = succeeds_matched n (assign v b cs) fits (below_assign n v b cs low) h

    both : succeeds (matching_of (assign v false cs)) ≡ true → succeeds (matching_of (assign v true cs)) ≡ true → (b : Bool) → Matched (map variables (assign v b cs))
    both e f false = decided false e
    both e f true = decided true f

    go : (s : Bool) → succeeds (matching_of (assign v false cs)) ≡ s → (tried cs v s).passes ≡ true → (b : Bool) → Matched (map variables (assign v b cs))
    go true e t = both e t
    go false e t = bool_clash t refl

-- and it passes wherever they are
pub matched_passes : (n : ℕ) (cs : List (List Literal)) (v : ℕ) → n ≤ 64 → Below n cs → ((b : Bool) → Matched (map variables (assign v b cs)))
    → (trial cs v).passes ≡ true
unfolding trial
matched_passes n cs v fits low M =
    let decided : (b : Bool) → succeeds (matching_of (assign v b cs)) ≡ true = λ b. matched_succeeds n (assign v b cs) fits (below_assign n v b cs low) (M b) in
    subst (λ s. (tried cs v s).passes ≡ true) (sym (decided false)) (decided true)

trial_cost : (n m : ℕ) (cs : List (List Literal)) (v : ℕ) → n ≤ 64 → Below n cs → length cs ≤ m → (trial cs v).cost ≤ m * suc m
unfolding trial
trial_cost n m cs v fits low few = go (succeeds (matching_of (assign v false cs)))
  where
    each : (b : Bool) → 2 * expansions (matching_of (assign v b cs)) ≤ m * suc m
    each b = matched_cost n m (assign v b cs) fits (below_assign n v b cs low) (let l = length-assign v b cs in omega arith)

    go : (s : Bool) → (tried cs v s).cost ≤ m * suc m
    go true = omega (arith, each false, each true)
    go false = omega (arith, each false)

-- ── The candidates ───────────────────────────────────────────────────────────────────────────────────────────────────

-- The candidates are exactly the variables that the left clauses name, in order.
pub candidates-named : (n : ℕ) (left : List (List Literal)) (v : ℕ) → among (candidates n left) v ≡ true → named left v ≡ true
unfolding candidates
candidates-named n left v t = occurrences-named left v (by_count_of (occurrences left) n (length left) v t).1

pub named-candidates : (n : ℕ) (left : List (List Literal)) → Below n left → (v : ℕ) → named left v ≡ true → among (candidates n left) v ≡ true
unfolding candidates
named-candidates n left low v h =
    by_count_in (occurrences left) n (length left) v (low v h) (named-occurrences left v h) (occurrences_le left v)

pub candidates_ordered : (n : ℕ) (left : List (List Literal)) → Ordered (occurrences left) (candidates n left)
unfolding candidates
candidates_ordered n left = by_count_ordered (occurrences left) n (length left)

-- They are at most as many as a mask has that has them all.
pub candidates-length : (n scope : ℕ) (left : List (List Literal)) → n ≤ 64 → Covers scope left → length (candidates n left) ≤ size scope
unfolding candidates
candidates-length n scope left fits covers =
    let e = count_members scope 64 in
    let k = pigeon (counted_to (occurrences left) n (length left)) n (bit scope) 64 (λ i. i)
    (λ i l t. (omega arith, covers i (occurrences-named left i (counted_of (occurrences left) n (length left) i t).0))) (λ i j _ _ _ _ e. e) in
    omega (arith, by_count_length (occurrences left) n (length left))

-- ── The first that passes ────────────────────────────────────────────────────────────────────────────────────────────

-- the choice, by whether the trial of the first passes
abbrev chosen : List (List Literal) → List ℕ → ℕ → ℕ → Bool → Choice
chosen cs vs e x p = elim p [ true ↦ both_open x (e + (trial cs x).cost) | false ↦ first_passing cs vs (e + (trial cs x).cost) ]

-- where one of the list passes, the first that passes is on the list, and passes
pub first_passes : (cs : List (List Literal)) (vs : List ℕ) (e v : ℕ) → among vs v ≡ true → (trial cs v).passes ≡ true
    → (among vs (first_passing cs vs e).variable ≡ true) × ((trial cs (first_passing cs vs e).variable).passes ≡ true)
unfolding first_passing
first_passes cs [] e v m t = among_none v m
first_passes cs (x ∷ vs) e v m t = go (λ k. first_passes cs vs (e + (trial cs x).cost) v k t) (trial cs x).passes refl
  where
    Ok : ℕ → Type 0
    Ok w = (among (x ∷ vs) w ≡ true) × ((trial cs w).passes ≡ true)

    go : (among vs v ≡ true
        → (among vs (first_passing cs vs (e + (trial cs x).cost)).variable ≡ true) × ((trial cs (first_passing cs vs (e + (trial cs x).cost)).variable).passes ≡ true))
        → (p : Bool) → (trial cs x).passes ≡ p → Ok (chosen cs vs e x p).variable
    go rec true h = (among_here x vs, h)
    go rec false h =
        ⊎_elim
        (λ (q : v ≡ x). bool_clash t (rw q h))
        (λ k. let w = rec k in (among_more (first_passing cs vs (e + (trial cs x).cost)).variable x vs w.0, w.1))
        (among_cases v x vs m)

-- and what is to be tried before it fails, if the list is in order
pub first_fails : (cs : List (List Literal)) (f : ℕ → ℕ) (vs : List ℕ) (e : ℕ) → Ordered f vs → (x : ℕ) → among vs x ≡ true → Before f x (first_passing cs vs e).variable
    → (trial cs x).passes ≡ false
unfolding first_passing
first_fails cs f [] e o x m b = among_none x m
first_fails cs f (y ∷ vs) e o x m b = go (first_fails cs f vs (e + (trial cs y).cost) o.1 x) (trial cs y).passes refl b
  where
    go : (among vs x ≡ true → Before f x (first_passing cs vs (e + (trial cs y).cost)).variable → (trial cs x).passes ≡ false) → (p : Bool) → (trial cs y).passes ≡ p
        → Before f x (chosen cs vs e y p).variable → (trial cs x).passes ≡ false
    go rec true h b =
        ⊎_elim
        (λ (q : x ≡ y). let k : Before f y y = rw q at b in absurd (before_once f y y k k))
        (λ k. absurd (before_once f x y b (o.0 x k)))
        (among_cases x y vs m)
    go rec false h b = ⊎_elim (λ (q : x ≡ y). rw q h) (λ k. rec k b) (among_cases x y vs m)

-- both its values are open
pub first_open : (cs : List (List Literal)) (vs : List ℕ) (e : ℕ) → ((first_passing cs vs e).false_open ≡ true) × ((first_passing cs vs e).true_open ≡ true)
unfolding first_passing
first_open cs [] e = (refl, refl)
first_open cs (x ∷ vs) e = go (first_open cs vs (e + (trial cs x).cost)) (trial cs x).passes
  where
    Ok : Choice → Type 0
    Ok c = (c.false_open ≡ true) × (c.true_open ≡ true)

    go : Ok (first_passing cs vs (e + (trial cs x).cost)) → (p : Bool)
        → Ok (chosen cs vs e x p)
    go rec true = (refl, refl)
    go rec false = rec

-- each trial on the list costs at most m (m + 1)
pub first_cost : (n m : ℕ) (cs : List (List Literal)) (vs : List ℕ) (e : ℕ) → n ≤ 64 → Below n cs → length cs ≤ m
    → (first_passing cs vs e).expansions ≤ e + length vs * (m * suc m)
unfolding first_passing
first_cost n m cs [] e fits low few = omega arith
first_cost n m cs (x ∷ vs) e fits low few =
    go (first_cost n m cs vs (e + (trial cs x).cost) fits low few) (trial_cost n m cs x fits low few) (trial cs x).passes
  where
    go : (first_passing cs vs (e + (trial cs x).cost)).expansions ≤ e + (trial cs x).cost + length vs * (m * suc m) → (trial cs x).cost ≤ m * suc m
        → (p : Bool) → (chosen cs vs e x p).expansions ≤ e + suc (length vs) * (m * suc m)
    go rec c true = omega (arith, suc-mul (length vs) (m * suc m))
    go rec c false = omega (arith, suc-mul (length vs) (m * suc m))
