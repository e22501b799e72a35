-- The bounds in the definitions of the search and of re-matching are never what stops them.
use mathlib.Core.Path.{◌≡◌, sym, ◌∙◌}
use mathlib.Core.Bool.{true, false}
use mathlib.Core.Logic.{◌⊎◌, inl, inr, ⊎_elim}
use mathlib.Core.List.{List}
use Prim.Native.Nat.{ℕ, zero, suc, ◌≤◌, ◌<◌}
use native.Mathlib.Omega.{arith}
use lib.ListN.{length, take}
use lib.Seq.{get_or-take, length-take-le}
use lib.Dec.{eqb}
use borrow.Author.Tests.{eqb-true, eqb-false}
use Rattle.std.proofs.lemmas.Bool.{cases_Bool}
use Rattle.matching.specs.Sets.{Words}
use Rattle.matching.specs.InnerMatched.{Matches}
use Rattle.matching.specs.Search.{owner, Search, begin, expand, search_from, search_bound, rematch_from, rematch, next_search}
use Rattle.matching.specs.Inner.{Partial}
use Rattle.matching.proofs.Counting.{lt_or_le}
use Rattle.matching.proofs.Augmenting.{rematch_partial}
use Rattle.matching.proofs.StepLaws.{search_on, search_found, search_empty}
use Rattle.matching.proofs.SearchLaws.{Stuck, Reached, search_next}
use Rattle.matching.proofs.DistanceLaws.{rematch-same, path_distance}

-- an augmenting path is found or the queue is empty
abbrev pub Stopped : Search → Type 0
Stopped s = (s.free ≡ 64 → ⊥) ⊎ (length s.queue ≤ s.taken)

stopped_stays : (k : ℕ) (sets : List ℕ) (own : ℕ → ℕ) (s : Search) → Stopped s → search_from k sets own s ≡ s
stopped_stays k sets own s = ⊎_elim (λ ne. search_found k sets own s ne) (λ l. search_empty k sets own s l)

-- a search that has stopped when k expansions are made is the same with any larger bound
search_larger : (k n : ℕ) (sets : List ℕ) (own : ℕ → ℕ) (s : Search) → k ≤ n → Stopped (search_from k sets own s) → search_from n sets own s ≡ search_from k sets own s
unfolding search_from
search_larger zero n sets own s l d = stopped_stays n sets own s d
search_larger (suc k) zero sets own s l d = absurd (omega arith)
search_larger (suc k) (suc n) sets own s l d =
    ⊎_elim
    (λ (f : eqb s.free 64 ≡ true).
    let e = eqb-true s.free 64 f in
    ⊎_elim
    (λ (t : s.taken < length s.queue).
    let q = search_on k sets own s e t in
    search_on n sets own s e t ∙ search_larger k n sets own (expand sets own s) (omega arith) (rw q at d) ∙ sym q)
    (λ (g : length s.queue ≤ s.taken). stopped_stays (suc n) sets own s (inr g) ∙ sym (stopped_stays (suc k) sets own s (inr g)))
    (lt_or_le s.taken (length s.queue)))
    (λ (f : eqb s.free 64 ≡ false).
    let ne = eqb-false s.free 64 f in
    stopped_stays (suc n) sets own s (inl ne) ∙ sym (stopped_stays (suc k) sets own s (inl ne)))
    (cases_Bool (eqb s.free 64))

-- a matching of the first clauses, with their number and without
partial_of : (sets m : List ℕ) → length m ≤ length sets → Matches (take (length m) sets) m → Partial sets m
partial_of sets m l M =
    let e = length-take-le (length m) sets l in
    record {
      named = λ i h. rw (get_or-take (length m) sets i 0 h) at (M.named i (omega arith));
      distinct = λ i j h k. M.distinct i j (omega arith) (omega arith);
    }

matches_of : (sets m : List ℕ) → length m ≤ length sets → Partial sets m → Matches (take (length m) sets) m
matches_of sets m l M =
    let e = length-take-le (length m) sets l in
    record {
      one_each = sym e;
      named = λ i h. let k : i < length m = omega arith in rw (get_or-take (length m) sets i 0 k) (M.named i k);
      distinct = λ i j h k. M.distinct i j (omega arith) (omega arith);
    }

module _ (sets m : List ℕ) (W : Words sets) where
  pub next_ends : ((next_search sets m).free < 64) ⊎ ((next_search sets m).taken ≡ length (next_search sets m).queue)
  next_ends = ⊎_elim (λ (S : Stuck sets m (next_search sets m)). inr S.all_taken) (λ R. inl R.0) (search_next sets m W).0

  pub next_larger : (k : ℕ) → search_bound ≤ k → search_from k sets (owner m) (begin (length m)) ≡ next_search sets m
  next_larger k h =
      search_larger search_bound k sets (owner m) (begin (length m)) h
      (⊎_elim (λ (a : (next_search sets m).free < 64). inl (omega arith)) (λ e. inr (omega arith)) next_ends)

  -- after a search that found an unmatched variable
  module _ (f : (next_search sets m).free < 64) where
    found : Reached sets m (next_search sets m)
    found = ⊎_elim (λ S. absurd (omega (arith, S.none))) (λ R. R) (search_next sets m W).0

    pub rematch_larger : (k : ℕ) → search_bound ≤ k → rematch_from k (next_search sets m).links m (next_search sets m).free ≡ rematch (next_search sets m).links m (next_search sets m).free
    rematch_larger k h =
        let s = next_search sets m in
        let P = found.1.0 in
        let a = found.1.1 in
        rematch-same k search_bound s.links m s.free (path_distance sets s.links m s.free P k (omega arith)) (path_distance sets s.links m s.free P search_bound a)

    pub rematch_matches : length m < length sets → Matches (take (length m) sets) m
        → Matches (take (suc (length m)) sets) (rematch (next_search sets m).links m (next_search sets m).free)
    rematch_matches l M =
        let s = next_search sets m in
        let P = rematch_partial sets s.links search_bound m s.free (partial_of sets m (omega arith) M) found.1.0 found.1.1 in
        rw (← P.1) (matches_of sets (rematch s.links m s.free) (omega (arith, P.1)) P.0)
