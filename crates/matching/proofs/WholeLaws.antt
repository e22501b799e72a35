-- Laws of the clauses' searches in arrays.
use mathlib.Core.Path.{◌≡◌, refl, sym, ◌∙◌, ap, subst}
use mathlib.Core.Bool.{true, false}
use mathlib.Core.Logic.{⊎_elim}
use mathlib.Core.List.{List, [], ◌∷◌, ◌++◌, map}
use Prim.Native.Nat.{ℕ, suc, ◌+◌, ◌-◌, ◌*◌, ◌≤◌, ◌<◌}
use native.Mathlib.Numerals.{add-one}
use native.Mathlib.Omega.{arith}
use lib.ListN.{length, set, take, replicate, length-replicate, replicate-append-replicate, get_or-replicate}
use Rattle.std.proofs.Common.{None, Some, Ok, Err}
use lib.Seq.{take-suc, take-length, length-take-le, set-get_or, set_comm}
use lib.Dec.{eqb}
use borrow.Author.Tests.{eqb-true, eqb-false, eq-eqb, ne_eqb}
use Rattle.std.specs.Option.{is_some}
use Rattle.limits.specs.Limits.{max_clauses}
use Rattle.std.proofs.lemmas.Bool.{cases_Bool}
use Rattle.lists.specs.Padded.{padded}
use Rattle.lists.proofs.PaddedLaws.{padded_none, take_padded}
use Rattle.lists.proofs.StoreLaws.{padded_store, held_length}
use Rattle.masks.proofs.BitLaws.{bit_below}
use Rattle.matching.specs.Sets.{Words}
use Rattle.matching.specs.Search.{owner, Search, begin, search_from, rematch_from, search_bound, next_search, success, failure, match_rest, outcome, marks}
use Rattle.lists.proofs.TabulatedLaws.{tabulated_of}
use Rattle.matching.specs.Inner.{at, owners_of, Partial, Tables, Stored, number_of, variable_of, search_of, Augments, augmented, Augmented}
use Rattle.matching.specs.Result.{Clauses, packed}
use Rattle.matching.specs.declared.Front.{Front}
use Rattle.matching.specs.declared.Queue.{Queue}
use native.Mathlib.Nat.{eq-zero-or-pos}
use Rattle.matching.proofs.OwnerLaws.{free_owner}
use Rattle.matching.proofs.Augmenting.{rematch_partial}
use Rattle.matching.proofs.SearchLaws.{Stuck, Reached, Ended, search_next, word_all}
use Rattle.matching.proofs.OutcomeLaws.{match_none, match_fails, match_on}
use Rattle.matching.proofs.FrontLaws.{none_is, some_is, counted_tail}
use Rattle.matching.proofs.DistanceLaws.{path_distance}
use Rattle.matching.proofs.RematchLaws.{owners_fun, augments_of}
use Rattle.matching.proofs.PrefixLaws.{outcome-take}
use Rattle.matching.proofs.MatchedLaws.{length-marks}

-- ── One clause ────────────────────────────────────────────────────────────────────────────────────────────────────────

module _ {sets : List ℕ} {n : ℕ} {table owners : List ℕ} (T : Tables sets n table owners) (W : Words sets) where
  pub table_long : (length table ≡ max_clauses) × (length (take n table) ≡ n)
  table_long = held_length max_clauses 0 table n T.room T.held

  variables_low : (i : ℕ) → i < length (take n table) → at (take n table) i < 64
  variables_low i h = bit_below 64 (at (take n table) i) (at sets i) (word_all sets W i) (T.partial.named i h)

  owners_at : at owners ≡ owner (take n table)
  owners_at = ap at T.owned ∙ owners_fun (take n table) variables_low

  -- the search in arrays is the next clause's
  pub search_is : search_from search_bound sets (at owners) (begin n) ≡ next_search sets (take n table)
  search_is =
      ap (λ (f : ℕ → ℕ). search_from search_bound sets f (begin n)) owners_at
      ∙ ap (λ (k : ℕ). search_from search_bound sets (owner (take n table)) (begin k)) (sym table_long.1)

  pub next_ended : Ended sets (take n table) (next_search sets (take n table))
  next_ended = search_next sets (take n table) W

  module _ (front : Front) (queue : Queue) (e : search_of front queue ≡ next_search sets (take n table)) where
    free_is : variable_of front.free ≡ (next_search sets (take n table)).free
    free_is = ap (λ (s : Search). s.free) e

    links_are : queue.links ≡ (next_search sets (take n table)).links
    links_are = ap (λ (s : Search). s.links) e

    -- after a search that found a path to v
    module _ {v : ℕ} (fv : front.free ≡ Some v) where
      found_is : (next_search sets (take n table)).free ≡ v
      found_is = sym free_is ∙ ap variable_of fv

      found_some : (next_search sets (take n table)).free ≡ 64 → ⊥
      found_some z = omega (arith, found_is, front.variable v fv)

      pub path_ready : n < max_clauses → Augments n table owners queue.links v
      path_ready l =
          let s = next_search sets (take n table) in
          let R : Reached sets (take n table) s = ⊎_elim (λ S. absurd (found_some S.none)) (λ R. R) next_ended.0 in
          let owner_none : at owners s.free ≡ 0 = ap (λ (f : ℕ → ℕ). f s.free) owners_at ∙ free_owner (take n table) s.free R.1.0.free in
          rw (← found_is, links_are)
          (augments_of n table owners s.links s.free (take n table) refl l T.held variables_low
          (ap (set owners s.free) (sym owner_none) ∙ set-get_or owners s.free 0 ∙ T.owned)
          T.partial.distinct R.1.0.free R.0
          (path_distance sets s.links (take n table) s.free R.1.0 search_bound R.1.1))

      pub augmented_path : (table' owners' : List ℕ) → Stored (rematch_from search_bound queue.links (take n table) v) table' owners'
          → Augmented sets (take n table) front queue.clauses table' owners'
      unfolding augmented
      augmented_path table' owners' R =
          let s = next_search sets (take n table) in
          let f : eqb s.free 64 ≡ false = ne_eqb s.free 64 found_some in
          let r : rematch_from search_bound queue.links (take n table) v ≡ rematch_from search_bound s.links (take n table) s.free =
          rw (links_are, found_is) in
          record {
            head = ap (λ (s : Search). s.taken) e;
            free = free_is;
            taken = λ z. absurd (found_some (sym free_is ∙ ap variable_of z));
            table_is = rw f (R.table_is ∙ ap (padded max_clauses 0) r);
            owners_are = rw f (R.owners_are ∙ ap owners_of r);
          }

    -- after a search that failed
    pub augmented_none : front.free ≡ None → Augmented sets (take n table) front queue.clauses table owners
    unfolding augmented
    augmented_none z =
        let s = next_search sets (take n table) in
        let f : eqb s.free 64 ≡ true = eq-eqb s.free 64 (sym free_is ∙ ap variable_of z) in
        let stuck : Stuck sets (take n table) s = ⊎_elim (λ S. S) (λ R. absurd (let u = sym free_is ∙ ap variable_of z in omega (arith, R.0))) next_ended.0 in
        let q : take front.tail queue.clauses ≡ s.queue = ap (λ (s : Search). s.queue) e in
        let h : front.head ≡ s.taken = ap (λ (s : Search). s.taken) e in
        let t : length (take front.tail queue.clauses) ≡ front.tail = length-take-le front.tail queue.clauses (omega (arith, queue.long, counted_tail front.seen front.tail front.counted)) in
        let b : front.head ≡ front.tail = h ∙ stuck.all_taken ∙ ap length (sym q) ∙ t in
        record {
          head = h;
          free = free_is;
          taken = λ _. ap (λ (k : ℕ). take k queue.clauses) b ∙ q ∙ sym (take-length s.queue) ∙ ap (λ (k : ℕ). take k s.queue) (sym stuck.all_taken);
          table_is = rw f T.held;
          owners_are = rw f T.owned;
        }

  -- what the arrays hold after a path: the matching that it gives, with the next clause
  module _ {front : Front} {queue table' owners' : List ℕ} (A : Augmented sets (take n table) front queue table' owners') (found : is_some front.free ≡ true) where
    path : (next_search sets (take n table)).free ≡ 64 → ⊥
    path z = some_is front.free front.variable found (A.free ∙ z)

    abbrev rematched : List ℕ
    rematched = let s = next_search sets (take n table) in rematch_from search_bound s.links (take n table) s.free

    augmented_is : augmented sets (take n table) ≡ rematched
    unfolding augmented
    augmented_is = rw (ne_eqb (next_search sets (take n table)).free 64 path)

    rematched_partial : Partial sets rematched × (length rematched ≡ suc (length (take n table)))
    rematched_partial =
        let s = next_search sets (take n table) in
        let R : Reached sets (take n table) s = ⊎_elim (λ S. absurd (path S.none)) (λ R. R) next_ended.0 in
        rematch_partial sets s.links search_bound (take n table) s.free T.partial R.1.0 R.1.1

    pub table_rematched : take (n + 1) table' ≡ rematched
    table_rematched =
        let k : n + 1 ≡ length rematched = omega (arith, rematched_partial.1, table_long.1) in
        rw (A.table_is, augmented_is, k) (take_padded max_clauses 0 rematched)

    pub tables_more : n < max_clauses → Tables sets (n + 1) table' owners'
    tables_more l = record {
      room = omega arith;
      held = A.table_is ∙ ap (padded max_clauses 0) (augmented_is ∙ sym table_rematched);
      owned = A.owners_are ∙ ap owners_of (augmented_is ∙ sym table_rematched);
      partial = rw table_rematched rematched_partial.0;
    }

-- ── Marks ─────────────────────────────────────────────────────────────────────────────────────────────────────────────

marks_more : (n : ℕ) (l : List ℕ) (c : ℕ) → marks n (l ++ (c ∷ [])) ≡ set (marks n l) c 1
unfolding marks
marks_more n [] c = refl
marks_more n (d ∷ l) c =
    ap (λ (t : List ℕ). set t d 1) (marks_more n l c)
    ∙ ⊎_elim
    (λ (t : eqb c d ≡ true). rw (eqb-true c d t))
    (λ (f : eqb c d ≡ false). set_comm (marks n l) c d 1 1 (eqb-false c d f))
    (cases_Bool (eqb c d))

-- one clause more of the queue is marked
pub marks_next : (n : ℕ) (queue : List ℕ) (i : ℕ) → i < length queue → set (marks n (take i queue)) (at queue i) 1 ≡ marks n (take (i + 1) queue)
marks_next n queue i h = rw (add-one i, take-suc queue i 0 h, marks_more n (take i queue) (at queue i))

marks_padded : (n k : ℕ) (l : List ℕ) → k ≤ n → ((i : ℕ) → i < length l → at l i < k) → marks n l ≡ padded n 0 (marks k l)
unfolding marks padded
marks_padded n k [] h low =
    let e : k + (n - k) ≡ n = omega arith in
    rw (length-replicate, replicate-append-replicate, e)
marks_padded n k (c ∷ l) h low =
    ap (λ (t : List ℕ). set t c 1) (marks_padded n k l h (λ i a. low (suc i) (omega arith)))
    ∙ padded_store n 0 (marks k l) c 1 (let e = length-marks k l in omega (arith, low 0 (omega arith)))

-- ── All clauses ───────────────────────────────────────────────────────────────────────────────────────────────────────

-- what is still to be done from here gives the outcome
pub record Running (sets : List ℕ) (count i : ℕ) (table owners : List ℕ) (e : ℕ) : Type 0 where
  pub tables : Tables sets i table owners
  pub small : e ≤ i * max_clauses
  pub same : match_rest (count - i) sets (take i table) e ≡ match_rest count sets [] 0

-- no clause is matched yet
pub stored_none : Stored [] (replicate max_clauses 0) (map number_of (replicate 64 None))
unfolding owner
stored_none = record {
  table_is = sym (padded_none max_clauses 0);
  owners_are = tabulated_of (owner []) 64 (replicate 64 0) 0 (length-replicate {A = ℕ} 64 0) (λ i h. get_or-replicate {A = ℕ} 64 i 0 0 h);
}

pub running_begin : (sets : List ℕ) (count : ℕ) (table owners : List ℕ) → Stored [] table owners → Running sets count 0 table owners 0
running_begin sets count table owners S = record {
  tables = record {
    room = omega arith;
    held = S.table_is;
    owned = S.owners_are;
    partial = record { named = λ i h. absurd (omega arith); distinct = λ i j h. absurd (omega arith) };
  };
  small = omega arith;
  same = let z : count - 0 ≡ count = omega arith in rw z;
}

module _ {sets : List ℕ} {count i : ℕ} {table owners : List ℕ} {e : ℕ} (R : Running sets count i table owners e) (K : Clauses sets count) (l : i < count) where
  matching_long : length (take i table) ≡ i
  matching_long = (table_long R.tables K.words).1

  module _ {front : Front} {queue' table' owners' : List ℕ} (A : Augmented sets (take i table) front queue' table' owners') where
    -- the i-th clause costs at most i expansions
    pub head_le : front.head ≤ i + 1
    head_le = let E = next_ended R.tables K.words in omega (arith, A.head, E.1, matching_long)

    steps : count - i ≡ suc (count - (i + 1))
    steps = omega arith

    -- a path was found
    pub running_on : is_some front.free ≡ true → Running sets count (i + 1) table' owners' (e + front.head)
    running_on found =
        let m = take i table in
        record {
          tables = tables_more R.tables K.words A found (omega (arith, K.few));
          small = omega (arith, R.small, head_le, K.few);
          same = rw (table_rematched R.tables K.words A found, A.head)
              (sym (match_on (count - (i + 1)) sets m e (path R.tables K.words A found)) ∙ ap (λ (k : ℕ). match_rest k sets m e) (sym steps) ∙ R.same);
        }

    -- the search failed
    module _ (none : is_some front.free ≡ false) where
      z : front.free ≡ None
      z = none_is front.free none

      stuck : Stuck sets (take i table) (next_search sets (take i table))
      stuck = ⊎_elim (λ S. S) (λ F. absurd (let u = sym A.free ∙ ap variable_of z in omega (arith, F.0))) (next_ended R.tables K.words).0

      taken_is : take front.head queue' ≡ (next_search sets (take i table)).queue
      taken_is = let s = next_search sets (take i table) in A.taken z ∙ ap (λ (k : ℕ). take k s.queue) stuck.all_taken ∙ take-length s.queue

      taken_length : length (take front.head queue') ≡ front.head
      taken_length = ap length taken_is ∙ sym stuck.all_taken ∙ sym A.head

      taken_low : (k : ℕ) → k < length (take front.head queue') → at (take front.head queue') k < count
      taken_low k h =
          let I = stuck.inv in
          let s = next_search sets (take i table) in
          rw taken_is (⊎_elim
          (λ (q : k ≡ 0). rw (q, I.root) (omega (arith, matching_long)))
          (λ p. omega (arith, (I.each k p (subst (λ (l : List ℕ). k < length l) taken_is h)).0, matching_long))
          (eq-zero-or-pos k))

      pub failed : (record { expansions = e + front.head; found = Err (record { size = front.head; marks = marks max_clauses (take front.head queue') }) }) ≡ packed count (outcome (take count sets))
      unfolding packed
      failed =
          let s = next_search sets (take i table) in
          let q : match_rest count sets [] 0 ≡ failure (take front.head queue') (e + front.head) =
          sym R.same ∙ ap (λ (k : ℕ). match_rest k sets (take i table) e) steps ∙ match_fails (count - (i + 1)) sets (take i table) e (sym A.free ∙ ap variable_of z)
          ∙ rw (A.taken z, A.head) in
          rw (outcome-take count sets K.present, q, taken_length, marks_padded max_clauses count (take front.head queue') K.few taken_low)

-- all clauses are matched
pub finished : {sets : List ℕ} {count i : ℕ} {table owners : List ℕ} {e : ℕ} → Running sets count i table owners e → Clauses sets count → count ≤ i
    → (record { expansions = e; found = Ok table }) ≡ packed count (outcome (take count sets))
unfolding packed
finished {sets} {count} {i} {table} {owners} {e} R K l =
    let z : count - i ≡ 0 = omega arith in
    let q : match_rest count sets [] 0 ≡ success (take i table) e = sym R.same ∙ ap (λ (k : ℕ). match_rest k sets (take i table) e) z ∙ match_none sets (take i table) e in
    rw (outcome-take count sets K.present, q, ← R.tables.held)
