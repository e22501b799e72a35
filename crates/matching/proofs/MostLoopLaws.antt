-- Laws of the loop of match_most: its arrays hold the kept clauses and their matching.
use Prim.Native.Nat.{ℕ, ◌+◌, ◌≤◌, ◌<◌}
use mathlib.Core.Bool.{true, false}
use mathlib.Core.List.{List, [], ◌∷◌, ◌++◌}
use mathlib.Core.Logic.{⊎_elim}
use mathlib.Core.Path.{◌≡◌, sym, ◌∙◌, ap, subst}
use native.Mathlib.Numerals.{add-one}
use native.Mathlib.Omega.{arith}
use lib.Dec.{eqb}
use lib.ListN.{length, set, take, replicate, length-set, length-replicate, get_or-replicate}
use lib.Seq.{take-suc, take-suc-set, take-set-le, get_or-take, length-take-le, get_or-set_other}
use borrow.Author.Tests.{eq-eqb}
use Rattle.std.specs.Option.{is_some}
use Rattle.limits.specs.Limits.{max_clauses}
use Rattle.matching.specs.Sets.{Words}
use Rattle.matching.specs.Search.{Search, next_search, rematch_from, search_bound}
use Rattle.matching.specs.Inner.{at, Tables, Stored, variable_of, augmented, Augmented}
use Rattle.matching.specs.Result.{Clauses}
use Rattle.matching.specs.Deficiency.{most}
use Rattle.matching.specs.declared.Front.{Front}
use Rattle.matching.proofs.Augmenting.{set_cases}
use Rattle.matching.proofs.PrefixLaws.{next_take}
use Rattle.matching.proofs.FrontLaws.{none_is, some_is}
use Rattle.matching.proofs.WholeLaws.{running_begin, table_long, table_rematched, tables_more}
use Rattle.matching.proofs.MostLaws.{Keeping, keeping_begin, keeping_leave, keeping_more, most_kept}

-- of the first i clauses k are kept: the arrays hold these and their matching
pub record Holding (sets : List ℕ) (i k : ℕ) (kept table owners : List ℕ) : Type 0 where
  pub fewer : k ≤ i
  pub tables : Tables kept k table owners
  pub wide : length kept ≡ max_clauses
  pub words : Words kept
  pub keeping : Keeping (take i sets) (take k kept) (take k table)

pub holding_begin : (sets table owners : List ℕ) → Stored [] table owners → Holding sets 0 0 (replicate max_clauses 0) table owners
holding_begin sets table owners S = record {
  fewer = omega arith;
  tables = (running_begin (replicate max_clauses 0) 0 table owners S).tables;
  wide = length-replicate {A = ℕ} max_clauses 0;
  words = λ i h. let z = get_or-replicate {A = ℕ} max_clauses i 0 0 (let l = length-replicate {A = ℕ} max_clauses 0 in omega arith) in omega arith;
  keeping = keeping_begin;
}

words_take : (n : ℕ) (sets : List ℕ) → n ≤ length sets → Words sets → Words (take n sets)
words_take n sets l W j h = let e = length-take-le n sets l in rw (get_or-take n sets j 0 (omega arith)) (W j (omega arith))

module _ {sets : List ℕ} {count i k : ℕ} {kept table owners : List ℕ} (H : Holding sets i k kept table owners) (C : Clauses sets count) (l : i < count) where
  -- the next clause, and the array with it
  abbrev s : ℕ
  s = at sets i

  abbrev more : List ℕ
  more = set kept k s

  low : k < max_clauses
  low = omega (arith, H.fewer, C.few)

  present : i < length sets
  present = omega (arith, C.present)

  pub more_words : Words more
  more_words j h =
      let e = length-set kept k s in
      ⊎_elim
      (λ (p : (j ≡ k) × (at more j ≡ s)). rw p.1 (C.words i present))
      (λ (p : (j ≡ k → ⊥) × (at more j ≡ at kept j)). rw p.1 (H.words j (omega arith)))
      (set_cases kept k s j (omega arith))

  matching_long : length (take k table) ≡ k
  matching_long = (table_long H.tables H.words).1

  pub more_tables : Tables more k table owners
  more_tables = record {
    room = H.tables.room;
    held = H.tables.held;
    owned = H.tables.owned;
    partial = record {
      named = λ j h. rw (get_or-set_other kept k j s 0 (λ e. omega (arith, matching_long))) (H.tables.partial.named j h);
      distinct = H.tables.partial.distinct;
    };
  }

  more_taken : take (k + 1) more ≡ take k kept ++ (s ∷ [])
  more_taken = rw add-one (take-suc-set kept k s (omega (arith, low, H.wide)))

  next_done : take (i + 1) sets ≡ take i sets ++ (s ∷ [])
  next_done = rw add-one (take-suc sets i 0 present)

  done_words : Words (take i sets ++ (s ∷ []))
  done_words = subst Words next_done (words_take (i + 1) sets (omega (arith, present)) C.words)

  -- the search in the array is that of the list
  searched : next_search more (take k table) ≡ next_search (take k kept ++ (s ∷ [])) (take k table)
  searched = sym (next_take (k + 1) more (take k table) (omega (arith, matching_long))) ∙ ap (λ (x : List ℕ). next_search x (take k table)) more_taken

  module _ {front : Front} {queue' table' owners' : List ℕ} (A : Augmented more (take k table) front queue' table' owners') where
    free_is : variable_of front.free ≡ (next_search (take k kept ++ (s ∷ [])) (take k table)).free
    free_is = A.free ∙ ap (λ (x : Search). x.free) searched

    -- the search failed: the arrays are as they were
    pub holding_leave : is_some front.free ≡ false → Holding sets (i + 1) k more table' owners'
    unfolding augmented
    holding_leave none =
        let z : variable_of front.free ≡ 64 = ap variable_of (none_is front.free none) in
        let f : eqb (next_search more (take k table)).free 64 ≡ true = eq-eqb _ 64 (sym A.free ∙ z) in
        let t : table' ≡ table = A.table_is ∙ rw f (sym H.tables.held) in
        let o : owners' ≡ owners = A.owners_are ∙ rw f (sym H.tables.owned) in
        record {
          fewer = omega (arith, H.fewer);
          tables = rw (t, o) more_tables;
          wide = length-set kept k s ∙ H.wide;
          words = more_words;
          keeping = rw (t, next_done, take-set-le k kept k s (omega arith)) (keeping_leave (take i sets) (take k kept) (take k table) s done_words H.keeping (sym free_is ∙ z));
        }

    -- a path was found
    pub holding_more : is_some front.free ≡ true → Holding sets (i + 1) (k + 1) more table' owners'
    holding_more found =
        let m = take k table in
        let K = keeping_more (take i sets) (take k kept) m s done_words H.keeping (λ q. some_is front.free front.variable found (free_is ∙ q)) in
        let same = ap (λ (x : Search). rematch_from search_bound x.links m x.free) searched in
        record {
          fewer = omega (arith, H.fewer);
          tables = tables_more more_tables more_words A found low;
          wide = length-set kept k s ∙ H.wide;
          words = more_words;
          keeping = rw (table_rematched more_tables more_words A found, same, next_done, more_taken) K;
        }

-- all clauses are done
pub holding_done : {sets : List ℕ} {count k : ℕ} {kept table owners : List ℕ} → Holding sets count k kept table owners → Clauses sets count
    → k ≡ most (take count sets)
holding_done {sets} {count} {k} {kept} {table} {owners} H C =
    sym (length-take-le k kept (omega (arith, H.tables.room, H.wide)))
    ∙ sym (most_kept (take count sets) (take k kept) (take k table) (words_take count sets C.present C.words) H.keeping)
