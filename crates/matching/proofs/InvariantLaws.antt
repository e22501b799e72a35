-- What a search keeps: the queue, the seen variables and the clauses that they remember fit together.
use mathlib.Core.Path.{◌≡◌, refl, sym, ◌∙◌, ap}
use mathlib.Core.Bool.{true, false, cond}
use mathlib.Core.Logic.{◌⊎◌, inl, inr, ⊎_elim}
use mathlib.Core.List.{List, [], ◌∷◌, ◌++◌}
use Prim.Native.Nat.{ℕ, zero, suc, ◌^◌, ◌≤◌, ◌<◌}
use native.Mathlib.Omega.{arith}
use lib.ListN.{length, set, length-set, length-append, length-replicate, get_or-append}
use lib.Seq.{get_or-set_same, get_or-set_other, get_or-append_seam}
use lib.Dec.{eqb}
use borrow.Author.Tests.{eqb-true, eqb-false, eq-eqb, ne_eqb}
use Rattle.std.proofs.lemmas.Bool.{cases_Bool}
use Rattle.lists.proofs.TestLaws.{bool_clash}
use Rattle.masks.specs.Mask.{bit, with, size}
use Rattle.masks.proofs.BitLaws.{bit-none, bit-with-same, bit-with_other, with_lt}
use Rattle.masks.proofs.MembersLaws.{members_le}
use Rattle.masks.proofs.SizeLaws.{with_count, size_none}
use Rattle.matching.specs.Search.{Search, no_links, begin, take_front, search_bound}
use Rattle.matching.specs.Inner.{at, Free, EachOnce}
use native.Mathlib.Nat.{eq-zero-or-pos}
use Rattle.matching.proofs.Counting.{below_cases, pigeon, count_all}
use Rattle.matching.proofs.Augmenting.{Path}

-- ── Masks and tables ──────────────────────────────────────────────────────────────────────────────────────────────────

-- what is seen stays seen
pub seen_stays : (seen v y : ℕ) → bit seen y ≡ true → bit (with seen v) y ≡ true
seen_stays seen v y u =
    ⊎_elim (λ (q : eqb y v ≡ true). rw (eqb-true y v q) (bit-with-same seen v)) (λ f. bit-with_other seen v y (eqb-false y v f) ∙ u) (cases_Bool (eqb y v))

-- what is seen once v is: v, or what was seen before
seen_cases : (seen v y : ℕ) → bit (with seen v) y ≡ true → (y ≡ v) ⊎ ((y ≡ v → ⊥) × (bit seen y ≡ true))
seen_cases seen v y u =
    ⊎_elim (λ q. inl (eqb-true y v q)) (λ f. inr (eqb-false y v f, sym (bit-with_other seen v y (eqb-false y v f)) ∙ u)) (cases_Bool (eqb y v))

-- a table with another entry for x
unfoldable updated : (ℕ → ℕ) → ℕ → ℕ → ℕ → ℕ
updated f x v y = cond (eqb y x) v (f y)

updated_same : (f : ℕ → ℕ) (x v y : ℕ) → y ≡ x → updated f x v y ≡ v
unfolding updated
updated_same f x v y e = rw (eq-eqb y x e)

updated_other : (f : ℕ → ℕ) (x v y : ℕ) → (y ≡ x → ⊥) → updated f x v y ≡ f y
unfolding updated
updated_other f x v y ne = rw (ne_eqb y x ne)

-- ── The invariant ─────────────────────────────────────────────────────────────────────────────────────────────────────

-- the owner of x stands in the queue, at the place of x
abbrev Placed : (m queue : List ℕ) → (ℕ → ℕ) → ℕ → Type 0
Placed m queue place_of x = (0 < place_of x) × (place_of x < length queue) × (at queue (place_of x) < length m) × (at m (at queue (place_of x)) ≡ x)

-- x remembers a clause of the queue that names it and stands before its owner
abbrev Linked : (sets queue links : List ℕ) → (ℕ → ℕ) → ℕ → Type 0
Linked sets queue links place_of x = (j : ℕ) × (j < place_of x) × (at links x ≡ at queue j) × (bit (at sets (at links x)) x ≡ true)

-- the clause at the place k is the owner of a seen variable, whose place is k
abbrev Owns : (m queue : List ℕ) → ℕ → (ℕ → ℕ) → ℕ → Type 0
Owns m queue seen place_of k = (at queue k < length m) × (bit seen (at m (at queue k)) ≡ true) × (place_of (at m (at queue k)) ≡ k)

-- The queue begins with the new clause; the others are the owners of the seen variables. All that the first h clauses name is seen.
pub record Invariant (sets m : List ℕ) (h : ℕ) (s : Search) : Type 0 where
  pub place_of : ℕ → ℕ
  pub root : at s.queue 0 ≡ length m
  pub some : 0 < length s.queue
  pub closed : (k x : ℕ) → k < h → bit (at sets (at s.queue k)) x ≡ true → bit s.seen x ≡ true
  pub place : (x : ℕ) → bit s.seen x ≡ true → Placed m s.queue place_of x
  pub link : (x : ℕ) → bit s.seen x ≡ true → Linked sets s.queue s.links place_of x
  pub each : (k : ℕ) → 0 < k → k < length s.queue → Owns m s.queue s.seen place_of k
  pub sized : length s.queue ≡ suc (size s.seen)
  pub word : s.seen < 2 ^ 64
  pub wide : length s.links ≡ 64

pub invariant_begin : (sets m : List ℕ) → Invariant sets m 0 (begin (length m))
unfolding begin no_links
invariant_begin sets m = record {
  place_of = λ _. 0;
  root = refl;
  some = omega arith;
  closed = λ k x l _. absurd (omega arith);
  place = λ x t. bool_clash t (bit-none x);
  link = λ x t. bool_clash t (bit-none x);
  each = λ k p l. absurd (omega arith);
  sized = rw (size_none 64);
  word = omega arith;
  wide = length-replicate {A = ℕ} 64 0;
}

module _ (sets m : List ℕ) (h : ℕ) (s : Search) (I : Invariant sets m h s) where
  -- while a variable is not seen, fewer than 64 are
  few_seen : (x : ℕ) → x < 64 → bit s.seen x ≡ false → length s.queue < search_bound
  few_seen x l f = let a = with_count s.seen x 64 f l in let b = members_le (with s.seen x) 64 in omega (arith, I.sized)

  -- each clause joins the queue once
  pub queue_le : length s.queue ≤ suc (length m)
  queue_le = go (length s.queue) refl
    where
      go : (t : ℕ) → length s.queue ≡ t → t ≤ suc (length m)
      go zero e = omega arith
      go (suc t) e =
          let k = pigeon (λ _. true) t (λ _. true) (length m) (λ k. at s.queue (suc k))
          (λ k l _. ((I.each (suc k) (omega arith) (omega arith)).0, refl))
          (λ i j l k _ _ q.
          let a = (I.each (suc i) (omega arith) (omega arith)).2 in
          let b = (I.each (suc j) (omega arith) (omega arith)).2 in
          let z : suc i ≡ suc j = sym a ∙ ap (λ c. I.place_of (at m c)) q ∙ b in omega arith) in
          omega (arith, count_all t, count_all (length m))

  -- no clause stands twice in the queue
  pub queue_distinct : EachOnce s.queue
  queue_distinct i j l k e =
      ⊎_elim
      (λ (p : i ≡ 0). ⊎_elim
      (λ (q : j ≡ 0). p ∙ sym q)
      (λ q. let r : at s.queue i ≡ length m = rw p I.root in absurd (omega (arith, (I.each j q k).0)))
      (eq-zero-or-pos j))
      (λ p. ⊎_elim
      (λ (q : j ≡ 0). let r : at s.queue j ≡ length m = rw q I.root in absurd (omega (arith, (I.each i p l).0)))
      (λ q. sym (I.each i p l).2 ∙ ap (λ c. I.place_of (at m c)) e ∙ (I.each j q k).2)
      (eq-zero-or-pos j))
      (eq-zero-or-pos i)

  -- taking a clause off changes nothing of it
  pub invariant_taken : Invariant sets m h (take_front s)
  unfolding take_front
  invariant_taken = record {
    place_of = I.place_of;
    root = I.root;
    some = I.some;
    closed = I.closed;
    place = I.place;
    link = I.link;
    each = I.each;
    sized = I.sized;
    word = I.word;
    wide = I.wide;
  }

  -- and one clause more is gone through once all that it names is seen
  pub invariant_next : ((x : ℕ) → bit (at sets (at s.queue h)) x ≡ true → bit s.seen x ≡ true) → Invariant sets m (suc h) s
  invariant_next all = record {
    place_of = I.place_of;
    root = I.root;
    some = I.some;
    closed = λ k x l nm. ⊎_elim (λ (e : k ≡ h). all x (rw e at nm)) (λ less. I.closed k x less nm) (below_cases l);
    place = I.place;
    link = I.link;
    each = I.each;
    sized = I.sized;
    word = I.word;
    wide = I.wide;
  }

  -- ── A new variable ──────────────────────────────────────────────────────────────────────────────────────────────────

  -- the clause at place j of the queue names v, which is not seen
  module _ (j v : ℕ) (inside : j < length s.queue) (names : bit (at sets (at s.queue j)) v ≡ true) (low : v < 64) (new : bit s.seen v ≡ false) where
    abbrev links' : List ℕ
    links' = set s.links v (at s.queue j)

    -- the place of v is the queue's end
    abbrev place' : ℕ → ℕ
    place' = updated I.place_of v (length s.queue)

    -- v remembers that clause, the others what they remembered
    link_new : at links' v ≡ at s.queue j
    link_new = get_or-set_same s.links v (at s.queue j) 0 (omega (arith, I.wide))

    link_old : (y : ℕ) → (y ≡ v → ⊥) → at links' y ≡ at s.links y
    link_old y ne = get_or-set_other s.links v y (at s.queue j) 0 ne

    place_new : place' v ≡ length s.queue
    place_new = updated_same I.place_of v (length s.queue) v refl

    place_old : (y : ℕ) → (y ≡ v → ⊥) → place' y ≡ I.place_of y
    place_old y ne = updated_other I.place_of v (length s.queue) y ne

    -- each seen variable is named by the clause that it remembers
    link_names : (y : ℕ) → bit (with s.seen v) y ≡ true → bit (at sets (at links' y)) y ≡ true
    link_names y u =
        ⊎_elim
        (λ (e : y ≡ v). rw (e, link_new) names)
        (λ (w : (y ≡ v → ⊥) × (bit s.seen y ≡ true)). rw (link_old y w.0) (I.link y w.1).3)
        (seen_cases s.seen v y u)

    -- ── It is matched ─────────────────────────────────────────────────────────────────────────────────────────────────

    -- the clause c, which has v, joins the queue
    module _ (c : ℕ) (matched : c < length m) (has : at m c ≡ v) where
      abbrev queue' : List ℕ
      queue' = s.queue ++ (c ∷ [])

      queue_old : (k : ℕ) → k < length s.queue → at queue' k ≡ at s.queue k
      queue_old k l = get_or-append s.queue (c ∷ []) 0 k l

      queue_last : at queue' (length s.queue) ≡ c
      queue_last = get_or-append_seam s.queue c [] 0

      queue_longer : length queue' ≡ suc (length s.queue)
      queue_longer = let e = length-append s.queue (c ∷ []) in omega arith

      place_joined : (y : ℕ) → bit (with s.seen v) y ≡ true → Placed m queue' place' y
      place_joined y u =
          ⊎_elim
          (λ (e : y ≡ v). rw (e, place_new) (I.some, omega (arith, queue_longer), rw queue_last matched, rw queue_last has))
          (λ (w : (y ≡ v → ⊥) × (bit s.seen y ≡ true)).
          let p = I.place y w.1 in
          rw (place_old y w.0, queue_old (I.place_of y) p.1) (p.0, omega (arith, p.1, queue_longer), p.2, p.3))
          (seen_cases s.seen v y u)

      link_joined : (y : ℕ) → bit (with s.seen v) y ≡ true → Linked sets queue' links' place' y
      link_joined y u =
          ⊎_elim
          (λ (e : y ≡ v). (j, rw (e, place_new) inside, rw (e, link_new) (sym (queue_old j inside)), link_names y u))
          (λ (w : (y ≡ v → ⊥) × (bit s.seen y ≡ true)).
          let p = I.link y w.1 in
          let q = I.place y w.1 in (
            p.0,
            rw (place_old y w.0) p.1,
            rw (link_old y w.0) (p.2 ∙ sym (queue_old p.0 (omega (arith, p.1, q.1)))),
            link_names y u,
          ))
          (seen_cases s.seen v y u)

      each_joined : (k : ℕ) → 0 < k → k < length queue' → Owns m queue' (with s.seen v) place' k
      each_joined k p l =
          ⊎_elim
          (λ (e : k ≡ length s.queue). rw (e, queue_last, has, place_new) (matched, bit-with-same s.seen v, refl))
          (λ (less : k < length s.queue).
          let w = I.each k p less in
          let ne : at m (at s.queue k) ≡ v → ⊥ = λ e. bool_clash w.1 (rw e new) in
          rw (queue_old k less) (w.0, seen_stays s.seen v (at m (at s.queue k)) w.1, place_old (at m (at s.queue k)) ne ∙ w.2))
          (below_cases (rw queue_longer at l))

      pub invariant_joined : h ≤ length s.queue
          → Invariant sets m h (record { queue = s.queue ++ (c ∷ []); taken = s.taken; seen = with s.seen v; links = set s.links v (at s.queue j); free = 64 })
      invariant_joined le = record {
        place_of = place';
        root = queue_old 0 I.some ∙ I.root;
        some = omega (arith, queue_longer);
        closed = λ k y l w. seen_stays s.seen v y (I.closed k y l (rw (queue_old k (omega arith)) at w));
        place = place_joined;
        link = link_joined;
        each = each_joined;
        sized = let e = with_count s.seen v 64 new low in omega (arith, queue_longer, I.sized);
        word = with_lt 64 s.seen v I.word low;
        wide = length-set s.links v (at s.queue j) ∙ I.wide;
      }

    -- ── It is free ────────────────────────────────────────────────────────────────────────────────────────────────────

    module _ (free : Free m v) where
      -- the clause at a place k below b is the new one, or is matched to a seen variable whose place is below b
      clause_earlier : (b k : ℕ) → k < b → b ≤ length s.queue
          → (at s.queue k ≡ length m)
          ⊎ ((at s.queue k < length m) × (bit (with s.seen v) (at m (at s.queue k)) ≡ true) × (place' (at m (at s.queue k)) < b))
      clause_earlier b k l le =
          ⊎_elim
          (λ (e : k ≡ 0). inl (rw e I.root))
          (λ p.
          let w = I.each k p (omega arith) in
          let ne : at m (at s.queue k) ≡ v → ⊥ = free (at s.queue k) w.0 in
          inr (w.0, bit-with_other s.seen v (at m (at s.queue k)) ne ∙ w.1, rw (place_old (at m (at s.queue k)) ne, w.2) l))
          (eq-zero-or-pos k)

      -- so the links lead from v back to the new clause
      link_earlier : (y : ℕ) → bit (with s.seen v) y ≡ true
          → (at links' y ≡ length m) ⊎ ((at links' y < length m) × (bit (with s.seen v) (at m (at links' y)) ≡ true) × (place' (at m (at links' y)) < place' y))
      link_earlier y u =
          ⊎_elim
          (λ (e : y ≡ v). rw (e, place_new, link_new) (clause_earlier (length s.queue) j inside (omega arith)))
          (λ (w : (y ≡ v → ⊥) × (bit s.seen y ≡ true)).
          let p = I.link y w.1 in
          rw (place_old y w.0, link_old y w.0, p.2) (clause_earlier (I.place_of y) p.0 p.1 (omega (arith, (I.place y w.1).1))))
          (seen_cases s.seen v y u)

      pub invariant_path : (P : Path sets (set s.links v (at s.queue j)) m v) × (P.age v < search_bound)
      invariant_path = (
        record {
          seen = bit (with s.seen v);
          age = place';
          here = bit-with-same s.seen v;
          free = free;
          links_lead = record { named = λ y u _. link_names y u; earlier = λ y u _. link_earlier y u };
        },
        rw place_new (few_seen v low new),
      )
