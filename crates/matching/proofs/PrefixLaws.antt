-- The outcome of the first n clauses of a list: the clauses after them do not count.
use mathlib.Core.Path.{◌≡◌, refl, sym, ◌∙◌, ap, subst}
use mathlib.Core.Bool.{true, false}
use mathlib.Core.Logic.{⊎_elim}
use mathlib.Core.List.{List, [], ◌∷◌, ◌++◌}
use Prim.Native.Nat.{ℕ, zero, suc, ◌+◌, ◌≤◌, ◌<◌}
use native.Mathlib.Omega.{arith}
use lib.ListN.{length, set, take, length-set, length-append}
use lib.Seq.{get_or-take, length-take-le}
use lib.Dec.{eqb}
use borrow.Author.Tests.{eqb-true, eqb-false}
use Rattle.std.proofs.lemmas.Bool.{cases_Bool}
use Rattle.masks.specs.Mask.{bit, members}
use Rattle.matching.specs.Search.{owner, Search, begin, see, scan, take_front, front, expand, search_from, rematch_from, search_bound, next_search, failure, match_rest, outcome}
use Rattle.matching.specs.Inner.{at}
use Rattle.matching.proofs.Counting.{lt_or_le}
use Rattle.matching.proofs.OwnerLaws.{zero_or_suc, owner_le}
use Rattle.matching.proofs.Augmenting.{snoc_cases}
use Rattle.matching.proofs.StepLaws.{see_free, see_matched, scan-none, scan_old, scan_new, scan_stop, search_on, search_found, search_empty}
use Rattle.matching.proofs.OutcomeLaws.{match_none, match_fails, match_on}

-- the queue's clauses are below n
abbrev Low : ℕ → Search → Type 0
Low n s = (i : ℕ) → i < length s.queue → at s.queue i < n

see_low : (n : ℕ) (own : ℕ → ℕ) (c v : ℕ) (s : Search) → own v ≤ n → Low n s → Low n (see own c v s)
see_low n own c v s o L =
    ⊎_elim
    (λ (e : own v ≡ 0). subst (λ (r : Search). Low n r) (sym (see_free own c v s e)) L)
    (λ (w : (k : ℕ) × (own v ≡ suc k)).
    subst (λ (r : Search). Low n r) (sym (see_matched own c v w.0 s w.1))
    (λ i h. ⊎_elim (λ (p : (i ≡ length s.queue) × (at (s.queue ++ (w.0 ∷ [])) i ≡ w.0)). rw p.1 (omega (arith, w.1))) (λ (p : (i < length s.queue) × (at (s.queue ++ (w.0 ∷ [])) i ≡ at s.queue i)). rw p.1 (L i p.0)) (snoc_cases s.queue w.0 i h)))
    (zero_or_suc (own v))

scan_low : (n : ℕ) (own : ℕ → ℕ) → ((v : ℕ) → own v ≤ n) → (c : ℕ) (vs : List ℕ) (s : Search) → Low n s → Low n (scan own c vs s)
scan_low n own o c [] s L = rw (scan-none own c s) L
scan_low n own o c (v ∷ vs) s L =
    ⊎_elim
    (λ (f : eqb s.free 64 ≡ true).
    let e = eqb-true s.free 64 f in
    ⊎_elim
    (λ (b : bit s.seen v ≡ true). subst (λ (r : Search). Low n r) (sym (scan_old own c v vs s e b)) (scan_low n own o c vs s L))
    (λ (b : bit s.seen v ≡ false). subst (λ (r : Search). Low n r) (sym (scan_new own c v vs s e b)) (scan_low n own o c vs (see own c v s) (see_low n own c v s (o v) L)))
    (cases_Bool (bit s.seen v)))
    (λ (f : eqb s.free 64 ≡ false). subst (λ (r : Search). Low n r) (sym (scan_stop own c (v ∷ vs) s (eqb-false s.free 64 f))) L)
    (cases_Bool (eqb s.free 64))

expand_low : (n : ℕ) (sets : List ℕ) (own : ℕ → ℕ) → ((v : ℕ) → own v ≤ n) → (s : Search) → Low n s → Low n (expand sets own s)
unfolding expand take_front
expand_low n sets own o s L = scan_low n own o (front s) (members (at sets (front s)) 64) (take_front s) L

expand_take : (n : ℕ) (sets : List ℕ) (own : ℕ → ℕ) (s : Search) → front s < n → expand (take n sets) own s ≡ expand sets own s
unfolding expand
expand_take n sets own s l = rw (get_or-take n sets (front s) 0 l)

search_take : (n : ℕ) (sets : List ℕ) (own : ℕ → ℕ) → ((v : ℕ) → own v ≤ n) → (k : ℕ) (s : Search) → Low n s
    → search_from k (take n sets) own s ≡ search_from k sets own s
unfolding search_from
search_take n sets own o zero s L = refl
search_take n sets own o (suc k) s L =
    ⊎_elim
    (λ (f : eqb s.free 64 ≡ true).
    let e = eqb-true s.free 64 f in
    ⊎_elim
    (λ (l : s.taken < length s.queue).
    search_on k (take n sets) own s e l
    ∙ ap (search_from k (take n sets) own) (expand_take n sets own s (L s.taken l))
    ∙ search_take n sets own o k (expand sets own s) (expand_low n sets own o s L)
    ∙ sym (search_on k sets own s e l))
    (λ (g : length s.queue ≤ s.taken). search_empty (suc k) (take n sets) own s g ∙ sym (search_empty (suc k) sets own s g))
    (lt_or_le s.taken (length s.queue)))
    (λ (f : eqb s.free 64 ≡ false).
    let ne = eqb-false s.free 64 f in
    search_found (suc k) (take n sets) own s ne ∙ sym (search_found (suc k) sets own s ne))
    (cases_Bool (eqb s.free 64))

-- the search for the next clause looks at no clause behind it
pub next_take : (n : ℕ) (sets m : List ℕ) → length m < n → next_search (take n sets) m ≡ next_search sets m
unfolding begin
next_take n sets m l =
    search_take n sets (owner m) (λ v. omega (arith, owner_le m v)) search_bound (begin (length m)) (λ i h. let z : i ≡ 0 = omega arith in rw z l)

-- one clause more at most is matched
rematch_short : (k : ℕ) (links m : List ℕ) (v : ℕ) → length (rematch_from k links m v) ≤ suc (length m)
unfolding rematch_from
rematch_short zero links m v = omega arith
rematch_short (suc k) links m v =
    ⊎_elim
    (λ (t : eqb (at links v) (length m) ≡ true). rw t (let e = length-append m (v ∷ []) in omega arith))
    (λ (f : eqb (at links v) (length m) ≡ false).
    rw f (let e = length-set m (at links v) v in let r = rematch_short k links (set m (at links v) v) (at m (at links v)) in omega arith))
    (cases_Bool (eqb (at links v) (length m)))

match_take : (n : ℕ) (sets : List ℕ) (k : ℕ) (m : List ℕ) (e : ℕ) → length m + k ≤ n → match_rest k (take n sets) m e ≡ match_rest k sets m e
match_take n sets zero m e l = match_none (take n sets) m e ∙ sym (match_none sets m e)
match_take n sets (suc k) m e l =
    let q = next_take n sets m (omega arith) in
    let s = next_search sets m in
    ⊎_elim
    (λ (f : eqb s.free 64 ≡ true).
    let z = eqb-true s.free 64 f in
    match_fails k (take n sets) m e (rw q z)
    ∙ ap (λ (r : Search). failure (take r.taken r.queue) (e + r.taken)) q
    ∙ sym (match_fails k sets m e z))
    (λ (f : eqb s.free 64 ≡ false).
    let ne = eqb-false s.free 64 f in
    match_on k (take n sets) m e (rw q ne)
    ∙ ap (λ (r : Search). match_rest k (take n sets) (rematch_from search_bound r.links m r.free) (e + r.taken)) q
    ∙ match_take n sets k (rematch_from search_bound s.links m s.free) (e + s.taken) (let r = rematch_short search_bound s.links m s.free in omega arith)
    ∙ sym (match_on k sets m e ne))
    (cases_Bool (eqb s.free 64))

pub outcome-take : (n : ℕ) (sets : List ℕ) → n ≤ length sets → outcome (take n sets) ≡ match_rest n sets [] 0
unfolding outcome
outcome-take n sets l = rw (length-take-le n sets l) (match_take n sets n [] 0 (omega arith))
