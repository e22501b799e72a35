-- The equations of the search's definitions: one variable, one clause, one expansion.
use mathlib.Core.Path.{◌≡◌, refl, ◌∙◌}
use mathlib.Core.Bool.{Bool, true, false, ◌&&◌, cond}
use mathlib.Core.Logic.{⊎_elim}
use mathlib.Core.List.{List, [], ◌∷◌, ◌++◌}
use Prim.Native.Nat.{ℕ, zero, suc, ◌-◌, ◌≤◌, ◌<◌}
use native.Mathlib.Omega.{arith}
use lib.ListN.{length, set}
use lib.Dec.{eqb}
use borrow.Author.Tests.{eqb-true, eqb-false, eq-eqb, ne_eqb, lt-ltb, le-ltb}
use Rattle.std.proofs.lemmas.Bool.{cases_Bool}
use Rattle.masks.specs.Mask.{bit, with, members}
use Rattle.matching.specs.Search.{Search, see, scan, take_front, front, expand, search_from}
use Rattle.matching.specs.Inner.{at}

pub see_free : (own : ℕ → ℕ) (c v : ℕ) (s : Search) → own v ≡ 0
    → see own c v s ≡ record { queue = s.queue; taken = s.taken; seen = with s.seen v; links = set s.links v c; free = v }
unfolding see
see_free own c v s e = rw e

pub see_matched : (own : ℕ → ℕ) (c v k : ℕ) (s : Search) → own v ≡ suc k
    → see own c v s ≡ record { queue = s.queue ++ (k ∷ []); taken = s.taken; seen = with s.seen v; links = set s.links v c; free = 64 }
unfolding see
see_matched own c v k s e = let z : suc k - 1 ≡ k = omega arith in rw (e, ne_eqb (suc k) 0 (omega arith), z)

pub see_seen : (own : ℕ → ℕ) (c v : ℕ) (s : Search) → (see own c v s).seen ≡ with s.seen v
unfolding see
see_seen own c v s = refl

pub scan-none : (own : ℕ → ℕ) (c : ℕ) (s : Search) → scan own c [] s ≡ s
unfolding scan
scan-none own c s = refl

pub scan_old : (own : ℕ → ℕ) (c v : ℕ) (vs : List ℕ) (s : Search) → s.free ≡ 64 → bit s.seen v ≡ true → scan own c (v ∷ vs) s ≡ scan own c vs s
unfolding scan
scan_old own c v vs s f b = rw (eq-eqb s.free 64 f, b)

pub scan_new : (own : ℕ → ℕ) (c v : ℕ) (vs : List ℕ) (s : Search) → s.free ≡ 64 → bit s.seen v ≡ false
    → scan own c (v ∷ vs) s ≡ scan own c vs (see own c v s)
unfolding scan
scan_new own c v vs s f b = rw (eq-eqb s.free 64 f, b)

-- once an augmenting path is found nothing more is seen
pub scan_stop : (own : ℕ → ℕ) (c : ℕ) (vs : List ℕ) (s : Search) → (s.free ≡ 64 → ⊥) → scan own c vs s ≡ s
unfolding scan
scan_stop own c [] s ne = refl
scan_stop own c (v ∷ vs) s ne = rw (ne_eqb s.free 64 ne)

pub search_on : (k : ℕ) (sets : List ℕ) (own : ℕ → ℕ) (s : Search) → s.free ≡ 64 → s.taken < length s.queue
    → search_from (suc k) sets own s ≡ search_from k sets own (expand sets own s)
unfolding search_from
search_on k sets own s f l = rw (eq-eqb s.free 64 f, lt-ltb s.taken (length s.queue) l)

pub search_found : (k : ℕ) (sets : List ℕ) (own : ℕ → ℕ) (s : Search) → (s.free ≡ 64 → ⊥) → search_from k sets own s ≡ s
unfolding search_from
search_found zero sets own s ne = refl
search_found (suc k) sets own s ne = rw (ne_eqb s.free 64 ne)

pub search_empty : (k : ℕ) (sets : List ℕ) (own : ℕ → ℕ) (s : Search) → length s.queue ≤ s.taken → search_from k sets own s ≡ s
unfolding search_from
search_empty zero sets own s l = refl
search_empty (suc k) sets own s l = rw (le-ltb s.taken (length s.queue) l) (both (eqb s.free 64))
  where
    both : (b : Bool) → cond (b && false) (search_from k sets own (expand sets own s)) s ≡ s
    both true = refl
    both false = refl

see_taken : (own : ℕ → ℕ) (c v : ℕ) (s : Search) → (see own c v s).taken ≡ s.taken
unfolding see
see_taken own c v s = refl

pub scan-taken : (own : ℕ → ℕ) (c : ℕ) (vs : List ℕ) (s : Search) → (scan own c vs s).taken ≡ s.taken
scan-taken own c [] s = rw scan-none
scan-taken own c (v ∷ vs) s =
    ⊎_elim
    (λ (f : eqb s.free 64 ≡ true).
    let e = eqb-true s.free 64 f in
    ⊎_elim
    (λ (b : bit s.seen v ≡ true). rw (scan_old own c v vs s e b) (scan-taken own c vs s))
    (λ (b : bit s.seen v ≡ false). rw (scan_new own c v vs s e b) (scan-taken own c vs (see own c v s) ∙ see_taken own c v s))
    (cases_Bool (bit s.seen v)))
    (λ (f : eqb s.free 64 ≡ false). rw (scan_stop own c (v ∷ vs) s (eqb-false s.free 64 f)))
    (cases_Bool (eqb s.free 64))

pub expand-taken : (sets : List ℕ) (own : ℕ → ℕ) (s : Search) → (expand sets own s).taken ≡ suc s.taken
unfolding expand take_front
expand-taken sets own s = scan-taken own (front s) (members (at sets (front s)) 64) (take_front s)
