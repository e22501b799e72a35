-- The deficiency version of Hall's theorem over lists of masks: any clauses and any that can be matched; and clauses with as large an
-- excess as are left aside, from the searches that fail.
use Prim.Native.Nat.{ℕ, suc, ◌+◌, ◌-◌, ◌^◌, ◌≤◌, ◌<◌}
use mathlib.Core.Bool.{Bool, true, false, cond, not, ◌&&◌}
use mathlib.Core.List.Memᴰ
use mathlib.Core.List.Sublistᴰ
use mathlib.Core.List.{List, [], ◌∷◌, ◌++◌, map, Memᴰ, Sublistᴰ}
use mathlib.Core.Logic.{⊎_elim}
use mathlib.Core.Path.{◌≡◌, refl, sym, ◌∙◌, ap, subst}
use native.Mathlib.Omega.{arith}
use lib.Bits.{bit_or}
use lib.Dec.{eqb}
use lib.ListN.{length, length-append, length-map, get_or-append}
use lib.Seq.{get_or-append_seam}
use borrow.Author.Tests.{eqb-true, eq-eqb}
use Rattle.std.proofs.lemmas.List.{get_or-map}
use Rattle.lists.proofs.SublistLaws.{get_or_element, element_place, sub_within}
use Rattle.std.proofs.lemmas.Bool.{cases_Bool}
use Rattle.lists.proofs.TestLaws.{bool_clash, or_cases, or_left, or_right}
use Rattle.masks.specs.Mask.{bit, minus, size}
use Rattle.masks.proofs.BitLaws.{bit-or, bit-none, bit-minus}
use Rattle.masks.proofs.MembersLaws.{mask_same}
use Rattle.matching.specs.Sets.{Words, union, selected}
use Rattle.matching.specs.InnerMatched.{Matched}
use Rattle.matching.specs.Search.{owner, Search, next_search, rematch_from, search_bound}
use Rattle.matching.specs.Inner.{at, Partial}
use Rattle.matching.proofs.Counting.{one_if, pigeon, count_sub, count_all}
use Rattle.matching.proofs.OwnerLaws.{zero_or_suc, owner_free, owner_some}
use Rattle.matching.proofs.Augmenting.{snoc_cases, rematch_partial}
use Rattle.matching.proofs.SearchLaws.{Stuck, Reached, search_next}
use Rattle.matching.proofs.SelectedLaws.{selected_from, selected_size, selected_sub, sub_selected}
use Rattle.matching.proofs.MatchedLaws.{union_of, union_in, count_members, matched_room, selected_in, sub_list_matched}
use Rattle.matching.proofs.OutcomeLaws.{words-selected, partial_matches}

-- ── Words and masks ───────────────────────────────────────────────────────────────────────────────────────────────────

pub words_sub : {xs sets : List ℕ} → Sublistᴰ xs sets → Words sets → Words xs
words_sub {sets = sets} s W = let k = sub_selected s in subst Words k.1 (words-selected k.0 sets W)

pub words_element : (l : List ℕ) (s : ℕ) → Words l → Memᴰ s l → s < 2 ^ 64
words_element l s W m = let p = element_place l s 0 m in rw (sym p.2) (W p.0 p.1)

-- one clause more
pub words_more : (l : List ℕ) (s : ℕ) → Words l → s < 2 ^ 64 → Words (l ++ (s ∷ []))
words_more l s W h i k =
    ⊎_elim
    (λ (p : (i ≡ length l) × (at (l ++ (s ∷ [])) i ≡ s)). rw p.1 h)
    (λ (p : (i < length l) × (at (l ++ (s ∷ [])) i ≡ at l i)). rw p.1 (W i p.0))
    (snoc_cases l s i k)

-- the first mask has all that the second has
abbrev pub Includes : ℕ → ℕ → Type 0
Includes w s = (x : ℕ) → bit s x ≡ true → bit w x ≡ true

-- it is at least as large, then
includes_size : (w s : ℕ) → Includes w s → size s ≤ size w
includes_size w s c = omega (arith, count_sub (bit s) (bit w) 64 c, count_members s 64, count_members w 64)

-- what includes each clause of a list includes their union
union_included : (l : List ℕ) (w : ℕ) → ((s : ℕ) → Memᴰ s l → Includes w s) → Includes w (union l)
union_included l w f x t = let u = union_of l x t in f (at l u.0) (get_or_element l u.0 0 u.1) x u.2

element_included : (l : List ℕ) (s : ℕ) → Memᴰ s l → Includes (union l) s
element_included l s m x t = let p = element_place l s 0 m in union_in l x p.0 p.1 (rw p.2 t)

-- ── Any clauses, and any that can be matched ──────────────────────────────────────────────────────────────────────────

-- what two sub-lists have in common, by place
record Common (xs ys sets : List ℕ) : Type 0 where
  list : List ℕ
  left : Sublistᴰ list xs
  right : Sublistᴰ list ys
  few : length xs + length ys ≤ length sets + length list

common : {xs ys sets : List ℕ} → Sublistᴰ xs sets → Sublistᴰ ys sets → Common xs ys sets
common Sublistᴰ.slnil Sublistᴰ.slnil = record { list = []; left = Sublistᴰ.slnil; right = Sublistᴰ.slnil; few = omega arith }
common (Sublistᴰ.cons s) (Sublistᴰ.cons t) =
    let c = common s t in record { list = c.list; left = c.left; right = c.right; few = omega (arith, c.few) }
common (Sublistᴰ.cons s) (Sublistᴰ.cons-cons e t) =
    let c = common s t in record { list = c.list; left = c.left; right = Sublistᴰ.cons c.right; few = omega (arith, c.few) }
common (Sublistᴰ.cons-cons e s) (Sublistᴰ.cons t) =
    let c = common s t in record { list = c.list; left = Sublistᴰ.cons c.left; right = c.right; few = omega (arith, c.few) }
common (Sublistᴰ.cons-cons {a = x} e s) (Sublistᴰ.cons-cons d t) =
    let c = common s t in
    record { list = x ∷ c.list; left = Sublistᴰ.cons-cons refl c.left; right = Sublistᴰ.cons-cons (e ∙ sym d) c.right; few = omega (arith, c.few) }

-- together they are at most all clauses and the variables that the first name: what is common is matched
pub any_with_matched : {xs ys sets : List ℕ} → Words sets → Sublistᴰ xs sets → Sublistᴰ ys sets → Matched ys
    → length xs + length ys ≤ length sets + size (union xs)
any_with_matched {xs} {ys} {sets} W s t M =
    let c = common s t in
    let a = matched_room c.list (words_sub (Sublistᴰ.trans c.left s) W) (sub_list_matched c.right M) in
    let b = includes_size (union xs) (union c.list) (union_included c.list (union xs) (λ k m. element_included xs k (sub_within c.left k m))) in
    omega (arith, c.few)

-- ── Clauses kept and left aside ───────────────────────────────────────────────────────────────────────────────────────

-- a list in two parts, each in its order: the kept clauses, and those left aside
pub data Parts : List ℕ → List ℕ → List ℕ → Type 0 where
  no_clauses : Parts [] [] []
  one_kept : (s : ℕ) {kept aside sets : List ℕ} → Parts kept aside sets → Parts (s ∷ kept) aside (s ∷ sets)
  one_aside : (s : ℕ) {kept aside sets : List ℕ} → Parts kept aside sets → Parts kept (s ∷ aside) (s ∷ sets)

pub parts_length : {kept aside sets : List ℕ} → Parts kept aside sets → length sets ≡ length kept + length aside
parts_length no_clauses = refl
parts_length (one_kept s p) = omega (arith, parts_length p)
parts_length (one_aside s p) = omega (arith, parts_length p)

pub parts_kept : {kept aside sets : List ℕ} → Parts kept aside sets → Sublistᴰ kept sets
parts_kept no_clauses = Sublistᴰ.slnil
parts_kept (one_kept s p) = Sublistᴰ.cons-cons refl (parts_kept p)
parts_kept (one_aside s p) = Sublistᴰ.cons (parts_kept p)

pub parts_aside : {kept aside sets : List ℕ} → Parts kept aside sets → Sublistᴰ aside sets
parts_aside no_clauses = Sublistᴰ.slnil
parts_aside (one_kept s p) = Sublistᴰ.cons (parts_aside p)
parts_aside (one_aside s p) = Sublistᴰ.cons-cons refl (parts_aside p)

-- one clause more
pub parts_keep : (s : ℕ) {kept aside sets : List ℕ} → Parts kept aside sets → Parts (kept ++ (s ∷ [])) aside (sets ++ (s ∷ []))
parts_keep s no_clauses = one_kept s no_clauses
parts_keep s (one_kept t p) = one_kept t (parts_keep s p)
parts_keep s (one_aside t p) = one_aside t (parts_keep s p)

pub parts_leave : (s : ℕ) {kept aside sets : List ℕ} → Parts kept aside sets → Parts kept (aside ++ (s ∷ [])) (sets ++ (s ∷ []))
parts_leave s no_clauses = one_aside s no_clauses
parts_leave s (one_kept t p) = one_kept t (parts_leave s p)
parts_leave s (one_aside t p) = one_aside t (parts_leave s p)

-- ---- the clauses that a mask includes

module _ (w : ℕ) where
  -- the clause names nothing outside the mask
  included : ℕ → Bool
  included s = eqb (minus s w) 0

  included_true : (s : ℕ) → included s ≡ true → Includes w s
  unfolding included
  included_true s e x t =
      ⊎_elim
      (λ (u : bit w x ≡ true). u)
      (λ (u : bit w x ≡ false).
      bool_clash (bit-minus s w x ∙ rw (t, u)) (ap (λ (m : ℕ). bit m x) (eqb-true (minus s w) 0 e) ∙ bit-none x))
      (cases_Bool (bit w x))

  true_included : (s : ℕ) → Includes w s → included s ≡ true
  unfolding included
  true_included s c = eq-eqb (minus s w) 0 (mask_same (minus s w) 0 (λ x. bit-minus s w x ∙ by x (bit s x) refl ∙ sym (bit-none x)))
    where
      by : (x : ℕ) (b : Bool) → bit s x ≡ b → b && not (bit w x) ≡ false
      by x true e = rw (c x e)
      by x false e = refl

  -- a mark for each of a list, and what they select
  abbrev included_marks : List ℕ → List ℕ
  included_marks l = map (λ s. one_if (included s)) l

  abbrev all_included : List ℕ → List ℕ
  all_included l = selected (included_marks l) l

  mark_included : (l : List ℕ) (i : ℕ) → i < length l → (at (included_marks l) i ≡ 0 → ⊥) → included (at l i) ≡ true
  mark_included l i h ne =
      ⊎_elim
      (λ t. t)
      (λ (f : included (at l i) ≡ false). absurd (ne (get_or-map (λ s. one_if (included s)) l i 0 0 h ∙ rw f)))
      (cases_Bool (included (at l i)))

  included_mark : (l : List ℕ) (i : ℕ) → i < length l → included (at l i) ≡ true → at (included_marks l) i ≡ 0 → ⊥
  included_mark l i h t z = let e : ◌≡◌ {A = ℕ} 1 0 = sym (ap one_if t) ∙ sym (get_or-map (λ s. one_if (included s)) l i 0 0 h) ∙ z in omega arith

  -- the mask includes what they name
  included_union : (l : List ℕ) → Includes w (union (all_included l))
  included_union l = union_included (all_included l) w (λ s m x t.
      let p = element_place (all_included l) s 0 m in
      let o = selected_from (included_marks l) l 0 p.0 p.1 in
      included_true s (rw (sym p.2, o.4) (mark_included l o.0 o.2 o.3)) x t)

  -- of two parts
  included_parts : {kept aside sets : List ℕ} → Parts kept aside sets → length (all_included sets) ≡ length (all_included kept) + length (all_included aside)
  unfolding selected
  included_parts no_clauses = refl
  included_parts (one_kept s {kept} {aside} {sets} p) = by (included s) (included_parts p)
    where
      by : (b : Bool) → length (all_included sets) ≡ length (all_included kept) + length (all_included aside)
          → length (cond (eqb (one_if b) 0) (all_included sets) (s ∷ all_included sets)) ≡ length (cond (eqb (one_if b) 0) (all_included kept) (s ∷ all_included kept)) + length (all_included aside)
      by true e = omega arith
      by false e = e
  included_parts (one_aside s {kept} {aside} {sets} p) = by (included s) (included_parts p)
    where
      by : (b : Bool) → length (all_included sets) ≡ length (all_included kept) + length (all_included aside)
          → length (cond (eqb (one_if b) 0) (all_included sets) (s ∷ all_included sets)) ≡ length (all_included kept) + length (cond (eqb (one_if b) 0) (all_included aside) (s ∷ all_included aside))
      by true e = omega arith
      by false e = e

  -- all of a list
  included_whole : (l : List ℕ) → ((s : ℕ) → Memᴰ s l → Includes w s) → length (all_included l) ≡ length l
  unfolding selected
  included_whole [] f = refl
  included_whole (s ∷ l) f =
      rw (true_included s (f s (Memᴰ.head refl))) (ap suc (included_whole l (λ k m. f k (Memᴰ.tail m))))

  -- a list of variables that has all members of the mask is at least as long as the mask is large
  mask_room : (vs : List ℕ) → ((x : ℕ) → bit w x ≡ true → (i : ℕ) × (i < length vs) × (at vs i ≡ x)) → size w ≤ length vs
  mask_room vs f =
      let k = pigeon (bit w) 64 (λ _. true) (length vs) (λ x. owner vs x - 1)
      (λ x l t. let o = own x t in (omega (arith, o.1, o.2), refl))
      (λ x y l m t u e.
      let o = own x t in
      let q = own y u in
      let c : o.0 ≡ q.0 = omega (arith, o.1, q.1) in
      sym o.3 ∙ ap (at vs) c ∙ q.3) in
      omega (arith, count_all (length vs), count_members w 64)
    where
      own : (x : ℕ) → bit w x ≡ true → (c : ℕ) × (owner vs x ≡ suc c) × (c < length vs) × (at vs c ≡ x)
      own x t =
          ⊎_elim
          (λ (z : owner vs x ≡ 0). let p = f x t in absurd (owner_free vs x z p.0 p.1 p.2))
          (λ (s : (c : ℕ) × (owner vs x ≡ suc c)). let o = owner_some vs x s.0 s.1 in (s.0, s.1, o.0, o.1))
          (zero_or_suc (owner vs x))

-- ---- closed masks

-- A mask that includes the clauses left aside, and with the variable of a kept clause the clause; each of its variables is that of a kept
-- clause. m has the variables of the kept clauses, in order.
pub record Closed (kept m aside : List ℕ) (w : ℕ) : Type 0 where
  pub asides : (r : ℕ) → Memᴰ r aside → Includes w r
  pub keeps : (i : ℕ) → i < length kept → bit w (at m i) ≡ true → Includes w (at kept i)
  pub used : (x : ℕ) → bit w x ≡ true → (i : ℕ) × (i < length m) × (at m i ≡ x)

-- the clauses that it includes are more than they name, by at least as many as are left aside
pub closed-excess : {kept m aside sets : List ℕ} {w : ℕ} → Parts kept aside sets → length m ≡ length kept → Closed kept m aside w
    → (u : List ℕ) × Sublistᴰ u sets × (length aside + size (union u) ≤ length u)
closed-excess {kept} {m} {aside} {sets} {w} p e C =
    let marks = included_marks w kept in
    let k : length marks ≡ length kept = length-map kept (λ s. one_if (included w s)) in
    let a = includes_size w (union (all_included w sets)) (included_union w sets) in
    let b = mask_room w (selected marks m)
    (λ x t.
    let u = C.used x t in
    let l : u.0 < length kept = omega (arith, u.1) in
    let f = selected_in marks m u.0 (rw k l) u.1
    (included_mark w kept u.0 l (true_included w (at kept u.0) (C.keeps u.0 l (rw u.2 t)))) in
    (f.at, f.within, f.is ∙ u.2)) in
    (all_included w sets, selected_sub (included_marks w sets) sets, omega (arith, included_parts w p, included_whole w aside C.asides, selected_size marks kept m (sym e)))

-- what a failed search for r saw is closed
stuck_closed : (kept m : List ℕ) (r : ℕ) → Partial (kept ++ (r ∷ [])) m → length m ≡ length kept → (s : Search) → Stuck (kept ++ (r ∷ [])) m s
    → Closed kept m (r ∷ []) s.seen
stuck_closed kept m r M e s S =
    let I = S.inv in
    record {
      asides = λ q n x t.
          ⊎_elim
          (λ (z : q ≡ r).
          let own : at (kept ++ (r ∷ [])) (at s.queue 0) ≡ r = rw (I.root, e) (get_or-append_seam kept r [] 0) in
          I.closed 0 x (omega (arith, S.all_taken, I.some)) (rw own (rw z at t)))
          (λ (z : Memᴰ q []). absurd (Memᴰ.not-nil z))
          (Memᴰ.cases_cons n);
      keeps = λ i l t x u.
          let p = I.place (at m i) t in
          let c : at s.queue (I.place_of (at m i)) ≡ i = M.distinct _ i p.2 (omega arith) p.3 in
          let own : at (kept ++ (r ∷ [])) (at s.queue (I.place_of (at m i))) ≡ at kept i = rw c (get_or-append kept (r ∷ []) 0 i l) in
          I.closed (I.place_of (at m i)) x (omega (arith, p.1, S.all_taken)) (rw own u);
      used = λ x t. let p = I.place x t in (at s.queue (I.place_of x), p.2, p.3);
    }

-- two closed masks together
closed_both : {kept m rs ts : List ℕ} {v w : ℕ} → Closed kept m rs v → Closed kept m ts w → Closed kept m (rs ++ ts) (bit_or v w)
closed_both {kept} {m} {rs} {ts} {v} {w} C D = record {
  asides = λ r n.
      ⊎_elim
      (λ (a : Memᴰ r rs). left r (C.asides r a))
      (λ (b : Memᴰ r ts). right r (D.asides r b))
      (Memᴰ.append_cases rs n);
  keeps = λ i l t.
      ⊎_elim
      (λ a. left (at kept i) (C.keeps i l a))
      (λ b. right (at kept i) (D.keeps i l b))
      (or_cases (bit v (at m i)) (bit w (at m i)) (sym (bit-or v w (at m i)) ∙ t));
  used = λ x t. ⊎_elim (C.used x) (D.used x) (or_cases (bit v x) (bit w x) (sym (bit-or v w x) ∙ t));
}
  where
    left : (s : ℕ) → Includes v s → Includes (bit_or v w) s
    left s c x t = bit-or v w x ∙ or_left (bit v x) (bit w x) (c x t)

    right : (s : ℕ) → Includes w s → Includes (bit_or v w) s
    right s c x t = bit-or v w x ∙ or_right (bit v x) (bit w x) (c x t)

-- ---- clauses that can't be matched with the kept ones

-- the matching of the kept clauses serves the longer list
pub partial_longer : (kept m : List ℕ) (r : ℕ) → Partial kept m → length m ≡ length kept → Partial (kept ++ (r ∷ [])) m
partial_longer kept m r M e = record { named = λ i h. rw (get_or-append kept (r ∷ []) 0 i (omega arith)) (M.named i h); distinct = M.distinct }

-- where a path is found, one clause more is matched
reached_matched : (sets m : List ℕ) → Partial sets m → length sets ≡ suc (length m) → (s : Search) → Reached sets m s → Matched sets
reached_matched sets m M e s R =
    let P = rematch_partial sets s.links search_bound m s.free M R.1.0 R.1.1 in
    let n = rematch_from search_bound s.links m s.free in
    (n, partial_matches sets n P.0 (omega (arith, P.1)))

-- so there is a closed mask for all of them
pub aside_closed : (kept m : List ℕ) → Words kept → Partial kept m → length m ≡ length kept → (aside : List ℕ)
    → ((r : ℕ) → Memᴰ r aside → (r < 2 ^ 64) × (Matched (kept ++ (r ∷ [])) → ⊥)) → (w : ℕ) × Closed kept m aside w
aside_closed kept m W M e [] f = (
  0,
  record { asides = λ r n. absurd (Memᴰ.not-nil n); keeps = λ i l t. bool_clash t (bit-none (at m i)); used = λ x t. bool_clash t (bit-none x) },
)
aside_closed kept m W M e (r ∷ aside) f =
    let rest = aside_closed kept m W M e aside (λ q n. f q (Memᴰ.tail n)) in
    let g = f r (Memᴰ.head refl) in
    let L = partial_longer kept m r M e in
    let s = next_search (kept ++ (r ∷ [])) m in
    let k : length (kept ++ (r ∷ [])) ≡ suc (length m) = length-append kept (r ∷ []) ∙ omega arith in
    ⊎_elim
    (λ (S : Stuck (kept ++ (r ∷ [])) m s). (bit_or s.seen rest.0, closed_both (stuck_closed kept m r L e s S) rest.1))
    (λ (R : Reached (kept ++ (r ∷ [])) m s). absurd (g.1 (reached_matched (kept ++ (r ∷ [])) m L k s R)))
    (search_next (kept ++ (r ∷ [])) m (words_more kept r W g.0)).0
