-- Laws of stripping: the order in which it goes, what it leaves, and what it notes.
use Prim.Native.Nat.{ℕ, zero, suc, ◌≤◌, ◌<◌}
use mathlib.Core.Path.{◌≡◌, refl, sym, ◌∙◌, subst}
use mathlib.Core.Bool.{Bool, true, false, cond}
use mathlib.Core.List.Memᴰ
use mathlib.Core.List.Sublistᴰ
use mathlib.Core.List.{List, [], ◌∷◌, map, Memᴰ, Sublistᴰ}
use mathlib.Core.Logic.{◌⊎◌, inl, inr, ⊎_elim}
use native.Mathlib.Omega.{arith}
use lib.Dec.{eqb, ltb}
use borrow.Author.Tests.{eqb-true, eqb-false, ltb-true, ltb-false}
use Rattle.lists.proofs.TestLaws.{bool_cases, bool_clash, or_left, or_right}
use Rattle.lists.proofs.SublistLaws.{Within, sub_within}
use Rattle.matching.proofs.Counting.{count, count_except}
use Rattle.formula.specs.Format.{Literal, names, names_as}
use Rattle.splitting.specs.Nodes.{less, occurs, named, lowest_with}
use Rattle.splitting.specs.Stripping.{pure, not_naming, Stripped, note, strip, stripped}
use Rattle.splitting.specs.Choosing.{among, last}
use Rattle.splitting.specs.Terms.{Below, NonePure, left_after}
use Rattle.splitting.proofs.ClauseLaws.{names_some, names-none, occurs_in, occurs_within, occurs-less, named_some, named_within, pure-named, outside}
use Rattle.splitting.proofs.CountLaws.{count_le, count_drop}
use Rattle.splitting.proofs.SearchLaws.{lowest_some, lowest-none, among_here, among_more, among_cases, among_none, last-among}

-- ── The clauses that do not name a variable ──────────────────────────────────────────────────────────────────────────

not_naming_sub : (x : ℕ) (cs : List (List Literal)) → Sublistᴰ (not_naming x cs) cs
unfolding not_naming
not_naming_sub x [] = Sublistᴰ.slnil
not_naming_sub x (c ∷ cs) = go (names c x) (not_naming_sub x cs)
  where
    go : (b : Bool) → Sublistᴰ (not_naming x cs) cs → Sublistᴰ (cond b (not_naming x cs) (c ∷ not_naming x cs)) (c ∷ cs)
    go true s = Sublistᴰ.cons s
    go false s = Sublistᴰ.cons-cons refl s

-- none of them names it
not_naming_off : (x : ℕ) (cs : List (List Literal)) (s : Bool) → occurs (not_naming x cs) x s ≡ false
unfolding not_naming occurs
not_naming_off x [] s = refl
not_naming_off x (c ∷ cs) s = go (names c x) refl (not_naming_off x cs s)
  where
    go : (b : Bool) → names c x ≡ b → occurs (not_naming x cs) x s ≡ false → occurs (cond b (not_naming x cs) (c ∷ not_naming x cs)) x s ≡ false
    go true e r = r
    go false e r = rw (names-none c x e s) r

-- they are the greatest sub-list that does not
not_naming_greatest : (x : ℕ) {ds cs : List (List Literal)} → Sublistᴰ ds cs → ((s : Bool) → occurs ds x s ≡ false) → Sublistᴰ ds (not_naming x cs)
unfolding not_naming occurs
not_naming_greatest x Sublistᴰ.slnil off = Sublistᴰ.slnil
not_naming_greatest x (Sublistᴰ.cons {a = c} {l₁ = ds} {l₂ = cs} s) off = go (names c x) (not_naming_greatest x s off)
  where
    go : (b : Bool) → Sublistᴰ ds (not_naming x cs) → Sublistᴰ ds (cond b (not_naming x cs) (c ∷ not_naming x cs))
    go true s = s
    go false s = Sublistᴰ.cons s
not_naming_greatest x (Sublistᴰ.cons-cons {a = d} {b = c} {l₁ = ds} {l₂ = cs} e s) off =
    go (names c x) refl (not_naming_greatest x s (λ u. ⊎_elim (λ t. bool_clash (or_right (names_as d x u) (occurs ds x u) t) (off u)) (λ f. f) (bool_cases (occurs ds x u))))
  where
    go : (b : Bool) → names c x ≡ b → Sublistᴰ ds (not_naming x cs) → Sublistᴰ (d ∷ ds) (cond b (not_naming x cs) (c ∷ not_naming x cs))
    go true t s = let w = names_some c x t in bool_clash (or_left (names_as d x w.0) (occurs ds x w.0) (rw e w.1)) (off w.0)
    go false f s = Sublistᴰ.cons-cons e s

-- a clause that does not name x is among them
pub not_naming_in : (x : ℕ) (cs : List (List Literal)) (c : List Literal) → Memᴰ c cs → names c x ≡ false → Memᴰ c (not_naming x cs)
unfolding not_naming
not_naming_in x [] c m f = absurd (Memᴰ.not-nil m)
not_naming_in x (d ∷ cs) c m f = go (names d x) refl (Memᴰ.cases_cons m) (λ k. not_naming_in x cs c k f)
  where
    go : (b : Bool) → names d x ≡ b → (c ≡ d) ⊎ Memᴰ c cs → (Memᴰ c cs → Memᴰ c (not_naming x cs))
        → Memᴰ c (cond b (not_naming x cs) (d ∷ not_naming x cs))
    go true e (inl q) rec = bool_clash e (rw q at f)
    go true e (inr k) rec = rec k
    go false e (inl q) rec = Memᴰ.head q
    go false e (inr k) rec = Memᴰ.tail (rec k)

-- no clause names what does not occur
unnamed : (ds : List (List Literal)) (x : ℕ) (c : List Literal) → Memᴰ c ds → ((s : Bool) → occurs ds x s ≡ false) → names c x ≡ false
unnamed ds x c d off =
    ⊎_elim (λ h. let w = names_some c x h in bool_clash (occurs_in ds c x w.0 d w.1) (off w.0)) (λ f. f) (bool_cases (names c x))

-- fewer variables are named
pub falls : (n x : ℕ) (cs : List (List Literal)) → x < n → pure cs x ≡ true → count (named (not_naming x cs)) n < count (named cs) n
falls n x cs l t =
    count_drop (named (not_naming x cs)) (named cs) n x
    (λ v. named_within (not_naming x cs) cs v (sub_within (not_naming_sub x cs)))
    l
    (pure-named cs x t)
    (⊎_elim (λ h. let w = named_some (not_naming x cs) x h in bool_clash w.1 (not_naming_off x cs w.0)) (λ f. f) (bool_cases (named (not_naming x cs) x)))

-- ── Induction along the stripping ────────────────────────────────────────────────────────────────────────────────────

abbrev Of : (List (List Literal) → List ℕ → List (List Literal) → Type 0) → List (List Literal) → Stripped → Type 0
Of P cs s = P cs s.noted s.left

-- P clauses noted left: it holds where no variable below n is pure, and goes up along each step
module _ (n : ℕ) (P : List (List Literal) → List ℕ → List (List Literal) → Type 0)
    (base : (cs : List (List Literal)) → ((v : ℕ) → v < n → pure cs v ≡ false) → P cs [] cs)
    (step : (cs left : List (List Literal)) (noted : List ℕ) (x : ℕ) → x < n → pure cs x ≡ true → P (not_naming x cs) noted left → P cs (x ∷ noted) left) where
  strip_from : (k : ℕ) (cs : List (List Literal)) → count (named cs) n ≤ k → P cs (strip k n cs).noted (strip k n cs).left
  unfolding strip
  strip_from zero cs le =
      base cs (λ v l. ⊎_elim (λ t. absurd (omega (arith, count_except (named cs) v n l (pure-named cs v t)))) (λ f. f) (bool_cases (pure cs v)))
  strip_from (suc k) cs le = at (λ ds l. strip_from k ds l) (ltb (lowest_with (pure cs) n) n) refl
    where
      at : ((ds : List (List Literal)) → count (named ds) n ≤ k → P ds (strip k n ds).noted (strip k n ds).left) → (b : Bool) → ltb (lowest_with (pure cs) n) n ≡ b
          → Of P cs (elim b [ true ↦ note (lowest_with (pure cs) n) (strip k n (not_naming (lowest_with (pure cs) n) cs)) | false ↦ record { noted = []; left = cs } ])
      at rec true e =
          let x = lowest_with (pure cs) n in
          let l : x < n = ltb-true x n e in
          let t = lowest_some (pure cs) n l in
          step cs _ _ x l t (rec (not_naming x cs) (omega (arith, falls n x cs l t)))
      at rec false e = base cs (lowest-none (pure cs) n (ltb-false (lowest_with (pure cs) n) n e))

  pub strip_ind : (cs : List (List Literal)) → P cs (stripped n cs).noted (stripped n cs).left
  strip_ind cs = strip_from n cs (count_le (named cs) n)

-- ── What is left ─────────────────────────────────────────────────────────────────────────────────────────────────────

-- a sub-list is left
pub left_sub : (n : ℕ) (cs : List (List Literal)) → Sublistᴰ (stripped n cs).left cs
left_sub n =
    strip_ind n (λ cs l left. Sublistᴰ left cs) (λ cs _. Sublistᴰ.refl cs) (λ cs left l x _ _ s. Sublistᴰ.trans s (not_naming_sub x cs))

-- nothing that is left is pure
pub left_none_pure : (n : ℕ) (cs : List (List Literal)) → Below n cs → NonePure (stripped n cs).left
left_none_pure n =
    strip_ind n (λ cs l left. Below n cs → NonePure left)
    (λ cs none low v. ⊎_elim (λ t. bool_clash t (none v (low v (pure-named cs v t)))) (λ f. f) (bool_cases (pure cs v)))
    (λ cs left l x _ _ rec low. rec (λ v t. low v (named_within (not_naming x cs) cs v (sub_within (not_naming_sub x cs)) t)))

-- clauses of the list none of whose variables is pure among themselves name no noted variable
pub none-noted : (n : ℕ) (ds : List (List Literal)) → NonePure ds → (cs : List (List Literal)) → Within ds cs
    → (y : ℕ) → among (stripped n cs).noted y ≡ true → (s : Bool) → occurs ds y s ≡ false
none-noted n ds np =
    strip_ind n (λ cs l left. Within ds cs → (y : ℕ) → among l y ≡ true → (s : Bool) → occurs ds y s ≡ false)
    (λ cs _ w y t. among_none y t)
    (λ cs left l x _ p rec w y t.
    let off = outside ds cs x (λ s. occurs_within ds cs x s w) (np x) p in
    ⊎_elim
    (λ (e : y ≡ x). rw e off)
    (λ m. rec (λ c d. not_naming_in x cs c (w c d) (unnamed ds x c d off)) y m)
    (among_cases y x l t))

-- a sub-list that names no noted variable is left
pub left_keeps : (n : ℕ) (ds cs : List (List Literal)) → Sublistᴰ ds cs
    → ((y : ℕ) → among (stripped n cs).noted y ≡ true → (s : Bool) → occurs ds y s ≡ false) → Sublistᴰ ds (stripped n cs).left
left_keeps n ds cs s off =
    strip_ind n
    (λ cs l left. Sublistᴰ ds cs → ((y : ℕ) → among l y ≡ true → (s : Bool) → occurs ds y s ≡ false) → Sublistᴰ ds left)
    (λ cs _ s off. s)
    (λ cs left l x _ _ rec s off. rec (not_naming_greatest x s (off x (among_here x l))) (λ y t. off y (among_more y x l t)))
    cs s off

-- so every sub-list with no pure variable is left
pub left_greatest : (n : ℕ) (ds cs : List (List Literal)) → Sublistᴰ ds cs → NonePure ds → Sublistᴰ ds (stripped n cs).left
left_greatest n ds cs s np = left_keeps n ds cs s (none-noted n ds np cs (sub_within s))

-- ── What is noted ────────────────────────────────────────────────────────────────────────────────────────────────────

-- a noted variable is named
pub noted-named : (n : ℕ) (cs : List (List Literal)) (y : ℕ) → among (stripped n cs).noted y ≡ true → named cs y ≡ true
noted-named n =
    strip_ind n (λ cs l left. (y : ℕ) → among l y ≡ true → named cs y ≡ true)
    (λ cs _ y t. among_none y t)
    (λ cs left l x _ p rec y t.
    ⊎_elim
    (λ (e : y ≡ x). rw e (pure-named cs x p))
    (λ m. named_within (not_naming x cs) cs y (sub_within (not_naming_sub x cs)) (rec y m))
    (among_cases y x l t))

-- a clause that names no noted variable is left
pub unnoted_left : (n : ℕ) (cs : List (List Literal)) (c : List Literal) → Memᴰ c cs
    → ((y : ℕ) → among (stripped n cs).noted y ≡ true → names c y ≡ false) → Memᴰ c (stripped n cs).left
unnoted_left n cs c =
    strip_ind n (λ cs l left. Memᴰ c cs → ((y : ℕ) → among l y ≡ true → names c y ≡ false) → Memᴰ c left)
    (λ cs _ m off. m)
    (λ cs left l x _ _ rec m off. rec (not_naming_in x cs c m (off x (among_here x l))) (λ y t. off y (among_more y x l t)))
    cs

-- and a clause that is left names none
pub left_unnoted : (n : ℕ) (cs : List (List Literal)) (c : List Literal) → Memᴰ c (stripped n cs).left
    → (y : ℕ) → among (stripped n cs).noted y ≡ true → names c y ≡ false
left_unnoted n cs c m =
    (strip_ind n (λ cs l left. Memᴰ c left → Memᴰ c cs × ((y : ℕ) → among l y ≡ true → names c y ≡ false))
    (λ cs _ m. (m, λ y t. among_none y t))
    (λ cs left l x _ _ rec m.
    let w = rec m in
    let off = unnamed (not_naming x cs) x c w.0 (not_naming_off x cs) in
    (sub_within (not_naming_sub x cs) c w.0, λ y t. ⊎_elim (λ (e : y ≡ x). rw e off) (λ k. w.1 y k) (among_cases y x l t)))
    cs m).1

-- a clause that names none of the variables is left once they have dropped theirs
pub still_there : (before : List ℕ) (cs : List (List Literal)) (c : List Literal) → Memᴰ c cs → ((y : ℕ) → among before y ≡ true → names c y ≡ false)
    → Memᴰ c (left_after before cs)
unfolding left_after
still_there [] cs c m off = m
still_there (v ∷ vs) cs c m off =
    still_there vs (not_naming v cs) c (not_naming_in v cs c m (off v (among_here v vs))) (λ y t. off y (among_more y v vs t))

-- ── Lemma 4.5 of the source ──────────────────────────────────────────────────────────────────────────────────────────

-- where x stands in the rest of a list, if it is the last or stands nowhere
tail_case : (x y : ℕ) (l : List ℕ) → (among (y ∷ l) x ≡ false) ⊎ (last (y ∷ l) ≡ x) → (among l x ≡ false) ⊎ (last l ≡ x)
unfolding among last
tail_case x y l (inl f) = inl (⊎_elim (λ t. bool_clash (among_more x y l t) f) (λ g. g) (bool_cases (among l x)))
tail_case x y [] (inr e) = inl refl
tail_case x y (q ∷ r) (inr e) = inr e

head_case : (x : ℕ) (l : List ℕ) → (among (x ∷ l) x ≡ false) ⊎ (last (x ∷ l) ≡ x) → (l ≡ []) ⊎ (among l x ≡ true)
unfolding last
head_case x l (inl f) = bool_clash (among_here x l) f
head_case x [] (inr e) = inl refl
head_case x (q ∷ r) (inr e) = inr (subst (λ z. among (q ∷ r) z ≡ true) e (last-among q r))

-- Clauses of the list, none of whose variables is pure among them once x is gone; x is noted last or not at all. Then they name no noted
-- variable but x.
pub none-noted_but : (n x : ℕ) (ds : List (List Literal)) → NonePure (map (less x) ds) → (cs : List (List Literal)) → Within ds cs
    → (among (stripped n cs).noted x ≡ false) ⊎ (last (stripped n cs).noted ≡ x)
    → (y : ℕ) → among (stripped n cs).noted y ≡ true → (y ≡ x → ⊥) → (s : Bool) → occurs ds y s ≡ false
none-noted_but n x ds np cs =
    (strip_ind n
    (λ cs l left. ((z : ℕ) → among l z ≡ true → named cs z ≡ true)
    × (Within ds cs → (among l x ≡ false) ⊎ (last l ≡ x) → (y : ℕ) → among l y ≡ true → (y ≡ x → ⊥) → (s : Bool) → occurs ds y s ≡ false))
    (λ cs _. (λ z t. among_none z t, λ _ _ y t. among_none y t))
    (λ cs left l z _ p rec. (
      λ y t.
          ⊎_elim
          (λ (e : y ≡ z). rw e (pure-named cs z p))
          (λ m. named_within (not_naming z cs) cs y (sub_within (not_naming_sub z cs)) (rec.0 y m))
          (among_cases y z l t),
      λ w e y t ne s.
          ⊎_elim
          (λ (same : z ≡ x).
          ⊎_elim
          (λ (nil : l ≡ []).
          ⊎_elim (λ (q : y ≡ z). absurd (ne (q ∙ same))) (λ m. among_none y (subst (λ r. among r y ≡ true) nil m)) (among_cases y z l t))
          (λ (m : among l z ≡ true). let o = named_some (not_naming z cs) z (rec.0 z m) in bool_clash o.1 (not_naming_off z cs o.0))
          (head_case z l (subst (λ v. (among (z ∷ l) v ≡ false) ⊎ (last (z ∷ l) ≡ v)) (sym same) e)))
          (λ (other : z ≡ x → ⊥).
          let off = away cs z w other p in
          ⊎_elim
          (λ (q : y ≡ z). rw q (off s))
          (λ m. rec.1 (λ c d. not_naming_in z cs c (w c d) (unnamed ds z c d off)) (tail_case x z l e) y m ne s)
          (among_cases y z l t))
          (⊎_elim (λ q. inl (eqb-true z x q)) (λ q. inr (eqb-false z x q)) (bool_cases (eqb z x))),
    ))
    cs).1
  where
    away : (cs : List (List Literal)) (z : ℕ) → Within ds cs → (z ≡ x → ⊥) → pure cs z ≡ true → (s : Bool) → occurs ds z s ≡ false
    away cs z w other p s =
        sym (occurs-less x ds z s other)
        ∙ outside (map (less x) ds) cs z (λ u t. occurs_within ds cs z u w (sym (occurs-less x ds z u other) ∙ t)) (np z) p s
