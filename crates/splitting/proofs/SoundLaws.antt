-- Laws of the invariant: what stripping leaves is matched.
use Prim.Native.Nat.{ℕ}
use mathlib.Core.Path.{◌≡◌, refl, sym, ◌∙◌, ap, subst}
use mathlib.Core.Bool.{Bool, true, false, not, ◌&&◌, ◌||◌}
use mathlib.Core.List.Memᴰ
use mathlib.Core.List.{List, [], ◌∷◌, ◌++◌, map, append-nil, Memᴰ, Sublistᴰ}
use mathlib.Core.Logic.{◌⊎◌, inl, inr, ⊎_elim}
use native.Mathlib.Omega.{arith}
use lib.Dec.{eqb}
use borrow.Author.Tests.{eqb-true, eqb-false, not-true}
use Rattle.lists.proofs.SublistLaws.{Within, sub_within, no_elements}
use Rattle.lists.proofs.TestLaws.{and_left, and_right, and_both, bool_cases, bool_clash, or_left, or_right}
use Rattle.masks.specs.Mask.{full}
use Rattle.matching.specs.InnerMatched.{Matched}
use Rattle.formula.specs.Format.{Literal, names, names_as}
use Rattle.formula.specs.Masked.{variables}
use Rattle.formula.proofs.ClauseLaws.{named_as}
use Rattle.splitting.specs.Nodes.{less, assign, occurs, named, upward}
use Rattle.splitting.specs.Stripping.{stripped}
use Rattle.splitting.specs.Choosing.{among, listed, last, emptied}
use Rattle.splitting.specs.Terms.{Below, NonePure, Sound}
use Rattle.splitting.proofs.ClauseLaws.{names_some, less_of, occurs_in, occurs-append, occurs-less, named_some, named_by, not-pure, pure-not, other_way}
use Rattle.splitting.proofs.SearchLaws.{among_here, among_more, among_cases, among_none, among-append, among_left, among-right, last-among, last-append, upward_of, upward_in}
use Rattle.splitting.proofs.StrippingLaws.{left_sub, left_none_pure, none-noted, left_keeps, noted-named, unnoted_left, none-noted_but}
use Rattle.splitting.proofs.NodeLaws.{Origin, assign-origin, assign_sub, below_assign, emptied_some, emptied-none}
use Rattle.splitting.proofs.MatchedLaws.{sub_matched}
use Rattle.splitting.proofs.ModelLaws.{Satisfies, satisfies_assign, left_satisfies, matched_satisfies}

-- a matched list is sound
pub matched_sound : (n : ℕ) (cs : List (List Literal)) → Matched (map variables cs) → Sound n cs
matched_sound n cs M = sub_matched (left_sub n cs) M

-- nothing left is matched
pub none_sound : (n : ℕ) (cs : List (List Literal)) → (stripped n cs).left ≡ [] → Sound n cs
none_sound n cs e = rw e ([], record { one_each = refl; named = λ i h. absurd (omega arith); distinct = λ i j h. absurd (omega arith) })

-- a sound list can be satisfied
pub sound_satisfies : (n : ℕ) (cs : List (List Literal)) → Sound n cs → (a : ℕ → Bool) × Satisfies a cs
sound_satisfies n cs S = let w = matched_satisfies (stripped n cs).left S in left_satisfies n w.0 cs w.1

-- ── Something is left ────────────────────────────────────────────────────────────────────────────────────────────────

-- What is left after x = b, seen as clauses before it, lies in what was left before, if x is named there.
left_origin : (n x : ℕ) (b : Bool) (cs : List (List Literal)) → Below n cs → named (stripped n cs).left x ≡ true
    → Sublistᴰ (stripped n (assign x b cs)).left (assign x b (stripped n cs).left)
left_origin n x b cs low at = rw O.left (assign_sub x b (left_keeps n ds cs O.sub clear) O.unsatisfied)
  where
    kept : List (List Literal)
    kept = (stripped n cs).left

    O : Origin x b (stripped n (assign x b cs)).left cs
    O = assign-origin x b cs (left_sub n (assign x b cs))

    ds : List (List Literal)
    ds = O.clauses

    kept_none : NonePure kept
    kept_none = left_none_pure n cs low

    -- x occurs both ways in what was left, another variable both ways or not at all in either part
    none : NonePure (kept ++ ds)
    none v =
        ⊎_elim
        (λ (t : eqb v x ≡ true).
        let w = named_some kept x at in
        let both : (s : Bool) → occurs (kept ++ ds) x s ≡ true =
        λ s. occurs-append kept ds x s ∙ or_left (occurs kept x s) (occurs ds x s) (other_way kept x (kept_none x) w.0 s w.1) in
        rw (eqb-true v x t) (pure-not (kept ++ ds) x (both true ∙ sym (both false))))
        (λ (f : eqb v x ≡ false).
        let r = left_none_pure n (assign x b cs) (below_assign n x b cs low) v in
        let p = not-pure kept v (kept_none v) in
        let same : (s : Bool) → occurs ds v s ≡ occurs (stripped n (assign x b cs)).left v s =
        λ s. sym (occurs-less x ds v s (eqb-false v x f)) ∙ ap (λ (l : List (List Literal)). occurs l v s) (sym O.left) in
        let d : occurs ds v true ≡ occurs ds v false = same true ∙ not-pure (stripped n (assign x b cs)).left v r ∙ sym (same false) in
        let q : occurs kept v true || occurs ds v true ≡ occurs kept v false || occurs ds v false = rw (p, d) in
        pure-not (kept ++ ds) v (occurs-append kept ds v true ∙ q ∙ sym (occurs-append kept ds v false)))
        (bool_cases (eqb v x))

    within : Within (kept ++ ds) cs
    within c m = ⊎_elim (sub_within (left_sub n cs) c) (sub_within O.sub c) (Memᴰ.append_cases kept m)

    clear : (y : ℕ) → among (stripped n cs).noted y ≡ true → (s : Bool) → occurs ds y s ≡ false
    clear y t s =
        ⊎_elim
        (λ h. bool_clash (occurs-append kept ds y s ∙ or_right (occurs kept y s) (occurs ds y s) h) (none-noted n (kept ++ ds) none cs within y t s))
        (λ f. f)
        (bool_cases (occurs ds y s))

-- so x keeps the invariant
pub left_sound : (n x : ℕ) (b : Bool) (cs : List (List Literal)) → Below n cs → named (stripped n cs).left x ≡ true
    → Matched (map variables (assign x b (stripped n cs).left)) → Sound n (assign x b cs)
left_sound n x b cs low at M = sub_matched (left_origin n x b cs low at) M

-- ── Nothing is left, but clauses remain ──────────────────────────────────────────────────────────────────────────────

-- some variable of the list is named by the clause, or none
on_list : (l : List ℕ) (c : List Literal) → ((y : ℕ) × (among l y ≡ true) × (names c y ≡ true)) ⊎ ((y : ℕ) → among l y ≡ true → names c y ≡ false)
on_list [] c = inr (λ y t. among_none y t)
on_list (x ∷ l) c =
    ⊎_elim
    (λ h. inl (x, among_here x l, h))
    (λ (f : names c x ≡ false).
    ⊎_elim
    (λ w. inl (w.0, among_more w.0 x l w.1, w.2))
    (λ none. inr (λ y t. ⊎_elim (λ (e : y ≡ x). rw e f) (λ m. none y m) (among_cases y x l t)))
    (on_list l c))
    (bool_cases (names c x))

-- where nothing is left, every clause names a noted variable
pub noted_some : (n : ℕ) (cs : List (List Literal)) → (stripped n cs).left ≡ [] → (c : List Literal) → Memᴰ c cs
    → (y : ℕ) × (among (stripped n cs).noted y ≡ true) × (names c y ≡ true)
noted_some n cs e c m =
    ⊎_elim
    (λ w. w)
    (λ none. absurd (Memᴰ.not-nil {a = c} (subst (λ (l : List (List Literal)). Memᴰ c l) e (unnoted_left n cs c m none))))
    (on_list (stripped n cs).noted c)

-- x is not noted; or it is noted last, and every named variable is noted
abbrev pub LastOf : ℕ → List (List Literal) → ℕ → Type 0
LastOf n cs x =
    (among (stripped n cs).noted x ≡ false) ⊎ ((last (stripped n cs).noted ≡ x) × ((y : ℕ) → named cs y ≡ true → among (stripped n cs).noted y ≡ true))

others_of : (n : ℕ) (cs : List (List Literal)) (x : ℕ) → among (upward (λ v. named cs v && not (among (stripped n cs).noted v)) n) x ≡ true
    → (named cs x ≡ true) × (among (stripped n cs).noted x ≡ false)
others_of n cs x t =
    let w = upward_of (λ v. named cs v && not (among (stripped n cs).noted v)) n x t in
    (and_left (named cs x) (not (among (stripped n cs).noted x)) w.1, not-true _ (and_right (named cs x) (not (among (stripped n cs).noted x)) w.1))

others_in : (n : ℕ) (cs : List (List Literal)) → Below n cs → (x : ℕ) → named cs x ≡ true → among (stripped n cs).noted x ≡ false
    → among (upward (λ v. named cs v && not (among (stripped n cs).noted v)) n) x ≡ true
others_in n cs low x h f =
    upward_in (λ v. named cs v && not (among (stripped n cs).noted v)) n x (low x h) (and_both (named cs x) (not (among (stripped n cs).noted x)) h (rw f))

-- the last listed is such a one
pub last_of : (n : ℕ) (cs : List (List Literal)) → Below n cs → LastOf n cs (last (listed n cs (stripped n cs).noted))
unfolding listed
last_of n cs low = go (upward (λ v. named cs v && not (among (stripped n cs).noted v)) n) refl
  where
    go : (o : List ℕ) → upward (λ v. named cs v && not (among (stripped n cs).noted v)) n ≡ o → LastOf n cs (last ((stripped n cs).noted ++ o))
    go [] e = inr (
      ap last (sym (append-nil (stripped n cs).noted)),
      λ y h.
          ⊎_elim
          (λ t. t)
          (λ f. among_none y (subst (λ l. among l y ≡ true) e (others_in n cs low y h f)))
          (bool_cases (among (stripped n cs).noted y)),
    )
    go (z ∷ r) e =
        let t : among (upward (λ v. named cs v && not (among (stripped n cs).noted v)) n) (last (z ∷ r)) ≡ true = rw e (last-among z r) in
        inl (rw (last-append (stripped n cs).noted z r) (others_of n cs (last (z ∷ r)) t).1)

-- and it is named, if anything is
pub last-named : (n : ℕ) (cs : List (List Literal)) → Below n cs → (y : ℕ) → named cs y ≡ true → named cs (last (listed n cs (stripped n cs).noted)) ≡ true
unfolding listed
last-named n cs low y h = go (noted ++ others) refl
  where
    noted : List ℕ
    noted = (stripped n cs).noted

    others : List ℕ
    others = upward (λ v. named cs v && not (among noted v)) n

    each : (x : ℕ) → among (noted ++ others) x ≡ true → named cs x ≡ true
    each x t = ⊎_elim (noted-named n cs x) (λ o. (others_of n cs x o).0) (among-append noted others x t)

    go : (l : List ℕ) → noted ++ others ≡ l → named cs (last (noted ++ others)) ≡ true
    go [] e =
        ⊎_elim
        (λ t. among_none y (subst (λ l. among l y ≡ true) e (among_left noted others y t)))
        (λ f. among_none y (subst (λ l. among l y ≡ true) e (among-right noted others y (others_in n cs low y h f))))
        (bool_cases (among noted y))
    go (z ∷ r) e = each (last (noted ++ others)) (subst (λ l. among l (last l) ≡ true) (sym e) (last-among z r))

-- LEMMA 4.5: a value of x that empties no clause leaves nothing again.
pub last_none : (n x : ℕ) (b : Bool) (cs : List (List Literal)) → Below n cs → (stripped n cs).left ≡ [] → LastOf n cs x → emptied (assign x b cs) ≡ false
    → (stripped n (assign x b cs)).left ≡ []
last_none n x b cs low bare lo full =
    no_elements (stripped n (assign x b cs)).left (λ d m.
    let w = Memᴰ.of_map (less x) ds (subst (λ (l : List (List Literal)). Memᴰ d l) O.left m) in
    let c = w.0 in
    let here = sub_within O.sub c w.1 in
    let y = noted_some n cs bare c here in
    ⊎_elim
    (λ (t : eqb y.0 x ≡ true).
    ⊎_elim
    (λ (f : among (stripped n cs).noted x ≡ false). bool_clash (subst (λ v. among (stripped n cs).noted v ≡ true) (eqb-true y.0 x t) y.1) f)
    (λ l.
    let z = emptied-none (assign x b cs) full d (sub_within (left_sub n (assign x b cs)) d m) in
    let u = names_some d z.0 z.1 in
    let k = less_of x c z.0 u.0 (subst (λ (e : List Literal). names_as e z.0 u.0 ≡ true) (sym w.2) u.1) in
    bool_clash (occurs_in ds c z.0 u.0 w.1 k.0)
    (off z.0 (l.1 z.0 (named_by cs c z.0 here (named_as c z.0 u.0 k.0))) k.1 u.0))
    lo)
    (λ (f : eqb y.0 x ≡ false).
    let u = names_some c y.0 y.2 in
    bool_clash (occurs_in ds c y.0 u.0 w.1 u.1) (off y.0 y.1 (eqb-false y.0 x f) u.0))
    (bool_cases (eqb y.0 x)))
  where
    O : Origin x b (stripped n (assign x b cs)).left cs
    O = assign-origin x b cs (left_sub n (assign x b cs))

    ds : List (List Literal)
    ds = O.clauses

    -- the part that is left names no noted variable but x
    off : (y : ℕ) → among (stripped n cs).noted y ≡ true → (y ≡ x → ⊥) → (s : Bool) → occurs ds y s ≡ false
    off =
        none-noted_but n x ds (subst NonePure O.left (left_none_pure n (assign x b cs) (below_assign n x b cs low))) cs (sub_within O.sub)
        (⊎_elim (λ f. inl f) (λ l. inr l.0) lo)

-- A value that empties a clause cannot be had.
pub emptied_unsatisfied : (x : ℕ) (b : Bool) (cs : List (List Literal)) → emptied (assign x b cs) ≡ true → (a : ℕ → Bool) → Satisfies a cs → a x ≡ b → ⊥
unfolding names_as
emptied_unsatisfied x b cs t a sat e = let w = satisfies_assign a x b cs sat e [] (emptied_some (assign x b cs) t) in bool_clash w.1 refl

-- so one value at least empties none
pub one_open : (n x : ℕ) (cs : List (List Literal)) → Sound n cs → (b : Bool) × (emptied (assign x b cs) ≡ false)
one_open n x cs S =
    let w = sound_satisfies n cs S in
    (w.0 x, ⊎_elim (λ t. absurd (emptied_unsatisfied x (w.0 x) cs t w.0 w.1 refl)) (λ f. f) (bool_cases (emptied (assign x (w.0 x) cs))))
