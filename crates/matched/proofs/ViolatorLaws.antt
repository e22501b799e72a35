-- The marks of a refused formula are a violator, and what a violator shows.
use Prim.Native.Nat.{ℕ, suc, ◌-◌, ◌≤◌, ◌<◌}
use mathlib.Core.Bool.{Bool, true, false, not, cond, ◌&&◌}
use mathlib.Core.List.{List, [], ◌∷◌, map, Memᴰ, Sublistᴰ}
use mathlib.Core.Logic.{⊎_elim}
use mathlib.Core.Path.{◌≡◌, refl, sym, ap, ◌∙◌}
use native.Mathlib.Decide.{dec_lt}
use native.Mathlib.Omega.{arith}
use borrow.Author.Tests.{eq-eqb}
use lib.Dec.{eqb}
use lib.ListN.{length, get_or, set, drop, length-map, length-set}
use Rattle.lists.specs.Every.{Every}
use Rattle.lists.proofs.EveryLaws.{every_get_or}
use Rattle.lists.proofs.MapLaws.{get_or-map_in}
use Rattle.lists.proofs.SublistLaws.{element_place, sub_element, sub_map}
use Rattle.lists.proofs.TestLaws.{bool_cases, bool_clash, or_left}
use Rattle.masks.specs.Mask.{size}
use Rattle.masks.proofs.MembersLaws.{mask_same}
use Rattle.formula.specs.Format.{Literal, names, distinct, Sized, ClauseOver}
use Rattle.formula.specs.Masked.{variables}
use Rattle.formula.proofs.ClauseLaws.{variables-bit}
use Rattle.matching.specs.Sets.{Words, union, selected}
use Rattle.matching.specs.InnerMatched.{Matched}
use Rattle.matching.specs.Search.{failure, outcome, marks}
use Rattle.matching.proofs.MatchedLaws.{Selects, selects_matches, length-marks, marks_le, marks_from}
use Rattle.matching.proofs.OutcomeLaws.{words-selected}
use Rattle.matching.proofs.SelectedLaws.{selected_from, part_lacks, selected_map}
use Rattle.matching.proofs.Theorems.{failure_tight, failure_critical, failure_marked, pigeonhole, sub_list_matched}
use Rattle.splitting.specs.Nodes.{remaining, satisfied_by}
use Rattle.splitting.proofs.MaskChoiceLaws.{StripsTo, strips_to}
use Rattle.splitting.proofs.SatisfiedLaws.{less_all, less_all_names, less_all_named, remaining_cons}
use Rattle.splitting.proofs.Theorems.{formula_below}
use Rattle.matched.specs.Acceptance.{by_none, dropped_by, RowByte, known, asked, marked_byte, stripped_byte, spread}
use Rattle.matched.specs.Pairing.{Pairs, PairsStripped, PairsBut, noted_of, left_of, marked, Violator}
use Rattle.matched.proofs.DroppedLaws.{left_names, asked_left, satisfied_byte, stripped_sieves, stripped_zeros}
use Rattle.matched.proofs.PairingLaws.{masks_words, but, bit_but, named_union, but_words, matches_but, but_matches}
use Rattle.matched.proofs.SizedLaws.{left_sized}
use Rattle.matched.proofs.SpreadLaws.{asks, asking, asking_place, spread_length, spread_known, spread_asked, spread_byte, spread_set, remaining-none}
use Rattle.matched.proofs.UnderLaws.{pairs_stripped}

-- stripping of what remains of a formula's clauses
pub clauses_strip : {n : ℕ} {t : List Literal} {cs : List (List Literal)} → Sized n cs → ClauseOver n t → StripsTo n cs t
clauses_strip {n} {t} {cs} z over = strips_to n cs (omega (arith, z.most)) (formula_below n cs z.clauses) t over

-- ---- the marks of a search over the left clauses, at the places of the formula's clauses

module _ {n : ℕ} {t : List Literal} {cs : List (List Literal)} (w : StripsTo n cs t) where
  abbrev noted : List ℕ
  noted = noted_of n t cs

  abbrev byte : List Literal → RowByte
  byte = marked_byte t noted

  -- a clause that is left has, less the trail's variables, what it has less those of t
  left_but : (c : List Literal) → dropped_by noted c ≡ by_none → but t c ≡ variables (less_all w.trail c)
  left_but c e =
      mask_same (but t c) (variables (less_all w.trail c))
      (λ v. bit_but t c v ∙ at v (names c v) (names t v) (names w.trail v) refl refl refl ∙ sym (variables-bit (less_all w.trail c) v ∙ less_all_named w.trail c v))
    where
      at : (v : ℕ) (x y z : Bool) → names c v ≡ x → names t v ≡ y → names w.trail v ≡ z → x && not y ≡ x && not z
      at v false y z f g h = refl
      at v true true true f g h = refl
      at v true false false f g h = refl
      at v true true false f g h = bool_clash (w.keeps v g) h
      at v true false true f g h = bool_clash f (left_names noted c v e (w.adds v h g))

  -- so marks choose the same masks at the formula's clauses as at the left ones
  module _ (d : List Literal) (ds : List (List Literal))
      (rest : (ms : List ℕ) → length ms ≡ length (remaining w.trail ds) → selected (spread byte ds ms) (map (but t) ds) ≡ selected ms (map variables (remaining w.trail ds))) where
    left_first : (ms : List ℕ) → length ms ≡ suc (length (remaining w.trail ds)) → dropped_by noted d ≡ by_none
        → selected (get_or ms 0 0 ∷ spread byte ds (drop 1 ms)) (but t d ∷ map (but t) ds) ≡ selected ms (variables (less_all w.trail d) ∷ map variables (remaining w.trail ds))
    unfolding selected
    left_first [] e q = absurd (omega arith)
    left_first (m ∷ ms) e q = at (eqb m 0)
      where
        at : (b : Bool) → cond b (selected (spread byte ds ms) (map (but t) ds)) (but t d ∷ selected (spread byte ds ms) (map (but t) ds))
            ≡ cond b (selected ms (map variables (remaining w.trail ds))) (variables (less_all w.trail d) ∷ selected ms (map variables (remaining w.trail ds)))
        at true = rest ms (omega arith)
        at false = rw (left_but d q, rest ms (omega arith)) refl

  selected_spread : (ds : List (List Literal)) → Every (λ c. byte c ≡ cond (satisfied_by w.trail c) (known 0) asked) ds
      → (ms : List ℕ) → length ms ≡ length (remaining w.trail ds) → selected (spread byte ds ms) (map (but t) ds) ≡ selected ms (map variables (remaining w.trail ds))
  unfolding selected spread
  selected_spread [] zeros [] e = refl
  selected_spread [] zeros (m ∷ ms) e = let z = ap (length {A = List Literal}) (remaining-none w.trail) in absurd (omega arith)
  selected_spread (d ∷ ds) zeros ms e = at (satisfied_by w.trail d) refl ms e (selected_spread ds zeros.1)
    where
      at : (b : Bool) → satisfied_by w.trail d ≡ b → (ms : List ℕ) → length ms ≡ length (remaining w.trail (d ∷ ds))
          → ((ns : List ℕ) → length ns ≡ length (remaining w.trail ds) → selected (spread byte ds ns) (map (but t) ds) ≡ selected ns (map variables (remaining w.trail ds)))
          → selected (spread byte (d ∷ ds) ms) (map (but t) (d ∷ ds)) ≡ selected ms (map variables (remaining w.trail (d ∷ ds)))
      at true q ms e rest =
          let c : remaining w.trail (d ∷ ds) ≡ remaining w.trail ds = remaining_cons w.trail d ds w.is_trail.once ∙ rw q in
          rw (c, spread_known byte d ds ms 0 (zeros.0 ∙ rw q)) (rest ms (e ∙ ap (length {A = List Literal}) c))
      at false q ms e rest =
          let c : remaining w.trail (d ∷ ds) ≡ less_all w.trail d ∷ remaining w.trail ds = remaining_cons w.trail d ds w.is_trail.once ∙ rw q in
          let k : byte d ≡ asked = zeros.0 ∙ rw q in
          rw (c, spread_asked byte d ds ms k) (left_first d ds rest ms (e ∙ ap (length {A = List Literal}) c) (asked_left t noted (λ v. 0) d k).1)

  -- of all clauses
  pub chosen_same : (ms : List ℕ) → length ms ≡ length (left_of n t cs) → map (but t) (marked (spread byte cs ms) cs) ≡ selected ms (map variables (left_of n t cs))
  chosen_same ms e =
      sym (selected_map (but t) (spread byte cs ms) cs)
      ∙ selected_spread cs (stripped_zeros w) ms (e ∙ ap (length {A = List Literal}) (sym w.left))
      ∙ ap (λ (l : List (List Literal)). selected ms (map variables l)) w.left

-- ---- they are a violator

-- the marks of the left clauses that a search took off, spread over the formula's clauses
abbrev pub taken_row : ℕ → List Literal → List (List Literal) → List ℕ → List ℕ
taken_row n t cs taken = spread (marked_byte t (noted_of n t cs)) cs (marks (length (left_of n t cs)) taken)

module _ {n : ℕ} {t : List Literal} {cs : List (List Literal)} (z : Sized n cs) (w : StripsTo n cs t) (taken : List ℕ) (e : ℕ)
    (p : outcome (map variables (left_of n t cs)) ≡ failure taken e) where
  abbrev left : List (List Literal)
  left = left_of n t cs

  abbrev ms : List ℕ
  ms = marks (length left) taken

  abbrev row : List ℕ
  row = taken_row n t cs taken

  as_many : length (map variables left) ≡ length left
  as_many = length-map left variables

  same : map (but t) (marked row cs) ≡ selected ms (map variables left)
  same = chosen_same w ms (length-marks (length left) taken)

  size_same : length (marked row cs) ≡ length (selected ms (map variables left))
  size_same = sym (length-map (marked row cs) (but t)) ∙ ap (length {A = ℕ}) same

  pub taken_many : length (marked row cs) ≡ length taken
  taken_many = size_same ∙ rw as_many at (failure_marked (map variables left) taken e (masks_words (left_sized t z)) p)

  place : (i : ℕ) → i < length cs → byte w (get_or cs i []) ≡ asked → asking (byte w) cs i < length left
  place i h q = rw w.left at (asking_place w.trail w.is_trail.once (byte w) cs (stripped_sieves w (λ v. 0)) i h (ap asks q))

  -- a mark is 0 or 1, and only left clauses are marked
  mark_at : (i : ℕ) → i < length cs → (b : RowByte) → byte w (get_or cs i []) ≡ b → (get_or row i 0 ≤ 1) × (get_or row i 0 ≡ 1 → byte w (get_or cs i []) ≡ asked)
  mark_at i h (known x) q =
      let k : x ≡ 0 = zero (satisfied_by w.trail (get_or cs i [])) x (sym q ∙ every_get_or (λ c. byte w c ≡ cond (satisfied_by w.trail c) (known 0) asked) cs i [] h (stripped_zeros w)) in
      let r : get_or row i 0 ≡ x = spread_byte (byte w) cs ms i h ∙ rw q in
      (omega arith, λ j. absurd (omega arith))
    where
      zero : (b : Bool) (x : ℕ) → known x ≡ cond b (known 0) asked → x ≡ 0
      zero true x e = cc
      zero false x e = let z : ◌≡◌ {A = ℕ} 0 1 = cc in absurd (omega arith)
  mark_at i h asked q =
      let r : get_or row i 0 ≡ get_or ms (asking (byte w) cs i) 0 = spread_byte (byte w) cs ms i h ∙ rw q in
      (omega (arith, marks_le (length left) taken (asking (byte w) cs i) (place i h q)), λ j. q)

  -- without a marked clause the others are matched
  spared : (i : ℕ) → i < length cs → get_or row i 0 ≡ 1 → (vs : List ℕ) × PairsBut t (marked (set row i 0) cs) vs
  spared i h q =
      let a : byte w (get_or cs i []) ≡ asked = (mark_at i h _ refl).1 q in
      let k = asking (byte w) cs i in
      let l : k < length left = place i h a in
      let one : get_or ms k 0 ≡ 1 = sym (spread_byte (byte w) cs ms i h ∙ rw a) ∙ q in
      let F = marks_from (length left) taken k l (λ (x : get_or ms k 0 ≡ 0). omega arith) in
      let M : Matched (selected (set ms (get_or taken F.at 0) 0) (map variables left)) = rw as_many at (failure_critical (map variables left) taken e (masks_words (left_sized t z)) p F.at F.within) in
      let s : map (but t) (marked (set row i 0) cs) ≡ selected (set ms k 0) (map variables left) =
      ap (λ (r : List ℕ). map (but t) (marked r cs)) (sym (spread_set (byte w) cs ms i 0 h a (rw (length-marks (length left) taken) l)))
      ∙ chosen_same w (set ms k 0) (length-set ms k 0 ∙ length-marks (length left) taken) in
      let N : Matched (map (but t) (marked (set row i 0) cs)) = rw (s, ← F.is) M in
      (N.0, matches_but t (marked (set row i 0) cs) N.0 N.1)

  pub taken_violator : Violator n t cs row
  taken_violator = record {
    one_each = spread_length (byte w) cs ms;
    low = λ i h. (mark_at i h _ refl).0;
    satisfied = λ i h q. spread_byte (byte w) cs ms i h ∙ rw (satisfied_byte t (noted w) (λ v. 0) (get_or cs i []) q);
    left = λ i h q. (asked_left t (noted w) (λ v. 0) (get_or cs i []) ((mark_at i h _ refl).1 q)).1;
    fewer =
        ap (λ (m : ℕ). suc (size m)) (named_union t (marked row cs) ∙ ap union same)
        ∙ rw as_many at (failure_tight (map variables left) taken e (masks_words (left_sized t z)) p)
        ∙ sym size_same;
    critical = spared;
  }

-- ---- what it shows

-- a clause that names nothing is empty
unnamed : (c : List Literal) → ((v : ℕ) → names c v ≡ false) → c ≡ []
unfolding names
unnamed [] none = refl
unnamed (l ∷ c) none = bool_clash (or_left (eqb l.variable l.variable) (names c l.variable) (eq-eqb l.variable l.variable refl)) (none l.variable)

module _ {n : ℕ} {t : List Literal} {cs : List (List Literal)} (z : Sized n cs) {ms : List ℕ} (v : Violator n t cs ms) where
  -- a mark that is not 0 is 1
  one : (i : ℕ) → i < length cs → (get_or ms i 0 ≡ 0 → ⊥) → get_or ms i 0 ≡ 1
  one i h ne = by (dec_lt 0 (get_or ms i 0))
    where
      by : Dec (0 < get_or ms i 0) → get_or ms i 0 ≡ 1
      by (yes l) = omega (arith, v.low i h)
      by (no l) = absurd (ne (omega arith))

  -- the marked clauses are not matched, without the variables of t: the pigeonhole principle
  pub marked_unpaired : (vs : List ℕ) → PairsBut t (marked ms cs) vs → ⊥
  marked_unpaired vs p =
      let W : Words (map (but t) (marked ms cs)) = rw (← (selected_map (but t) ms cs)) (words-selected ms (map (but t) cs) (but_words t z)) in
      let room = pigeonhole (map (but t) (marked ms cs)) W (vs, but_matches t (marked ms cs) vs p) in
      omega (arith, v.fewer, length-map (marked ms cs) (but t), rw (← (named_union t (marked ms cs))) at room)

  -- a part of the marked clauses that lacks one of them is matched
  pub part_paired : (ds : List (List Literal)) → Sublistᴰ ds (marked ms cs) → length ds < length (marked ms cs) → (vs : List ℕ) × PairsBut t ds vs
  part_paired ds s h =
      let k = part_lacks ms cs ds s h in
      let c = v.critical k.0 k.1 (one k.0 k.1 k.2) in
      let m = sub_list_matched (sub_map (but t) k.3) (c.0, but_matches t (marked (set ms k.0 0) cs) c.0 c.1) in
      (m.0, matches_but t ds m.0 m.1)

  -- t does not satisfy a marked clause, so that what remains of it is the clause without the variables of t
  module _ (once : distinct t ≡ true) (c : List Literal) (m : Memᴰ c (marked ms cs)) where
    unsatisfied : satisfied_by t c ≡ false
    unsatisfied =
        let k = element_place (marked ms cs) c [] m in
        let o = selected_from ms cs [] k.0 k.1 in
        let e : get_or cs o.0 [] ≡ c = sym o.4 ∙ k.2 in
        ⊎_elim (λ (y : satisfied_by t c ≡ true). absurd (o.3 (v.satisfied o.0 o.2 (rw e y)))) (λ x. x) (bool_cases (satisfied_by t c))

    alone_remains : remaining t (c ∷ []) ≡ less_all t c ∷ []
    alone_remains = remaining_cons t c [] once ∙ rw (unsatisfied, remaining-none t)

  -- one clause alone is marked exactly if nothing remains of it
  pub one_empty : distinct t ≡ true → length (marked ms cs) ≡ 1 → (c : List Literal) × Memᴰ c (marked ms cs) × (remaining t (c ∷ []) ≡ [] ∷ [])
  one_empty once e = by (marked ms cs) refl e
    where
      by : (l : List (List Literal)) → marked ms cs ≡ l → length l ≡ 1 → (c : List Literal) × Memᴰ c (marked ms cs) × (remaining t (c ∷ []) ≡ [] ∷ [])
      by [] q e = absurd (omega arith)
      by (c ∷ d ∷ l) q e = absurd (omega arith)
      by (c ∷ []) q e =
          let m : Memᴰ c (marked ms cs) = rw q (mathlib.Core.List.Memᴰ.head refl) in
          let none : (x : ℕ) → names (less_all t c) x ≡ false =
          λ x. ⊎_elim (λ (y : names (less_all t c) x ≡ true). absurd (marked_unpaired (x ∷ []) (rw q (alone x (less_all_names t c x y))))) (λ f. f) (bool_cases (names (less_all t c) x)) in
          (c, m, alone_remains once c m ∙ ap (λ (d : List Literal). d ∷ []) (unnamed (less_all t c) none))
        where
          alone : (x : ℕ) → (names c x ≡ true) × (names t x ≡ false) → PairsBut t (c ∷ []) (x ∷ [])
          alone x h = record {
            pairs = record { one_each = refl; named = λ i l. let j : i ≡ 0 = omega arith in rw j h.0; distinct = λ i j l k q. omega arith };
            unassumed = λ i l. let j : i ≡ 0 = omega arith in rw j h.1;
          }

  pub empty_one : distinct t ≡ true → (c : List Literal) → Memᴰ c (marked ms cs) → remaining t (c ∷ []) ≡ [] ∷ [] → length (marked ms cs) ≡ 1
  unfolding names
  empty_one once c m e = by (dec_lt 1 (length (marked ms cs)))
    where
      by : Dec (1 < length (marked ms cs)) → length (marked ms cs) ≡ 1
      by (no l) = omega (arith, v.fewer)
      by (yes l) =
          let p = part_paired (c ∷ []) (sub_element (marked ms cs) c m) l in
          let empty : less_all t c ≡ [] = ap (λ (ds : List (List Literal)). get_or ds 0 []) (sym (alone_remains once c m) ∙ e) in
          let named : names (less_all t c) (get_or p.0 0 0) ≡ true = less_all_named t c (get_or p.0 0 0) ∙ rw (p.1.pairs.named 0 (omega arith), p.1.unassumed 0 (omega arith)) in
          bool_clash (rw empty at named) refl

-- a violator leaves no matching of the left clauses: each marked one would have a variable of its own, not of t
pub left_unpaired : {n : ℕ} {t : List Literal} {cs : List (List Literal)} (z : Sized n cs) (w : StripsTo n cs t) {ms : List ℕ} → Violator n t cs ms
    → (vs : List ℕ) → Pairs (left_of n t cs) vs → ⊥
left_unpaired {n} {t} {cs} z w {ms} v vs p =
    marked_unpaired z v (selected ms xs) (matches_but t (marked ms cs) (selected ms xs) (rw (← (selected_map (but t) ms cs)) (selects_matches ms (map (but t) cs) xs selects)))
  where
    row : List ℕ
    row = spread (stripped_byte t (noted_of n t cs)) cs (map suc vs)

    xs : List ℕ
    xs = map (λ x. x - 1) row

    told : PairsStripped n t cs row
    told = pairs_stripped z w vs p

    -- a marked clause has such a variable
    own : (i : ℕ) → i < length cs → (get_or ms i 0 ≡ 0 → ⊥)
        → (satisfied_by t (get_or cs i []) ≡ false) × (dropped_by (noted_of n t cs) (get_or cs i []) ≡ by_none)
        × (x : ℕ) × (get_or row i 0 ≡ suc x) × (get_or xs i 0 ≡ x) × (names (get_or cs i []) x ≡ true) × (names t x ≡ false)
    own i h ne =
        let u : satisfied_by t (get_or cs i []) ≡ false = ⊎_elim (λ y. absurd (ne (v.satisfied i h y))) (λ f. f) (bool_cases (satisfied_by t (get_or cs i []))) in
        let d = v.left i h (one z v i h ne) in
        let o = told.others i h u d in
        let q : get_or xs i 0 ≡ get_or row i 0 - 1 = get_or-map_in (λ x. x - 1) row i 0 0 (rw told.one_each h) in
        (u, d, o.0, o.1, omega (arith, q, o.1), o.3, o.4)

    many : length (map (but t) cs) ≡ length cs
    many = length-map cs (but t)

    selects : Selects ms (map (but t) cs) xs
    selects = record {
      one_each = length-map row (λ x. x - 1) ∙ told.one_each ∙ sym many;
      named = λ i l ne.
          let h : i < length cs = rw many at l in
          let o = own i h ne in
          rw (get_or-map_in (but t) cs i [] 0 h, o.4) (bit_but t (get_or cs i []) o.2 ∙ rw (o.5, o.6));
      distinct = λ i j l k ne me e.
          let h : i < length cs = rw many at l in
          let g : j < length cs = rw many at k in
          let o = own i h ne in
          let r = own j g me in
          told.distinct i j h g o.0 o.1 (o.3 ∙ ap suc (sym o.4 ∙ e ∙ r.4) ∙ sym r.3);
    }
