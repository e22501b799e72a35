-- Which clauses stripping drops, and by which variable; and the trail that satisfies them, t and the noted variables.
use Prim.Native.Nat.{ℕ}
use mathlib.Core.Bool.{Bool, true, false, cond, not, ◌||◌}
use mathlib.Core.List.{List, [], ◌∷◌, ◌++◌, Memᴰ}
use mathlib.Core.Logic.{◌⊎◌, inl, inr, ⊎_elim}
use mathlib.Core.Path.{◌≡◌, refl, sym, ap, ◌∙◌}
use native.Mathlib.Omega.{arith}
use lib.Dec.{eqb}
use borrow.Author.Tests.{eqb-true}
use Rattle.lists.specs.Every.{Every}
use Rattle.lists.proofs.EveryLaws.{every_of}
use Rattle.lists.proofs.TestLaws.{or_cases}
use Rattle.formula.specs.Format.{Literal, names}
use Rattle.formula.specs.InnerFits.{clause_variables}
use Rattle.formula.specs.InnerMasked.{clause_of}
use Rattle.formula.proofs.ClauseLaws.{clause_names}
use Rattle.splitting.specs.Nodes.{satisfied_by}
use Rattle.splitting.specs.Choosing.{among}
use Rattle.splitting.proofs.SearchLaws.{among_here, among_cases, among_none, among-right}
use Rattle.splitting.proofs.MaskChoiceLaws.{names_any, StripsTo}
use Rattle.matched.specs.Acceptance.{Dropped, by, by_none, dropped_by, known, asked, byte_of, row_byte, whole_byte, marked_byte}
use Rattle.matched.specs.InnerSpread.{first_in}
use Rattle.matched.specs.Pairing.{noted_of}
use Rattle.matched.proofs.SpreadLaws.{asks, Sieves}

-- the variable that drops a clause is the first noted one that it names, so it names none before
pub record FirstNamed (noted : List ℕ) (c : List Literal) (v : ℕ) : Type 0 where
  pub before : List ℕ
  pub after : List ℕ
  pub order : noted ≡ before ++ (v ∷ after)
  pub none : (y : ℕ) → among before y ≡ true → names c y ≡ false
  pub named : names c v ≡ true

pub dropped_first : (noted : List ℕ) (c : List Literal) (v : ℕ) → dropped_by noted c ≡ by v → FirstNamed noted c v
unfolding dropped_by among
dropped_first [] c v e = let z : ◌≡◌ {A = ℕ} 0 1 = cc in absurd (omega arith)
dropped_first (x ∷ noted) c v e = at (names c x) refl e (dropped_first noted c v)
  where
    at : (b : Bool) → names c x ≡ b → cond b (by x) (dropped_by noted c) ≡ by v → (dropped_by noted c ≡ by v → FirstNamed noted c v)
        → FirstNamed (x ∷ noted) c v
    at true q e ih = let z : x ≡ v = cc in record { before = []; after = noted; order = rw z; none = λ y h. absurd (let k : ◌≡◌ {A = ℕ} 0 1 = cc in omega arith); named = ap (names c) (sym z) ∙ q }
    at false q e ih =
        let w = ih e in
        record {
          before = x ∷ w.before;
          after = w.after;
          order = ap (λ (l : List ℕ). x ∷ l) w.order;
          none = λ y h. ⊎_elim (λ (k : eqb x y ≡ true). ap (names c) (sym (eqb-true x y k)) ∙ q) (λ k. w.none y k) (or_cases (eqb x y) (among w.before y) h);
          named = w.named;
        }

-- a noted variable drops the clause
abbrev pub drops : Dropped → Bool
drops (by v) = true
drops by_none = false

-- exactly if the clause names some
drops_any : (vs : List ℕ) (c : List Literal) → drops (dropped_by vs c) ≡ names_any vs c
unfolding dropped_by names_any
drops_any [] c = refl
drops_any (v ∷ vs) c = at (names c v) (drops_any vs c)
  where
    at : (b : Bool) → drops (dropped_by vs c) ≡ names_any vs c → drops (cond b (by v) (dropped_by vs c)) ≡ b || names_any vs c
    at true e = refl
    at false e = e

-- it is noted
pub dropped_noted : (noted : List ℕ) (c : List Literal) (v : ℕ) → dropped_by noted c ≡ by v → among noted v ≡ true
dropped_noted noted c v e =
    let w = dropped_first noted c v e in
    rw w.order (among-right w.before (v ∷ w.after) v (among_here v w.after))

-- over masks
pub first_dropped : (noted : List ℕ) (c : List Literal) (v : ℕ) → dropped_by noted c ≡ by v → first_in noted (clause_variables (clause_of c)) ≡ v
unfolding dropped_by first_in
first_dropped [] c v e = let z : ◌≡◌ {A = ℕ} 0 1 = cc in absurd (omega arith)
first_dropped (x ∷ noted) c v e = rw (clause_names c x) (at (names c x) e (first_dropped noted c v))
  where
    at : (b : Bool) → cond b (by x) (dropped_by noted c) ≡ by v → (dropped_by noted c ≡ by v → first_in noted (clause_variables (clause_of c)) ≡ v)
        → cond b x (first_in noted (clause_variables (clause_of c))) ≡ v
    at true e ih = cc
    at false e ih = ih e

-- a clause that is left names no noted variable
pub left_names : (noted : List ℕ) (c : List Literal) (v : ℕ) → dropped_by noted c ≡ by_none → among noted v ≡ true → names c v ≡ false
unfolding dropped_by
left_names [] c v e h = among_none v h
left_names (x ∷ noted) c v e h = at (names c x) refl e (left_names noted c v) (among_cases v x noted h)
  where
    at : (b : Bool) → names c x ≡ b → cond b (by x) (dropped_by noted c) ≡ by_none
        → (dropped_by noted c ≡ by_none → among noted v ≡ true → names c v ≡ false) → (v ≡ x) ⊎ (among noted v ≡ true) → names c v ≡ false
    at true q e ih h = let z : ◌≡◌ {A = ℕ} 0 1 = cc in absurd (omega arith)
    at false q e ih (inl k) = ap (names c) k ∙ q
    at false q e ih (inr k) = ih e k

-- ---- the bytes

module _ (t : List Literal) (noted : List ℕ) (d : ℕ → ℕ) (c : List Literal) where
  -- a clause that t satisfies
  pub satisfied_byte : satisfied_by t c ≡ true → row_byte t noted d c ≡ known 0
  unfolding row_byte
  satisfied_byte e = rw e

  -- another that v drops
  pub dropped_known : (v : ℕ) → satisfied_by t c ≡ false → dropped_by noted c ≡ by v → row_byte t noted d c ≡ known (d v)
  unfolding row_byte
  dropped_known v e q = rw (e, q)

  -- another that is left
  pub left_asked : satisfied_by t c ≡ false → dropped_by noted c ≡ by_none → row_byte t noted d c ≡ asked
  unfolding row_byte
  left_asked e q = rw (e, q)

  -- and only that asks
  pub asked_left : row_byte t noted d c ≡ asked → (satisfied_by t c ≡ false) × (dropped_by noted c ≡ by_none)
  unfolding row_byte
  asked_left e = at (satisfied_by t c) (dropped_by noted c) refl refl e
    where
      at : (b : Bool) (x : Dropped) → satisfied_by t c ≡ b → dropped_by noted c ≡ x → cond b (known 0) (byte_of d x) ≡ asked → (satisfied_by t c ≡ false) × (dropped_by noted c ≡ by_none)
      at true x p q e = let z : ◌≡◌ {A = ℕ} 0 1 = cc in absurd (omega arith)
      at false (by v) p q e = let z : ◌≡◌ {A = ℕ} 0 1 = cc in absurd (omega arith)
      at false by_none p q e = (p, q)

-- whatever the byte of a dropped clause is, the same clauses ask
pub same_asks : (t : List Literal) (noted : List ℕ) (d k : ℕ → ℕ) (c : List Literal) → asks (row_byte t noted d c) ≡ asks (row_byte t noted k c)
unfolding row_byte
same_asks t noted d k c = at (satisfied_by t c) (dropped_by noted c)
  where
    at : (b : Bool) (x : Dropped) → asks (cond b (known 0) (byte_of d x)) ≡ asks (cond b (known 0) (byte_of k x))
    at true x = refl
    at false (by v) = refl
    at false by_none = refl

-- nothing is noted: what t does not satisfy asks
pub whole-zeros : (t : List Literal) (cs : List (List Literal)) → Every (λ c. whole_byte t c ≡ cond (satisfied_by t c) (known 0) asked) cs
unfolding row_byte dropped_by
whole-zeros t cs = every_of (λ c. whole_byte t c ≡ cond (satisfied_by t c) (known 0) asked) cs (λ c m. refl)

module _ {n : ℕ} {t : List Literal} {cs : List (List Literal)} (w : StripsTo n cs t) where
  -- what the trail satisfies is what t satisfies or a noted variable drops
  pub trail_drops : (c : List Literal) → Memᴰ c cs → satisfied_by w.trail c ≡ satisfied_by t c || drops (dropped_by (noted_of n t cs) c)
  trail_drops c m = w.drops c m ∙ ap (λ (b : Bool). satisfied_by t c || b) (sym (drops_any (noted_of n t cs) c))

  -- so what asks is what the trail does not satisfy
  pub stripped_sieves : (d : ℕ → ℕ) → Sieves w.trail (row_byte t (noted_of n t cs) d) cs
  unfolding row_byte
  stripped_sieves d =
      every_of (λ c. satisfied_by w.trail c ≡ not (asks (row_byte t (noted_of n t cs) d c))) cs
      (λ c m. trail_drops c m ∙ at (satisfied_by t c) (dropped_by (noted_of n t cs) c))
    where
      at : (b : Bool) (x : Dropped) → b || drops x ≡ not (asks (cond b (known 0) (byte_of d x)))
      at true x = refl
      at false (by v) = refl
      at false by_none = refl

  -- and where a dropped clause has 0, all others have it
  pub stripped_zeros : Every (λ c. marked_byte t (noted_of n t cs) c ≡ cond (satisfied_by w.trail c) (known 0) asked) cs
  unfolding row_byte
  stripped_zeros =
      every_of (λ c. marked_byte t (noted_of n t cs) c ≡ cond (satisfied_by w.trail c) (known 0) asked) cs
      (λ c m. rw (trail_drops c m) (at (satisfied_by t c) (dropped_by (noted_of n t cs) c)))
    where
      at : (b : Bool) (x : Dropped) → cond b (known 0) (byte_of (λ v. 0) x) ≡ cond (b || drops x) (known 0) asked
      at true x = refl
      at false (by v) = refl
      at false by_none = refl
