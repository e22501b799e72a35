-- The bytes of an accepted formula under assumptions, told clause by clause: matched whole or after stripping.
use Prim.Native.Nat.{ℕ, suc, ◌<◌}
use mathlib.Core.Bool.{Bool, true, false}
use mathlib.Core.List.{List, [], map}
use mathlib.Core.Logic.{⊎_elim}
use mathlib.Core.Path.{◌≡◌, refl, sym, ap, ◌∙◌, subst}
use native.Mathlib.Decide.{dec_lt}
use native.Mathlib.Omega.{arith}
use lib.ListN.{length, get_or}
use Rattle.lists.proofs.MapLaws.{get_or-map_in}
use Rattle.lists.proofs.SublistLaws.{get_or_element}
use Rattle.lists.proofs.TestLaws.{bool_cases, bool_clash}
use Rattle.formula.specs.Format.{Literal, names, Sized}
use Rattle.formula.specs.Format as format
use Rattle.splitting.specs.Nodes.{remaining, satisfied_by}
use Rattle.splitting.proofs.ClauseLaws.{named_by}
use Rattle.splitting.proofs.MaskChoiceLaws.{StripsTo}
use Rattle.splitting.proofs.SatisfiedLaws.{less_all_names}
use Rattle.splitting.proofs.Theorems.{formula_below, noted-unassigned}
use Rattle.matched.specs.Acceptance.{Dropped, by, by_none, dropped_by, RowByte, known, asked, whole_byte, stripped_byte, dropped_byte, spread}
use Rattle.matched.specs.Pairing.{Pairs, PairsUnder, PairsStripped, noted_of, left_of}
use Rattle.matched.proofs.DroppedLaws.{dropped_first, dropped_noted, satisfied_byte, dropped_known, left_asked, whole-zeros, stripped_sieves}
use Rattle.matched.proofs.SpreadLaws.{asks, asking, asking_less, asking_place, remaining_at, spread_length, spread_byte, Sieves, zeros_sieve}

-- ---- the clauses that ask have a matching of what remains under u

-- vs is a matching of what remains under u, whose clauses are those that ask
record Answers (u : List Literal) (f : List Literal → RowByte) (cs : List (List Literal)) (vs : List ℕ) : Type 0 where
  once : format.distinct u ≡ true
  sieves : Sieves u f cs
  pairs : Pairs (remaining u cs) vs

module _ {u : List Literal} {f : List Literal → RowByte} {cs : List (List Literal)} {vs : List ℕ} (A : Answers u f cs vs) where
  abbrev row : List ℕ
  row = spread f cs (map suc vs)

  -- a clause whose byte is known by itself
  known_byte : (i x : ℕ) → i < length cs → f (get_or cs i []) ≡ known x → get_or row i 0 ≡ x
  known_byte i x h e = spread_byte f cs (map suc vs) i h ∙ rw e

  module _ (i : ℕ) (h : i < length cs) (e : f (get_or cs i []) ≡ asked) where
    place : asking f cs i < length (remaining u cs)
    place = asking_place u A.once f cs A.sieves i h (ap asks e)

    -- one that asks has a variable, from 1,
    asked_byte : get_or row i 0 ≡ suc (get_or vs (asking f cs i) 0)
    asked_byte = spread_byte f cs (map suc vs) i h ∙ rw e (get_or-map_in suc vs (asking f cs i) 0 0 (rw A.pairs.one_each place))

    -- which it names and u does not
    asked_names : (names (get_or cs i []) (get_or vs (asking f cs i) 0) ≡ true) × (names u (get_or vs (asking f cs i) 0) ≡ false)
    asked_names =
        less_all_names u (get_or cs i []) (get_or vs (asking f cs i) 0)
        (rw (← (remaining_at u A.once f cs A.sieves i h (ap asks e))) (A.pairs.named (asking f cs i) place))

  -- two that ask have different ones
  asked_own : (i j : ℕ) (h : i < length cs) (k : j < length cs) (e : f (get_or cs i []) ≡ asked) (g : f (get_or cs j []) ≡ asked) → get_or row i 0 ≡ get_or row j 0 → i ≡ j
  asked_own i j h k e g q =
      let z : get_or vs (asking f cs i) 0 ≡ get_or vs (asking f cs j) 0 = omega (arith, asked_byte i h e, asked_byte j k g) in
      by (A.pairs.distinct (asking f cs i) (asking f cs j) (place i h e) (place j k g) z) (dec_lt i j) (dec_lt j i)
    where
      by : asking f cs i ≡ asking f cs j → Dec (i < j) → Dec (j < i) → i ≡ j
      by z (yes l) _ = absurd (omega (arith, asking_less f cs i j l (omega arith) (ap asks e)))
      by z (no l) (yes m) = absurd (omega (arith, asking_less f cs j i m (omega arith) (ap asks g)))
      by z (no l) (no m) = omega arith

-- ---- matched whole

module _ (t : List Literal) (once : format.distinct t ≡ true) (cs : List (List Literal)) (vs : List ℕ) (p : Pairs (remaining t cs) vs) where
  abbrev whole_row : List ℕ
  whole_row = spread (whole_byte t) cs (map suc vs)

  whole_answers : Answers t (whole_byte t) cs vs
  whole_answers = record { once = once; sieves = zeros_sieve t (whole_byte t) cs (whole-zeros t cs); pairs = p }

  -- t does not satisfy it, so it asks
  whole_asked : (i : ℕ) → satisfied_by t (get_or cs i []) ≡ false → whole_byte t (get_or cs i []) ≡ asked
  unfolding dropped_by
  whole_asked i e = left_asked t [] (λ v. 0) (get_or cs i []) e refl

  pub pairs_under : PairsUnder t cs whole_row
  pairs_under = record {
    one_each = spread_length (whole_byte t) cs (map suc vs);
    satisfied = satisfied;
    others = λ i h e.
        let q = whole_asked i e in
        let w = asked_names whole_answers i h q in
        (get_or vs (asking (whole_byte t) cs i) 0, asked_byte whole_answers i h q, w.0, w.1);
    distinct = λ i j h k e q. by i j h k e q (satisfied_by t (get_or cs j [])) refl;
  }
    where
      satisfied : (i : ℕ) → i < length cs → satisfied_by t (get_or cs i []) ≡ true → get_or whole_row i 0 ≡ 0
      satisfied i h e = known_byte whole_answers i 0 h (satisfied_byte t [] (λ v. 0) (get_or cs i []) e)

      by : (i j : ℕ) → i < length cs → j < length cs → satisfied_by t (get_or cs i []) ≡ false → get_or whole_row i 0 ≡ get_or whole_row j 0
          → (b : Bool) → satisfied_by t (get_or cs j []) ≡ b → i ≡ j
      by i j h k e q true f = absurd (omega (arith, asked_byte whole_answers i h (whole_asked i e), satisfied j k f))
      by i j h k e q false f = asked_own whole_answers i j h k (whole_asked i e) (whole_asked j f) q

-- ---- after stripping

module _ {n : ℕ} {t : List Literal} {cs : List (List Literal)} (z : Sized n cs) (w : StripsTo n cs t) where
  abbrev noted : List ℕ
  noted = noted_of n t cs

  module _ (vs : List ℕ) (p : Pairs (left_of n t cs) vs) where
    abbrev stripped_row : List ℕ
    stripped_row = spread (stripped_byte t noted) cs (map suc vs)

    left_answers : Answers w.trail (stripped_byte t noted) cs vs
    left_answers = record {
      once = w.is_trail.once;
      sieves = stripped_sieves w dropped_byte;
      pairs = subst (λ (l : List (List Literal)). Pairs l vs) (sym w.left) p;
    }

    -- a variable that a clause names is one of the formula's
    low : (i v : ℕ) → i < length cs → names (get_or cs i []) v ≡ true → v < n
    low i v h e = formula_below n cs z.clauses v (named_by cs (get_or cs i []) v (get_or_element cs i [] h) e)

    unassigned : (v : ℕ) → names w.trail v ≡ false → names t v ≡ false
    unassigned v e = ⊎_elim (λ k. bool_clash (w.keeps v k) e) (λ k. k) (bool_cases (names t v))

    -- the byte of a clause that is left
    left_byte : (i : ℕ) → i < length cs → stripped_byte t noted (get_or cs i []) ≡ asked
        → (v : ℕ) × (get_or stripped_row i 0 ≡ suc v) × (v < n) × (names (get_or cs i []) v ≡ true) × (names t v ≡ false)
    left_byte i h q =
        let k = asked_names left_answers i h q in
        let v = get_or vs (asking (stripped_byte t noted) cs i) 0 in
        (v, asked_byte left_answers i h q, low i v h k.0, k.0, unassigned v k.1)

    pub pairs_stripped : PairsStripped n t cs stripped_row
    pairs_stripped = record {
      one_each = spread_length (stripped_byte t noted) cs (map suc vs);
      satisfied = λ i h e. known_byte left_answers i 0 h (satisfied_byte t noted dropped_byte (get_or cs i []) e);
      dropped = λ i v h e q. (
        known_byte left_answers i (dropped_byte v) h (dropped_known t noted dropped_byte (get_or cs i []) v e q),
        (dropped_first noted (get_or cs i []) v q).named,
        noted-unassigned n t cs v (dropped_noted noted (get_or cs i []) v q),
      );
      others = λ i h e q. left_byte i h (left_asked t noted dropped_byte (get_or cs i []) e q);
      distinct = λ i j h k e d q. own i j h k (left_asked t noted dropped_byte (get_or cs i []) e d) q (satisfied_by t (get_or cs j [])) (dropped_by noted (get_or cs j [])) refl refl;
    }
      where
        own : (i j : ℕ) → i < length cs → j < length cs → stripped_byte t noted (get_or cs i []) ≡ asked → get_or stripped_row i 0 ≡ get_or stripped_row j 0
            → (b : Bool) (x : Dropped) → satisfied_by t (get_or cs j []) ≡ b → dropped_by noted (get_or cs j []) ≡ x → i ≡ j
        own i j h k e q true x f g =
            absurd (omega (arith, (left_byte i h e).1, known_byte left_answers j 0 k (satisfied_byte t noted dropped_byte (get_or cs j []) f)))
        own i j h k e q false (by v) f g =
            let m = left_byte i h e in
            absurd (omega (arith, m.1, m.2, z.most, known_byte left_answers j (dropped_byte v) k (dropped_known t noted dropped_byte (get_or cs j []) v f g)))
        own i j h k e q false by_none f g = asked_own left_answers i j h k e (left_asked t noted dropped_byte (get_or cs j []) f g) q
