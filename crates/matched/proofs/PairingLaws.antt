-- Pairings of clauses told as lists are matchings of their masks, with all variables or without those of t.
use Prim.Native.Nat.{ℕ, ◌^◌, ◌≤◌, ◌<◌}
use mathlib.Core.Bool.{Bool, true, false, not, ◌&&◌, ◌||◌}
use mathlib.Core.List.{List, [], ◌∷◌, map}
use mathlib.Core.Path.{◌≡◌, refl, sym, ap, ap₂, ◌∙◌}
use native.Mathlib.Omega.{arith}
use lib.Bits.{bit_or}
use lib.ListN.{length, get_or, length-map, get_or-map}
use lib.Pow.{pow_mono}
use Rattle.lists.proofs.EveryLaws.{every_get_or}
use Rattle.lists.proofs.MapLaws.{get_or-map_in}
use Rattle.lists.proofs.TestLaws.{and_left, and_right}
use Rattle.masks.specs.Mask.{bit, minus}
use Rattle.masks.proofs.BitLaws.{bit-minus, bit-none, bit-or, minus_lt}
use Rattle.masks.proofs.MembersLaws.{mask_same}
use Rattle.formula.specs.declared.Formula.{Formula}
use Rattle.formula.specs.Format.{Literal, names, names_as, ClauseOver, Sized}
use Rattle.formula.specs.InnerFits.{clause_variables}
use Rattle.formula.specs.InnerMasked.{clause_of, formula_of}
use Rattle.formula.specs.Masked.{variables}
use Rattle.formula.proofs.ClauseLaws.{clause_names, clause_side, variables-bit, variables_lt}
use Rattle.matching.specs.Sets.{Words, union}
use Rattle.matching.specs.InnerMatched.{Matches}
use Rattle.splitting.specs.Nodes.{occurs, named}
use Rattle.splitting.proofs.MaskClauseLaws.{sets_variables}
use Rattle.matched.specs.Pairing.{Pairs, PairsBut, named_but}

-- the mask of the i-th clause
mask_at : (cs : List (List Literal)) (i : ℕ) → get_or (map variables cs) i 0 ≡ variables (get_or cs i [])
unfolding variables
mask_at cs i = get_or-map variables cs i []

-- the masks of clauses over n variables are words
pub masks_words : {n : ℕ} {cs : List (List Literal)} → Sized n cs → Words (map variables cs)
masks_words {n} {cs} z i l =
    let m : i < length cs = rw (length-map cs variables) at l in
    let h : n ≤ 64 = omega (arith, z.most) in
    let p : 2 ^ n ≤ 2 ^ 64 = pow_mono h in
    rw (mask_at cs i) (omega (arith, variables_lt n (get_or cs i []) (every_get_or (ClauseOver n) cs i [] m z.clauses).below))

-- the masks that a formula has in its array are those of its clauses
pub array_masks : (n : ℕ) (cs : List (List Literal)) (f : Formula) → f ≡ formula_of n cs → map clause_variables f.clauses.items ≡ map variables cs
array_masks n cs f e = ap (λ (g : Formula). map clause_variables g.clauses.items) e ∙ sets_variables cs

-- ---- what clauses together name

names_both : (c : List Literal) (v : ℕ) → names c v ≡ names_as c v true || names_as c v false
names_both c v =
    sym (clause_names c v) ∙ bit-or (clause_of c).positive (clause_of c).negative v ∙ ap₂ (λ (x y : Bool). x || y) (clause_side c true v) (clause_side c false v)

or_pairs : (a b x y : Bool) → (a || b) || (x || y) ≡ (a || x) || (b || y)
or_pairs true b x y = refl
or_pairs false true true y = refl
or_pairs false true false y = refl
or_pairs false false x y = refl

pub bit-union : (cs : List (List Literal)) (v : ℕ) → bit (union (map variables cs)) v ≡ named cs v
unfolding union named occurs
bit-union [] v = bit-none v
bit-union (c ∷ cs) v =
    bit-or (variables c) (union (map variables cs)) v
    ∙ ap₂ (λ (x y : Bool). x || y) (variables-bit c v ∙ names_both c v) (bit-union cs v)
    ∙ or_pairs (names_as c v true) (names_as c v false) (occurs cs v true) (occurs cs v false)

-- the variables of t not counted
pub bit-named : (t : List Literal) (cs : List (List Literal)) (v : ℕ) → bit (named_but t cs) v ≡ named cs v && not (names t v)
bit-named t cs v = bit-minus (union (map variables cs)) (variables t) v ∙ ap₂ (λ (x y : Bool). x && not y) (bit-union cs v) (variables-bit t v)

-- ---- matchings

-- a matching of the masks pairs the clauses
pub matches_pairs : (cs : List (List Literal)) (vs : List ℕ) → Matches (map variables cs) vs → Pairs cs vs
matches_pairs cs vs w =
    let m : length (map variables cs) ≡ length cs = length-map cs variables in
    record {
      one_each = w.one_each ∙ m;
      named = λ i l. sym (ap (λ (x : ℕ). bit x (get_or vs i 0)) (mask_at cs i) ∙ variables-bit (get_or cs i []) (get_or vs i 0)) ∙ w.named i (rw m l);
      distinct = λ i j l k e. w.distinct i j (rw m l) (rw m k) e;
    }

-- and the other way round
pub pairs_matches : (cs : List (List Literal)) (vs : List ℕ) → Pairs cs vs → Matches (map variables cs) vs
pairs_matches cs vs w =
    let m : length (map variables cs) ≡ length cs = length-map cs variables in
    record {
      one_each = w.one_each ∙ sym m;
      named = λ i l. ap (λ (x : ℕ). bit x (get_or vs i 0)) (mask_at cs i) ∙ variables-bit (get_or cs i []) (get_or vs i 0) ∙ w.named i (rw m at l);
      distinct = λ i j l k e. w.distinct i j (rw m at l) (rw m at k) e;
    }

-- ---- without the variables of t

-- the variables that a clause names and t does not, as a mask
abbrev pub but : List Literal → List Literal → ℕ
but t c = minus (variables c) (variables t)

module _ (t : List Literal) where
  pub bit_but : (c : List Literal) (v : ℕ) → bit (but t c) v ≡ names c v && not (names t v)
  bit_but c v = bit-minus (variables c) (variables t) v ∙ ap₂ (λ (x y : Bool). x && not y) (variables-bit c v) (variables-bit t v)

  but_at : (cs : List (List Literal)) (i v : ℕ) → i < length cs → bit (get_or (map (but t) cs) i 0) v ≡ names (get_or cs i []) v && not (names t v)
  but_at cs i v h = ap (λ (m : ℕ). bit m v) (get_or-map_in (but t) cs i [] 0 h) ∙ bit_but (get_or cs i []) v

  -- what clauses together name, those not counted
  pub named_union : (cs : List (List Literal)) → named_but t cs ≡ union (map (but t) cs)
  unfolding union
  named_union [] = mask_same (minus 0 (variables t)) 0 (λ v. bit-minus 0 (variables t) v ∙ rw (bit-none v))
  named_union (c ∷ cs) =
      mask_same (minus (bit_or (variables c) (union (map variables cs))) (variables t)) (bit_or (but t c) (named_but t cs)) same
      ∙ ap (bit_or (but t c)) (named_union cs)
    where
      and_or : (x y z : Bool) → (x || y) && z ≡ (x && z) || (y && z)
      and_or true true true = refl
      and_or true true false = refl
      and_or true false true = refl
      and_or true false false = refl
      and_or false y z = refl

      same : (v : ℕ) → bit (minus (bit_or (variables c) (union (map variables cs))) (variables t)) v ≡ bit (bit_or (but t c) (named_but t cs)) v
      same v =
          let a = variables c in
          let b = union (map variables cs) in
          let k = variables t in
          bit-minus (bit_or a b) k v
          ∙ ap (λ (x : Bool). x && not (bit k v)) (bit-or a b v)
          ∙ and_or (bit a v) (bit b v) (not (bit k v))
          ∙ sym (bit-or (minus a k) (minus b k) v ∙ ap₂ (λ (x y : Bool). x || y) (bit-minus a k v) (bit-minus b k v))

  -- the masks are words
  pub but_words : {n : ℕ} {cs : List (List Literal)} → Sized n cs → Words (map (but t) cs)
  but_words {n} {cs} z i l =
      let m : i < length cs = rw (length-map cs (but t)) at l in
      let w = masks_words z i (rw (length-map cs variables) m) in
      rw (get_or-map_in (but t) cs i [] 0 m) (minus_lt 64 (variables (get_or cs i [])) (variables t) (rw (mask_at cs i) at w))

  -- a matching of these masks pairs the clauses without the variables of t,
  pub matches_but : (cs : List (List Literal)) (vs : List ℕ) → Matches (map (but t) cs) vs → PairsBut t cs vs
  matches_but cs vs w =
      let m : length (map (but t) cs) ≡ length cs = length-map cs (but t) in
      let both : (i : ℕ) → i < length cs → names (get_or cs i []) (get_or vs i 0) && not (names t (get_or vs i 0)) ≡ true =
      λ i l. sym (but_at cs i (get_or vs i 0) l) ∙ w.named i (rw m l) in
      record {
        pairs = record {
          one_each = w.one_each ∙ m;
          named = λ i l. and_left (names (get_or cs i []) (get_or vs i 0)) (not (names t (get_or vs i 0))) (both i l);
          distinct = λ i j l k e. w.distinct i j (rw m l) (rw m k) e;
        };
        unassumed = λ i l. not-true (names t (get_or vs i 0)) (and_right (names (get_or cs i []) (get_or vs i 0)) (not (names t (get_or vs i 0))) (both i l));
      }
    where
      not-true : (x : Bool) → not x ≡ true → x ≡ false
      not-true true e = sym e
      not-true false e = refl

  -- and the other way round
  pub but_matches : (cs : List (List Literal)) (vs : List ℕ) → PairsBut t cs vs → Matches (map (but t) cs) vs
  but_matches cs vs w =
      let m : length (map (but t) cs) ≡ length cs = length-map cs (but t) in
      record {
        one_each = w.pairs.one_each ∙ sym m;
        named = λ i l. let h : i < length cs = rw m at l in but_at cs i (get_or vs i 0) h ∙ rw (w.pairs.named i h, w.unassumed i h);
        distinct = λ i j l k e. w.pairs.distinct i j (rw m at l) (rw m at k) e;
      }
