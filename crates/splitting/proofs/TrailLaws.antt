-- Laws of trails: how many variables they have, and what satisfies the clauses at their nodes.
use Prim.Native.Nat.{ℕ, ◌^◌, ◌≤◌, ◌<◌}
use mathlib.Core.Path.{◌≡◌, refl, sym}
use mathlib.Core.Bool.{true, false}
use mathlib.Core.List.{List, [], ◌∷◌}
use mathlib.Core.Logic.{⊎_elim}
use native.Mathlib.Omega.{arith}
use lib.ListN.{length}
use lib.Dec.{eqb}
use borrow.Author.Tests.{eqb-true, eq-eqb}
use Rattle.lists.proofs.SublistLaws.{no_elements}
use Rattle.lists.proofs.TestLaws.{or_cases, bool_cases, bool_clash, or_left, or_right}
use Rattle.masks.specs.Mask.{bit, size}
use Rattle.masks.proofs.BitLaws.{bit_below}
use Rattle.matching.proofs.Counting.{count, count_except, except, except_i, except_ne, count_sub}
use Rattle.formula.specs.Format.{Literal, names}
use Rattle.formula.proofs.ClauseLaws.{named_as}
use Rattle.formula.proofs.FormatLaws.{distinct_rest}
use Rattle.splitting.specs.Nodes.{remaining}
use Rattle.splitting.specs.Terms.{Sound, Trail, Covers, Unassigned, Assigns}
use Rattle.splitting.proofs.ClauseLaws.{named_by}
use Rattle.splitting.proofs.CountLaws.{except_of, count_drop, count_lacks, count_none, size_count}
use Rattle.splitting.proofs.NodeLaws.{named-remaining}
use Rattle.splitting.proofs.SoundLaws.{sound_satisfies}

-- a trail has as many variables as literals
pub trail_count : (n : ℕ) (t : List Literal) → Trail n t → count (names t) n ≡ length t
unfolding names
trail_count n [] T = count_none (names []) n (λ i. refl)
trail_count n (l ∷ t) T =
    let x = l.variable in
    let r = distinct_rest l t T.once in
    let here = or_left (eqb x x) (names t x) (eq-eqb x x refl) in
    let rest = trail_count n t (record { below = T.below.1; once = r.1 }) in
    let less = count_sub (except (names (l ∷ t)) x) (names t) n (λ i h.
    ⊎_elim
    (λ e. absurd (except_ne (names (l ∷ t)) x i h (sym (eqb-true x i e))))
    (λ k. k)
    (or_cases (eqb x i) (names t i) (except_of (names (l ∷ t)) x i h))) in
    let more = count_sub (names t) (except (names (l ∷ t)) x) n (λ i h.
    except_i (names (l ∷ t)) x i (or_right (eqb x i) (names t i) h) (λ e. bool_clash h (rw e r.0))) in
    omega (arith, rest, less, more, count_except (names (l ∷ t)) x n T.below.0 here)

module _ (n scope : ℕ) (fits : n ≤ 64) (below : scope < 2 ^ n) (t : List Literal) (T : Trail n t) where
  -- a trail of fewer variables than the mask has lacks one of them
  pub trail_lacks : length t < size scope → Unassigned n scope t
  trail_lacks h =
      let e = trail_count n t T in
      let s = size_count n scope fits below in
      count_lacks (names t) (bit scope) n (omega arith)

  -- a trail of the mask's variables, as many as it has, has them all
  pub trail_full : ((v : ℕ) → names t v ≡ true → bit scope v ≡ true) → length t ≡ size scope → Assigns scope t
  trail_full inside h v b = ⊎_elim (λ e. e) (λ e. absurd (short v b e)) (bool_cases (names t v))
    where
      short : (v : ℕ) → bit scope v ≡ true → names t v ≡ false → ⊥
      short v b e =
          let d = count_drop (names t) (bit scope) n v inside (bit_below n v scope below b) b e in
          let c = trail_count n t T in
          let s = size_count n scope fits below in
          omega arith

-- no clause remains at a sound node where every variable of the mask is assigned, and the mask has the named ones
pub full-none : (n scope : ℕ) (t : List Literal) (cs : List (List Literal)) → Covers scope (remaining t cs) → Assigns scope t → Sound n (remaining t cs)
    → remaining t cs ≡ []
full-none n scope t cs covers all S =
    let w = sound_satisfies n (remaining t cs) S in
    no_elements (remaining t cs) (λ c m.
    let x = w.1 c m in
    let nm = named_by (remaining t cs) c x.0 m (named_as c x.0 (w.0 x.0) x.1) in
    bool_clash (all x.0 (covers x.0 nm)) (named-remaining t cs x.0 nm).1)
