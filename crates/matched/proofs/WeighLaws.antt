-- What is weighed, by cases, that it is what the loops of `weigh_marks` count and gather, and what it has of judge.
use Prim.Native.Nat.{ℕ, suc, ◌+◌, ◌-◌, ◌≤◌, ◌<◌}
use mathlib.Core.Bool.{Bool, true, false, cond, not, or_assoc}
use mathlib.Core.List.{List, [], ◌∷◌, map}
use mathlib.Core.Logic.{◌⊎◌, ⊎_elim}
use mathlib.Core.Path.{◌≡◌, refl, ap, ◌∙◌}
use native.Mathlib.Decide.{dec_lt}
use native.Mathlib.Omega.{arith}
use lib.Bits.{bit_or, or_zero_r}
use lib.Dec.{eqb}
use lib.ListN.{length-map, length, take, drop}
use borrow.Author.Tests.{le-ltb, lt-ltb, eq-eqb, ne_eqb}
use Rattle.std.specs.Prelude.{Result, Ok, Err, count_by}
use Rattle.std.proofs.lemmas.List.Sums.{sum_by-cons}
use Rattle.limits.specs.Limits.{max_clauses}
use Rattle.lists.specs.Over.{over}
use Rattle.lists.proofs.OverLaws.{over_length}
use Rattle.masks.specs.Mask.{bit, minus, size}
use Rattle.masks.proofs.BitLaws.{bit-or}
use Rattle.masks.proofs.MembersLaws.{mask_same}
use Rattle.formula.specs.declared.assignment.Assignment.{Assignment}
use Rattle.formula.specs.declared.Clause.{Clause}
use Rattle.formula.specs.declared.Formula.{Formula}
use Rattle.formula.specs.declared.Refusal.{Refusal}
use Rattle.formula.specs.declared.Refusal.TheVariants.{ShortBuffer, BadAssumption}
use Rattle.formula.specs.InnerDecode.{decode}
use Rattle.formula.specs.Decoding.{readable, refused}
use Rattle.formula.specs.Format.{Literal}
use Rattle.formula.specs.Masked.{variables}
use Rattle.formula.specs.InnerAssignment.{assigned}
use Rattle.formula.specs.InnerMasked.{clause_of}
use Rattle.formula.specs.InnerFits.{clause_variables}
use Rattle.formula.proofs.Demands.{accepted_fits}
use Rattle.formula.proofs.MaskedLaws.{Accepts}
use Rattle.assumptions.specs.declared.Assumption.{Assumption}
use Rattle.assumptions.specs.Assumed.{literals, bad, assumed}
use Rattle.assumptions.specs.InnerAssumed.{MasksOf}
use Rattle.matching.specs.Sets.{union, selected}
use Rattle.matching.proofs.SelectedLaws.{selected_empty, selected_front, selected_map}
use Rattle.splitting.proofs.MaskNodeLaws.{assigned-variables}
use Rattle.matched.specs.Acceptance.{Acceptance, accepted, declined, acceptance}
use Rattle.matched.specs.Judge.{Judged, judge}
use Rattle.matched.specs.Pairing.{marked, named_but, Violator}
use Rattle.matched.specs.Weigh.{counted_values, unweighed_values, weighed_under, weighed_read, weighed}
use Rattle.matched.proofs.AcceptLaws.{given_literals, given_bad}
use Rattle.matched.proofs.AcceptanceLaws.{FormulaComes, paired, strips, unpaired, Comes, of_formula, bad_assumed, unreadable, comes}
use Rattle.matched.proofs.JudgeLaws.{judge_short, judge_accepted, judge_declined}
use Rattle.matched.proofs.PairingLaws.{array_masks}

-- ---- the loop that gathers: what it has, and what the marked ones of the clauses left name

abbrev pub gathers : ℕ → List ℕ → List Clause → ℕ
gathers m marks cs = bit_or m (union (selected marks (map clause_variables cs)))

-- the next mark and the next clause
module _ (m : ℕ) {mark : ℕ} {marks ms : List ℕ} {c : Clause} {cs ds : List Clause} (a : ds ≡ c ∷ cs) (b : ms ≡ mark ∷ marks) where
  pub gathers_marked : (mark ≡ 0 → ⊥) → (x : ℕ) → x ≡ clause_variables c → gathers (bit_or m x) marks cs ≡ gathers m ms ds
  unfolding union selected
  gathers_marked ne x e =
      let r = union (selected marks (map clause_variables cs)) in
      rw (a, b, ne_eqb mark 0 ne, ← e)
      (mask_same (bit_or (bit_or m x) r) (bit_or m (bit_or x r)) (λ i. simp bit-or (or_assoc (bit m i) (bit x i) (bit r i))))

  pub gathers_unmarked : mark ≡ 0 → gathers m marks cs ≡ gathers m ms ds
  unfolding selected
  gathers_unmarked z = rw (a, b, eq-eqb mark 0 z)

-- no clause is left, or no mark
pub gathers_all : (m : ℕ) (marks : List ℕ) (cs : List Clause) → (length cs ≡ 0) ⊎ (length marks ≡ 0) → gathers m marks cs ≡ m
unfolding union selected
gathers_all m marks [] h = rw (selected_empty marks) (or_zero_r m)
gathers_all m [] (c ∷ cs) h = or_zero_r m
gathers_all m (x ∷ marks) (c ∷ cs) h = absurd (⊎_elim (λ (e : suc (length cs) ≡ 0). omega (arith, e)) (λ (e : suc (length marks) ≡ 0). omega (arith, e)) h)

-- ---- the marks that are counted

-- as many are not 0 as clauses are marked
marked_count : {A : Type 0} (marks : List ℕ) (l : List A) → length l ≤ length marks → count_by (λ x. not (eqb x 0)) (take (length l) marks) ≡ length (selected marks l)
unfolding selected
marked_count [] [] h = refl
marked_count [] (x ∷ l) h = absurd (omega arith)
marked_count (m ∷ marks) [] h = refl
marked_count (m ∷ marks) (x ∷ l) h =
    sum_by-cons (λ y. cond (not (eqb y 0)) 1 0) m (take (length l) marks) ∙ by (eqb m 0) (marked_count marks l (omega arith))
  where
    by : (b : Bool) → count_by (λ x. not (eqb x 0)) (take (length l) marks) ≡ length (selected marks l)
        → cond (not b) 1 0 + count_by (λ x. not (eqb x 0)) (take (length l) marks) ≡ length (cond b (selected marks l) (x ∷ selected marks l))
    by true e = omega (arith, e)
    by false e = omega (arith, e)

-- ---- what is weighed, by the cases of its definition

pub weigh_short : (s : List ℕ) (us : List Assumption) (b : List ℕ) → length b < max_clauses → weighed s us b ≡ unweighed_values (ShortBuffer 0)
unfolding weighed
weigh_short s us b l = rw (lt-ltb (length b) max_clauses l)

module _ (s : List ℕ) (us : List Assumption) (b : List ℕ) (l : max_clauses ≤ length b) where
  weigh_long : weighed s us b ≡ weighed_read (decode s) us b
  unfolding weighed
  weigh_long = rw (le-ltb (length b) max_clauses l)

  pub weigh_refused : (r : Refusal) → decode s ≡ refused r → weighed s us b ≡ unweighed_values r
  weigh_refused r e = rw (weigh_long, e)

  module _ (n : ℕ) (cs : List (List Literal)) (reads : decode s ≡ readable n cs) where
    pub weigh_bad : (i : ℕ) → assumed n us ≡ bad i → weighed s us b ≡ unweighed_values (BadAssumption i)
    weigh_bad i e = rw (weigh_long, reads, e)

    pub weigh_under : (t : List Literal) → assumed n us ≡ literals t → weighed s us b ≡ weighed_under t cs b
    weigh_under t e = rw (weigh_long, reads, e)

  -- ---- what the code answers, over the masks u of the assumptions and the formula f that was read

  module _ (u : Result Assignment Refusal) (given : MasksOf s us u) (f : Formula) (a : Accepts s f) where
    abbrev n : ℕ
    n = a.variables

    abbrev cs : List (List Literal)
    cs = a.clauses

    pub bad_weighed : (r : Refusal) → u ≡ Err r → weighed s us b ≡ unweighed_values r
    bad_weighed r e = let g = given_bad s us u given n cs a.reads r e in rw g.2 (weigh_bad n cs a.reads g.0 g.1)

    -- as many marks as marked clauses
    counted : count_by (λ x. not (eqb x 0)) (take (length f.clauses.items) b) ≡ length (marked b cs)
    counted =
        let e : length f.clauses.items ≡ length cs = ap (λ (g : Formula). length g.clauses.items) a.formula ∙ length-map cs clause_of in
        ap (λ (k : ℕ). count_by (λ x. not (eqb x 0)) (take k b)) e ∙ marked_count b cs (omega (arith, e, a.fits.few))

    -- the masks of the marked clauses
    gathered : selected b (map clause_variables f.clauses.items) ≡ map variables (marked b cs)
    gathered = ap (selected b) (array_masks n cs f a.formula) ∙ selected_map variables b cs

    pub counted_weighed : (z : Assignment) → u ≡ Ok z → (k m : ℕ) → k ≡ count_by (λ x. not (eqb x 0)) (take (length f.clauses.items) b)
        → m ≡ union (selected b (map clause_variables f.clauses.items))
        → weighed s us b ≡ counted_values k (size (minus m (assigned z)))
    counted_weighed z e k m p q =
        let g = given_literals s us u given n cs a.reads z e in
        let v : assigned z ≡ variables g.0 = ap assigned g.2 ∙ assigned-variables g.0 in
        rw (weigh_under n cs a.reads g.0 g.1, p, q, counted, gathered, v)

-- ---- marks that were written over the first bytes of a buffer

module _ (s : List ℕ) (us : List Assumption) (b : List ℕ) (l : max_clauses ≤ length b) (n : ℕ) (cs : List (List Literal)) (reads : decode s ≡ readable n cs)
    (t : List Literal) (assumes : assumed n us ≡ literals t) (ms : List ℕ) where
  -- they weigh what they weigh alone: what stands behind them does not count
  pub weigh_over : length cs ≤ length ms → length ms ≤ length b → weighed s us (over ms b) ≡ weighed_under t cs ms
  weigh_over enough few =
      weigh_under s us (over ms b) (omega (arith, over_length ms b few)) n cs reads t assumes
      ∙ ap (λ (ds : List (List Literal)). counted_values (length ds) (size (named_but t ds))) (selected_front ms (drop (length ms) b) cs enough)

  -- and those of a violator weigh one variable fewer than clauses
  pub weigh_violator : Violator n t cs ms → (let k = length (marked ms cs) in weighed s us (over ms b) ≡ counted_values k (k - 1))
  weigh_violator v =
      let one : size (named_but t (marked ms cs)) ≡ length (marked ms cs) - 1 = omega (arith, v.fewer) in
      weigh_over (omega (arith, v.one_each)) (omega (arith, v.one_each, (accepted_fits s n cs reads).few)) ∙ ap (counted_values (length (marked ms cs))) one

-- ---- beside judge

module _ (s : List ℕ) (us : List Assumption) (b : List ℕ) where
  -- the same number, or none, and the same place
  abbrev Alike : Type 0
  Alike = ((weighed s us b).number ≡ (judge s us b).answer.number) × ((weighed s us b).place ≡ (judge s us b).answer.place)

  module _ (l : max_clauses ≤ length b) where
    alike_declined : (r : Refusal) (row : List ℕ) → acceptance s us ≡ declined r row → weighed s us b ≡ unweighed_values r → Alike
    alike_declined r row e w = rw (judge_declined s us b l r row e, w) (refl, refl)

    alike_accepted : (n : ℕ) (t : List Literal) (cs : List (List Literal)) (row : List ℕ) → acceptance s us ≡ accepted n t cs row → weighed s us b ≡ weighed_under t cs b → Alike
    alike_accepted n t cs row e w = rw (judge_accepted s us b l n t cs row e, w) (refl, refl)

    alike_formula : (n : ℕ) (t : List Literal) (cs : List (List Literal)) → decode s ≡ readable n cs → assumed n us ≡ literals t → {a : Acceptance} → FormulaComes n t cs a
        → acceptance s us ≡ a → ((judge s us b).answer.number ≡ 10 → ⊥) → Alike
    alike_formula k t ds reads assumes (paired vs w) e ne = alike_accepted k t ds _ e (weigh_under s us b l k ds reads t assumes)
    alike_formula k t ds reads assumes (strips vs none w) e ne = alike_accepted k t ds _ e (weigh_under s us b l k ds reads t assumes)
    alike_formula k t ds reads assumes (unpaired ms v none) e ne = absurd (ne (ap (λ (j : Judged). j.answer.number) (judge_declined s us b l _ ms e)))

    alike_long : {a : Acceptance} → Comes s us a → acceptance s us ≡ a → ((judge s us b).answer.number ≡ 10 → ⊥) → Alike
    alike_long (of_formula n t cs reads assumes f) e ne = alike_formula n t cs reads assumes f e ne
    alike_long (bad_assumed n cs i reads assumes) e ne = alike_declined (BadAssumption i) [] e (weigh_bad s us b l n cs reads i assumes)
    alike_long (unreadable r reads) e ne = alike_declined r [] e (weigh_refused s us b l r reads)

  -- but where judge says 10
  pub weigh_as_judge : ((judge s us b).answer.number ≡ 10 → ⊥) → Alike
  weigh_as_judge ne = by (dec_lt (length b) max_clauses)
    where
      by : Dec (length b < max_clauses) → Alike
      by (yes h) = rw (judge_short s us b h, weigh_short s us b h) (refl, refl)
      by (no h) = alike_long (omega arith) (comes s us) refl ne
