-- The steps and the expansions before the first model, between two, and before the end, over a list of calls. Over any tree.
use Prim.Native.Nat.{ℕ, suc, ◌+◌, ◌*◌, ◌-◌, ◌≤◌}
use mathlib.Core.Bool.{Bool, true, false}
use mathlib.Core.List.{List, [], ◌∷◌}
use mathlib.Core.Path.{◌≡◌, refl, subst}
use native.Mathlib.Nat.{suc-mul, mul-le-mul_right}
use native.Mathlib.Omega.{arith}
use lib.ListN.{length}
use Rattle.formula.specs.Format.{Literal}
use Rattle.walk.specs.Plain.{Entry, model, end}
use Rattle.walk.specs.PlainMachine.{Answer, found, spent, ended}
use Rattle.walk.specs.Checkpoints.{trail_in}
use Rattle.walk.specs.Results.{answer_kind}
use Rattle.walk.specs.Gaps.{Gap, to_model, to_end, so_far, gap_after, gaps_from, gaps, shared, Parting, PacedLater, Paced}
use Rattle.walk.specs.InnerStack.{Stack, empty, push, depth, trail_of, Tree}
use Rattle.walk.specs.InnerMachine.{Position, down, full, back, over, Resumed, resume}
use Rattle.walk.specs.InnerTest.{stack_of, shown}
use Rattle.walk.proofs.RestLaws.{Replayed, replayed_depth, Reachable, Live, from_full, from_back, k_model, k_assign, k_true, k_undo, k_end}
use Rattle.walk.proofs.RestLaws as rests
use Rattle.walk.proofs.CallLaws.{Steps, s_assign, s_undo, call_ind, call_effect, resumes, results}
use Rattle.walk.proofs.CostLaws.{step_cheap}
use Rattle.walk.proofs.PositionLaws.{length_trail}
use Rattle.walk.proofs.PartingLaws.{Begins, b_same, b_more, begins_less, begins_depth, parting_depth, parting}

-- A property Now of steps, expansions and position that every step keeps; Hit of the numbers and of the trail at a model, Stop at the
-- end; behind a model Then starts anew.
module _ (K : Tree) (L : Live K) (Now : ℕ → ℕ → Position → Type 0) (Then : Stack → ℕ → ℕ → Position → Type 0) (Hit : ℕ → ℕ → Stack → Type 0) (Stop : ℕ → ℕ → Type 0) where
  record Kept : Type 0 where
    stepping : (p : Position) (x : Entry) (y : ℕ) (q : Position) (c e : ℕ) → Reachable K p → rests.Kind K p x q → Steps x y → Now c e p → Now (suc c) (e + y) q
    hitting : (p : Position) (a : ℕ) (q : Position) (c e : ℕ) → Reachable K p → rests.Kind K p (model a) q → Now c e p → Hit c e (stack_of q) × Then (stack_of q) 0 0 q
    stopping : (p q : Position) (c e : ℕ) → Reachable K p → rests.Kind K p end q → Now c e p → Stop c e
    never_over : (c e : ℕ) → Now c e over → ⊥

  abbrev Paces : Answer → Position → ℕ → ℕ → Type 0
  Paces (found a) q c e = Hit c e (stack_of q) × Then (stack_of q) 0 0 q
  Paces spent q c e = Now c e q
  Paces ended q c e = Stop c e

  abbrev Good : ℕ → Position → Resumed → Type 0
  Good b p r = (c e : ℕ) → Now c e p → Paces r.answer r.position (c + r.steps) (e + r.expansions)

  no_more : (a : Answer) (q : Position) (c e : ℕ) → Paces a q c e → Paces a q (c + 0) (e + 0)
  no_more a q c e h = let i : c + 0 ≡ c = omega arith in let j : e + 0 ≡ e = omega arith in rw (i, j) h

  one_more : (a : Answer) (q : Position) (c e m s y : ℕ) → Paces a q (suc c + m) (e + y + s) → Paces a q (c + suc m) (e + (y + s))
  one_more a q c e m s y h = let i : c + suc m ≡ suc c + m = omega arith in let j : e + (y + s) ≡ e + y + s = omega arith in rw (i, j) h

  call_paces : Kept → (b : ℕ) (p : Position) → Reachable K p → Good b p (resume K b p)
  call_paces k = call_ind K L Good
      (λ b c e i. absurd (k.never_over c e i))
      (λ b p a q o g c e i. no_more (found a) q c e (k.hitting p a q c e o g.kind i))
      (λ b p q o g c e i. no_more ended q c e (k.stopping p q c e o g.kind i))
      (λ p x y q o g m c e i. no_more spent p c e i)
      (λ b p x y q o g m r h c e i. one_more r.answer r.position c e r.steps r.expansions y (h (suc c) (e + y) (k.stepping p x y q c e o g.kind m i)))

-- B is the most that one assignment costs. After a model with the trail u the walk goes up along it, or down again after the two trails
-- have parted.
module _ (K : Tree) (B : ℕ) where
  record Parted (u : Stack) (c : ℕ) (t : Stack) : Type 0 where
    at : Stack
    variable : ℕ
    had : Begins (push variable false at) u
    has : Begins (push variable true at) t
    count : c + 2 * depth at ≡ K.size + depth t

  record Rose (u : Stack) (c : ℕ) (b : Bool) (t : Stack) : Type 0 where
    had : Begins (push (K.choose t).variable b t) u
    count : c + depth t ≡ K.size

  abbrev later : Stack → ℕ → ℕ → Position → Type 0
  later u c e (down t) = Parted u c t × (e ≤ depth t * B)
  later u c e (full t) = (t ≡ u) × (c ≡ 0) × (e ≡ 0)
  later u c e (back b t) = Rose u c b t × (e ≡ 0)
  later u c e over = ⊥

  abbrev first : ℕ → ℕ → Position → Type 0
  first c e (down t) = (c ≡ depth t) × (e ≤ depth t * B)
  first c e (full t) = ⊥
  first c e (back b t) = ⊥
  first c e over = ⊥

  abbrev HitFirst : ℕ → ℕ → Stack → Type 0
  HitFirst c e t = (c ≡ K.size) × (e ≤ K.size * B)

  abbrev HitLater : Stack → ℕ → ℕ → Stack → Type 0
  HitLater u c e t =
      (c ≡ 2 * (length (trail_of t) - shared (trail_of u) (trail_of t))) × (c ≤ 2 * K.size) × (e ≤ K.size * B) × Parting (trail_of u) (trail_of t)

  abbrev StopLast : ℕ → ℕ → Type 0
  StopLast c e = (c ≡ K.size) × (e ≡ 0)

-- The trails of neighbouring models part. x is that of the model before.
abbrev PartedLater : List Literal → List Gap → Type 0
PartedLater x [] = Unit {0}
PartedLater x (to_model c e y ∷ gs) = Parting x y × PartedLater y gs
PartedLater x (to_end c e ∷ gs) = PartedLater x gs
PartedLater x (so_far c e ∷ gs) = PartedLater x gs

-- From the start.
abbrev PartedAll : List Gap → Type 0
PartedAll [] = Unit {0}
PartedAll (to_model c e y ∷ gs) = PartedLater y gs
PartedAll (to_end c e ∷ gs) = Unit {0}
PartedAll (so_far c e ∷ gs) = Unit {0}

-- both: the waits after a model with the trail x, and from the start
abbrev pub WaitsLater : ℕ → ℕ → List Literal → List Gap → Type 0
WaitsLater n B x gs = PacedLater n B x gs × PartedLater x gs

abbrev pub WaitsFirst : ℕ → ℕ → List Gap → Type 0
WaitsFirst n B gs = Paced n B gs × PartedAll gs

module _ (K : Tree) (L : Live K) (B : ℕ) (cheap : (t : Stack) → Replayed K t → (K.choose t).expansions ≤ B)
    (told : (p : Position) → Reachable K p → trail_in (shown p) ≡ trail_of (stack_of p)) where
  rose_up : (u : Stack) (c v : ℕ) (b : Bool) (t : Stack) → Replayed K (push v b t) → Begins (push v b t) u → c + depth t ≡ K.size → Rose K B u c b t
  rose_up u c v b t r h n = record { had = subst (λ (x : ℕ). Begins (push x b t) u) r.2 h; count = n }

  later_pausing : (p : Position) (u : Stack) (c e : ℕ) → Reachable K p → later K B u c e p → (c ≤ 2 * K.size) × (e ≤ K.size * B)
  later_pausing (down t) u c e o i = let d = replayed_depth K t o in let w = mul-le-mul_right B d in (omega (arith, i.0.count), omega arith)
  later_pausing (full t) u c e o i = (omega arith, omega arith)
  later_pausing (back b t) u c e o i = (omega (arith, i.0.count), omega arith)
  later_pausing over u c e o i = absurd i

  first_pausing : (p : Position) (c e : ℕ) → Reachable K p → first K B c e p → (c ≤ K.size) × (e ≤ K.size * B)
  first_pausing (down t) c e o i = let d = replayed_depth K t o in let w = mul-le-mul_right B d in (omega arith, omega arith)
  first_pausing (full t) c e o i = absurd i
  first_pausing (back b t) c e o i = absurd i
  first_pausing over c e o i = absurd i

  later_kept : (u : Stack) → Kept K L (later K B u) (later K B) (HitLater K B u) (StopLast K B)
  later_kept u = record { stepping = stepping; hitting = hitting; stopping = stopping; never_over = λ c e i. i }
    where
      stepping : (p : Position) (x : Entry) (y : ℕ) (q : Position) (c e : ℕ) → Reachable K p → rests.Kind K p x q → Steps x y → later K B u c e p → later K B u (suc c) (e + y) q
      stepping p x y q c e o (k_model h) m i = elim m [ ]
      stepping p x y q c e o (k_assign {t} b h) (s_assign l y') i =
          let z = step_cheap B (K.choose t) b (cheap t o) in
          let w = i.0 in
          let k = w.count in
          (record { at = w.at; variable = w.variable; had = w.had; has = b_more _ b w.has; count = omega arith }, omega (arith, suc-mul (depth t) B, i.1))
      stepping p x y q c e o (k_true {t} h) (s_assign l y') i =
          let z = step_cheap B (K.choose t) true (cheap t o.0) in
          let k = i.0.count in
          (record { at = t; variable = (K.choose t).variable; had = i.0.had; has = b_same; count = omega arith }, omega (arith, suc-mul (depth t) B, i.1))
      stepping p x y q c e o (k_undo v b {t} (from_full h)) s_undo i =
          (rose_up u (suc c) v b t o.0 (subst (λ (z : Stack). Begins (push v b t) z) i.0 b_same) (omega (arith, i.1)), omega (arith, i.2))
      stepping p x y q c e o (k_undo v b {t} (from_back d h)) s_undo i =
          let k = i.0.count in
          (rose_up u (suc c) v b t o.0 (begins_less i.0.had) (omega arith), omega (arith, i.1))
      stepping p x y q c e o (k_end h) m i = elim m [ ]

      hitting : (p : Position) (a : ℕ) (q : Position) (c e : ℕ) → Reachable K p → rests.Kind K p (model a) q → later K B u c e p
          → HitLater K B u c e (stack_of q) × later K B (stack_of q) 0 0 q
      hitting p a q c e o (k_model {t} h) i =
          let w = i.0 in
          let k = w.count in
          let g = parting_depth w.variable w.at u t w.had w.has in
          let d = begins_depth w.has in
          let l = length_trail t in
          ((omega arith, omega arith, subst (λ (m : ℕ). e ≤ m * B) h i.1, parting w.variable w.at u t w.had w.has), (refl, refl, refl))

      stopping : (p q : Position) (c e : ℕ) → Reachable K p → rests.Kind K p end q → later K B u c e p → StopLast K B c e
      stopping p q c e o (k_end (from_full h)) i = (omega (arith, i.1), i.2)
      stopping p q c e o (k_end (from_back x h)) i = let k = i.0.count in (omega arith, i.1)

  first_kept : Kept K L (first K B) (later K B) (HitFirst K B) (λ c e. ⊥)
  first_kept = record { stepping = stepping; hitting = hitting; stopping = stopping; never_over = λ c e i. i }
    where
      stepping : (p : Position) (x : Entry) (y : ℕ) (q : Position) (c e : ℕ) → Reachable K p → rests.Kind K p x q → Steps x y → first K B c e p → first K B (suc c) (e + y) q
      stepping p x y q c e o (k_model h) m i = elim m [ ]
      stepping p x y q c e o (k_assign {t} b h) (s_assign l y') i =
          let z = step_cheap B (K.choose t) b (cheap t o) in (omega arith, omega (arith, suc-mul (depth t) B))
      stepping p x y q c e o (k_true h) m i = absurd i
      stepping p x y q c e o (k_undo v b (from_full h)) m i = absurd i
      stepping p x y q c e o (k_undo v b (from_back d h)) m i = absurd i
      stepping p x y q c e o (k_end h) m i = elim m [ ]

      hitting : (p : Position) (a : ℕ) (q : Position) (c e : ℕ) → Reachable K p → rests.Kind K p (model a) q → first K B c e p
          → HitFirst K B c e (stack_of q) × later K B (stack_of q) 0 0 q
      hitting p a q c e o (k_model h) i = ((omega arith, subst (λ (m : ℕ). e ≤ m * B) h i.1), (refl, refl, refl))

      stopping : (p q : Position) (c e : ℕ) → Reachable K p → rests.Kind K p end q → first K B c e p → ⊥
      stopping p q c e o (k_end (from_full h)) i = i
      stopping p q c e o (k_end (from_back x h)) i = i

  later_after : (a : Answer) (u : Stack) (q : Position) (c e : ℕ) (bs : List ℕ) → Reachable K q → Paces K L (later K B u) (later K B) (HitLater K B u) (StopLast K B) a q c e
      → ((u : Stack) (c e : ℕ) → later K B u c e q → WaitsLater K.size B (trail_of u) (gaps_from c e (results K L q bs)))
      → WaitsLater K.size B (trail_of u) (gap_after (answer_kind a) c e (trail_in (shown q)) (λ c' e'. gaps_from c' e' (results K L q bs)))
  later_after (found m) u q c e bs o h ih =
      let i = ih (stack_of q) 0 0 h.1 in
      rw (told q o) ((h.0.0, h.0.1, h.0.2, i.0), (h.0.3, i.1))
  later_after spent u q c e bs o h ih = ih u c e h
  later_after ended u q c e bs o h ih = ((h.0, h.1, tt), tt)

  -- over a list of calls from a position behind a model
  later_pace : (bs : List ℕ) (p : Position) (u : Stack) (c e : ℕ) → Reachable K p → later K B u c e p → WaitsLater K.size B (trail_of u) (gaps_from c e (results K L p bs))
  unfolding resumes gaps_from
  later_pace [] p u c e o i = let w = later_pausing p u c e o i in ((w.0, w.1, tt), tt)
  later_pace (b ∷ bs) p u c e o i =
      let r = resume K b p in
      later_after r.answer u r.position _ _ bs (call_effect K L b p o).fine (call_paces K L _ _ _ _ (later_kept u) b p o c e i)
      (λ u' c' e' i'. later_pace bs (resume K b p).position u' c' e' (call_effect K L b p o).fine i')

  first_after : (a : Answer) (q : Position) (c e : ℕ) (bs : List ℕ) → Reachable K q → Paces K L (first K B) (later K B) (HitFirst K B) (λ c e. ⊥) a q c e
      → ((c e : ℕ) → first K B c e q → WaitsFirst K.size B (gaps_from c e (results K L q bs)))
      → WaitsFirst K.size B (gap_after (answer_kind a) c e (trail_in (shown q)) (λ c' e'. gaps_from c' e' (results K L q bs)))
  first_after (found m) q c e bs o h ih =
      let i = later_pace bs q (stack_of q) 0 0 o h.1 in
      rw (told q o) ((h.0.0, h.0.1, i.0), i.1)
  first_after spent q c e bs o h ih = ih c e h
  first_after ended q c e bs o h ih = absurd h

  first_paced : (bs : List ℕ) (p : Position) (c e : ℕ) → Reachable K p → first K B c e p → WaitsFirst K.size B (gaps_from c e (results K L p bs))
  unfolding resumes gaps_from
  first_paced [] p c e o i = (first_pausing p c e o i, tt)
  first_paced (b ∷ bs) p c e o i =
      let r = resume K b p in
      first_after r.answer r.position _ _ bs (call_effect K L b p o).fine
      (call_paces K L _ _ _ _ first_kept b p o c e i)
      (λ c' e' i'. first_paced bs (resume K b p).position c' e' (call_effect K L b p o).fine i')

  -- over a list of calls, whatever the budgets
  pub pace : (bs : List ℕ) → WaitsFirst K.size B (gaps (results K L (down empty) bs))
  pace bs = first_paced bs (down empty) 0 0 tt (refl, omega arith)

  -- and from behind a model
  pub pace_full : (bs : List ℕ) (u : Stack) → Replayed K u → depth u ≡ K.size → WaitsLater K.size B (trail_of u) (gaps (results K L (full u) bs))
  pace_full bs u r h = later_pace bs (full u) u 0 0 (r, h) (refl, refl, refl)
