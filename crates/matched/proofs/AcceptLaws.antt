-- What accept's contract says of an input, and that its code meets it.
use Prim.Native.Nat.{ℕ, suc, ◌+◌, ◌≤◌, ◌<◌}
use mathlib.Core.Bool.{Bool, true, false, not, cond, ◌&&◌, ◌||◌}
use mathlib.Core.List.{List, [], ◌∷◌, map, Memᴰ}
use mathlib.Core.Path.{◌≡◌, refl, sym, ap, ap₂, ◌∙◌}
use native.Mathlib.Decide.{dec_lt}
use native.Mathlib.Numerals.{add-one}
use native.Mathlib.Omega.{arith}
use lib.ListN.{length, get_or, length-map}
use Rattle.std.specs.Prelude.{Result, Ok, Err}
use Rattle.limits.specs.Limits.{max_clauses}
use Rattle.lists.specs.Padded.{padded}
use Rattle.lists.specs.Every.{Every}
use Rattle.lists.proofs.EveryLaws.{every_get_or}
use Rattle.lists.proofs.PaddedLaws.{get_or_padded, get_or_padded_past}
use Rattle.lists.proofs.SublistLaws.{get_or_element}
use Rattle.lists.proofs.TabulatedLaws.{tabulated_of}
use Rattle.masks.specs.Mask.{with}
use Rattle.masks.proofs.BitLaws.{bit_below}
use Rattle.formula.specs.declared.assignment.Assignment.{Assignment}
use Rattle.formula.specs.declared.Clause.{Clause}
use Rattle.formula.specs.declared.Formula.{Formula}
use Rattle.formula.specs.declared.Refusal.{Refusal}
use Rattle.formula.specs.declared.Refusal.TheVariants.{Unmatched, BadAssumption}
use Rattle.formula.specs.InnerDecode.{decode}
use Rattle.formula.specs.Decoding.{readable, refused}
use Rattle.formula.specs.Format.{Literal, distinct, Sized, ClauseOver}
use Rattle.formula.specs.Masked.{variables}
use Rattle.formula.specs.InnerAssignment.{set_to, satisfied_under}
use Rattle.formula.specs.InnerMasked.{no_clause, with_literal, with_literals, clause_of, formula_of}
use Rattle.formula.specs.InnerFits.{clause_variables, FormulaFits}
use Rattle.formula.proofs.Demands.{accepted_only}
use Rattle.formula.proofs.MaskedLaws.{formula_fits}
use Rattle.assumptions.specs.declared.Assumption.{Assumption}
use Rattle.assumptions.specs.Assumed.{Assumed, literals, bad, assumed}
use Rattle.assumptions.specs.InnerAssumed.{masks_of, MasksOf}
use Rattle.assumptions.proofs.StatedLaws.{given_encoded}
use Rattle.matching.specs.declared.Matching.{Matching}
use Rattle.matching.specs.declared.Violator.{Violator}
use Rattle.matching.specs.Result.{packed}
use Rattle.matching.specs.Search.{Outcome, success, failure, outcome, marks}
use Rattle.matching.proofs.MatchedLaws.{length-marks}
use Rattle.matching.proofs.Theorems.{success_matches}
use Rattle.splitting.specs.declared.Stripping.{Stripping}
use Rattle.splitting.specs.Nodes.{remaining, satisfied_by}
use Rattle.splitting.specs.Stripping.{stripped}
use Rattle.splitting.specs.InnerChoose.{node, matching_at, noted_from, reduced, stripping_at, assign_all, assignment_of}
use Rattle.splitting.proofs.MaskClauseLaws.{sets_variables}
use Rattle.splitting.proofs.MaskChoiceLaws.{StripsTo, strips_to}
use Rattle.splitting.proofs.MaskNodeLaws.{node_masks}
use Rattle.splitting.proofs.NodeMatchingLaws.{small_of, Word, node_words}
use Rattle.splitting.proofs.ReduceLaws.{noted_fits}
use Rattle.splitting.proofs.SatisfiedLaws.{satisfied_masks}
use Rattle.splitting.proofs.Theorems.{formula_below}
use Rattle.arrayvec.specs.ArrayVec.{ArrayVec as Items}
use Rattle.matched.specs.declared.Accepted.{Accepted}
use Rattle.matched.specs.declared.Declined.{Declined}
use Rattle.matched.specs.Acceptance.{Acceptance, accepted, declined, Dropped, by, by_none, dropped_by, RowByte, byte_of, known, asked, row_byte, whole_byte, marked_byte, stripped_byte, dropped_byte, spread, by_stripped, formula_acceptance, acceptance}
use Rattle.matched.specs.InnerAccept.{raised, refused_row, held_row, held_acceptance, Takes}
use Rattle.matched.specs.InnerSpread.{bytes_at, NotesFit, first_in, told_byte, told_bytes}
use Rattle.matched.specs.Pairing.{noted_of, left_of}
use Rattle.matched.proofs.AcceptanceLaws as comes
use Rattle.matched.proofs.AcceptanceLaws.{FormulaComes, accepted_is, read_acceptance, formula_case, bad_declined, unreadable_declined}
use Rattle.matched.proofs.PairingLaws.{masks_words}
use Rattle.matched.proofs.DroppedLaws.{drops, first_dropped, same_asks, whole-zeros, trail_drops, stripped_zeros}
use Rattle.matched.proofs.SizedLaws.{remaining_sized}
use Rattle.matched.proofs.SpreadLaws.{masks_at, answered, asking, asking_same, spread_length, spread_byte, spread_bytes}

-- ---- what the contract says

module _ (s : List ℕ) (us : List Assumption) where
  -- of an accepted input: its formula,
  pub accepted_takes : (r : Accepted) → held_acceptance (acceptance s us) ≡ Ok r → Takes s us r.formula
  accepted_takes r = by (acceptance s us) refl
    where
      by : (a : Acceptance) → acceptance s us ≡ a → held_acceptance a ≡ Ok r → Takes s us r.formula
      by (accepted n t cs row) e q =
          let a = accepted_is s us n t cs row e in
          let f : r.formula ≡ formula_of n cs = cc in
          record {
            variables = n;
            trail = t;
            clauses = cs;
            row = row;
            accepts = e;
            reads = a.reads;
            assumes = a.assumes;
            formula = f;
            sized = a.sized;
            over = a.over;
            fits = rw f (formula_fits a.sized);
          }
      by (declined t row) e q = absurd cc

  -- and what is assumed, which the trail assigns
  pub accepted_assigned : (r : Accepted) → held_acceptance (acceptance s us) ≡ Ok r → (w : Takes s us r.formula) → r.assignment ≡ assignment_of w.trail
  accepted_assigned r e w =
      let q : held_acceptance (accepted w.variables w.trail w.clauses w.row) ≡ Ok r = rw w.accepts at e in
      cc

  -- of a declined one: the refusal
  pub declined_by : (d : Declined) → held_acceptance (acceptance s us) ≡ Err d → (row : List ℕ) × (acceptance s us ≡ declined d.refusal row)
  declined_by d = by (acceptance s us)
    where
      by : (a : Acceptance) → held_acceptance a ≡ Err d → (row : List ℕ) × (a ≡ declined d.refusal row)
      by (accepted n t cs row) q = absurd cc
      by (declined r row) q = (row, let e : r ≡ d.refusal = cc in rw e)

-- ---- the assumptions

-- two masks as an assignment
abbrev of_masks : Clause → Assignment
of_masks c = record { trues = c.positive; falses = c.negative }

-- the assignment of literals, behind what is assigned, has their masks
abbrev Assigned : List Literal → ℕ → ℕ → Type 0
Assigned t p q = assign_all (record { trues = p; falses = q }) t ≡ of_masks (with_literals (record { positive = p; negative = q }) t)

masks_assigned : (t : List Literal) (p q : ℕ) → Assigned t p q
unfolding assign_all with_literals
masks_assigned [] p q = refl
masks_assigned (l ∷ t) p q = by l.positive (masks_assigned t (with p l.variable) q) (masks_assigned t p (with q l.variable))
  where
    by : (b : Bool) → Assigned t (with p l.variable) q → Assigned t p (with q l.variable)
        → assign_all (set_to (record { trues = p; falses = q }) l.variable b) t
        ≡ of_masks (with_literals (with_literal (record { positive = p; negative = q }) l.variable b) t)
    by true x y = x
    by false x y = y

module _ (s : List ℕ) (us : List Assumption) (u : Result Assignment Refusal) (given : MasksOf s us u) (n : ℕ) (cs : List (List Literal)) (reads : decode s ≡ readable n cs) where
  given_masks : u ≡ masks_of (assumed n us)
  given_masks = given_encoded us given (accepted_only s n cs reads)

  -- none is bad: the masks of literals are those of their assignment
  pub given_literals : (a : Assignment) → u ≡ Ok a → (t : List Literal) × (assumed n us ≡ literals t) × (a ≡ assignment_of t)
  given_literals a e = by (assumed n us) refl (sym e ∙ given_masks)
    where
      by : (x : Assumed) → assumed n us ≡ x → Ok a ≡ masks_of x → (t : List Literal) × (assumed n us ≡ literals t) × (a ≡ assignment_of t)
      by (literals t) q m = (t, q, (let z : a ≡ of_masks (clause_of t) = cc in z ∙ sym (masks_assigned t 0 0)))
      by (bad i) q m = absurd cc

  -- one is bad, the first at the place
  pub given_bad : (r : Refusal) → u ≡ Err r → (i : ℕ) × (assumed n us ≡ bad i) × (r ≡ BadAssumption i)
  given_bad r e = by (assumed n us) refl (sym e ∙ given_masks)
    where
      by : (x : Assumed) → assumed n us ≡ x → Err r ≡ masks_of x → (i : ℕ) × (assumed n us ≡ bad i) × (r ≡ BadAssumption i)
      by (literals t) q m = absurd cc
      by (bad i) q m = (i, q, cc)

-- ---- a formula that was read

-- a list in a table of bytes
module _ (l : List ℕ) where
  -- a bound of its bytes is one of the table's
  table_small : (k : ℕ) → 0 < k → ((i : ℕ) → i < length l → get_or l i 0 < k) → (i : ℕ) → i < max_clauses → get_or (padded max_clauses 0 l) i 0 < k
  table_small k some h i w = by (dec_lt i (length l))
    where
      by : Dec (i < length l) → get_or (padded max_clauses 0 l) i 0 < k
      by (yes m) = rw (get_or_padded max_clauses 0 l i 0 m) (h i m)
      by (no m) = let z : length l ≤ i = omega arith in rw (get_or_padded_past max_clauses 0 l i 0 z w) some

-- the variables of a matching are below 64, so that 1 can be added
pub variables_fit : (f : Formula) → FormulaFits f → (a : Assignment) (m : Matching) → m ≡ matching_at f a → (l : List ℕ) → m.found ≡ Ok l
    → (i : ℕ) → i < max_clauses → get_or l i 0 + 1 < 256
unfolding packed
variables_fit f fits a m e l g = at (outcome sets) refl e
  where
    sets : List ℕ
    sets = map clause_variables (node f a)

    words : Every Word sets
    words = node_words f (small_of f fits) a

    at : (o : Outcome) → outcome sets ≡ o → m ≡ packed (length (node f a)) o → (i : ℕ) → i < max_clauses → get_or l i 0 + 1 < 256
    at (success vs x) p u i k =
        let w = success_matches sets vs x (λ j h. every_get_or Word sets j 0 h words) p in
        let q : l ≡ padded max_clauses 0 vs = cc in
        let small : get_or l i 0 < 64 =
        rw q (table_small vs 64 (omega arith) (λ j h.
        let r : j < length sets = rw (← w.one_each) h in
        bit_below 64 (get_or vs j 0) (get_or sets j 0) (every_get_or Word sets j 0 r words) (w.named j r)) i k) in
        omega arith
    at (failure taken x) p u i k = absurd cc

-- a list with nothing added
raised_none : (l : List ℕ) → raised 0 l ≡ l
raised_none [] = refl
raised_none (x ∷ l) = (let z : x + 0 ≡ x = omega arith in rw z (ap (λ (r : List ℕ). x ∷ r) (raised_none l)))

-- and with 1
raised_one : (l : List ℕ) → raised 1 l ≡ map suc l
raised_one [] = refl
raised_one (x ∷ l) = rw (add-one x) (ap (λ (r : List ℕ). suc x ∷ r) (raised_one l))

-- A formula in masks and, over it, the matching m of what remains under the trail u, whose assignment is b.
pub record MatchedUnder (n : ℕ) (cs : List (List Literal)) (f : Formula) (u : List Literal) (b : Assignment) (m : Matching) : Type 0 where
  pub sized : Sized n cs
  pub masks : f ≡ formula_of n cs
  pub once : distinct u ≡ true
  pub assigned : b ≡ assignment_of u
  pub matches : m ≡ matching_at f b

module _ {n : ℕ} {cs : List (List Literal)} {f : Formula} {u : List Literal} {b : Assignment} {m : Matching} (M : MatchedUnder n cs f u b m) where
  abbrev rs : List (List Literal)
  rs = remaining u cs

  node_is : node f b ≡ map clause_of rs
  node_is = ap₂ node M.masks M.assigned ∙ node_masks n cs u M.once

  -- the matching is that of the remaining clauses told as lists
  of_clauses : m ≡ packed (length rs) (outcome (map variables rs))
  of_clauses =
      M.matches
      ∙ ap (λ (l : List Clause). packed (length l) (outcome (map clause_variables l))) node_is
      ∙ ap₂ (λ (k : ℕ) (l : List ℕ). packed k (outcome l)) (length-map rs clause_of) (sets_variables rs)

  -- all clauses are matched: their variables are found
  matched_found : (l : List ℕ) → m.found ≡ Ok l → (vs : List ℕ) × (e : ℕ) × (outcome (map variables rs) ≡ success vs e) × (length vs ≡ length rs) × (l ≡ padded max_clauses 0 vs)
  unfolding packed
  matched_found l g = at (outcome (map variables rs)) refl of_clauses
    where
      at : (o : Outcome) → outcome (map variables rs) ≡ o → m ≡ packed (length rs) o
          → (vs : List ℕ) × (e : ℕ) × (outcome (map variables rs) ≡ success vs e) × (length vs ≡ length rs) × (l ≡ padded max_clauses 0 vs)
      at (success vs e) p q =
          let s = success_matches (map variables rs) vs e (masks_words (remaining_sized u M.sized)) p in
          (vs, e, p, s.one_each ∙ length-map rs variables, cc)
      at (failure taken e) p q = absurd cc

  -- a search failed: the clauses that it took are
  failed_found : (w : Violator) → m.found ≡ Err w
      → (taken : List ℕ) × (e : ℕ) × (outcome (map variables rs) ≡ failure taken e) × (w.size ≡ length taken) × (w.marks ≡ padded max_clauses 0 (marks (length rs) taken))
  unfolding packed
  failed_found w g = at (outcome (map variables rs)) refl of_clauses
    where
      at : (o : Outcome) → outcome (map variables rs) ≡ o → m ≡ packed (length rs) o
          → (taken : List ℕ) × (e : ℕ) × (outcome (map variables rs) ≡ failure taken e) × (w.size ≡ length taken) × (w.marks ≡ padded max_clauses 0 (marks (length rs) taken))
      at (success vs e) p q = absurd cc
      at (failure taken e) p q = (taken, e, p, cc, cc)

  -- the row that is spread from the answers l, raised by k
  row_is : (g : List Literal → RowByte) → Every (λ c. g c ≡ cond (satisfied_by u c) (known 0) asked) cs → (l : List ℕ) → length l ≡ length rs → (k : ℕ) (answers row : List ℕ)
      → answers ≡ padded max_clauses 0 l → row ≡ bytes_at f.clauses.items b answers k (length f.clauses.items)
      → row ≡ spread g cs (raised k l)
  row_is g zeros l h k answers row e w = w ∙ rw (e, M.masks, M.assigned, length-map cs clause_of, spread_bytes n cs u M.once g zeros l k h)

-- ---- matched whole

module _ {n : ℕ} {t : List Literal} {cs : List (List Literal)} {f : Formula} {a : Assignment} {m : Matching} (M : MatchedUnder n cs f t a m) where
  -- what remains is matched
  pub whole_held : (l : List ℕ) → m.found ≡ Ok l → (row : Items ℕ) → row.items ≡ bytes_at f.clauses.items a l 1 (length f.clauses.items)
      → Ok row ≡ held_row (formula_acceptance n t cs)
  whole_held l g row w =
      let x = matched_found M l g in
      let e : row.items ≡ spread (whole_byte t) cs (map suc x.0) = rw (← (raised_one x.0)) (row_is M (whole_byte t) (whole-zeros t cs) x.0 x.3 1 l row.items x.4 w) in
      rw x.2 (ap (λ (r : List ℕ). Ok (record { items = r })) e)

  -- it is not: it is stripped
  pub stripped_held : (w : Violator) → m.found ≡ Err w → held_row (by_stripped n t cs (stripped n (remaining t cs))) ≡ held_row (formula_acceptance n t cs)
  stripped_held w g = rw (failed_found M w g).2

-- ---- what stripping leaves

-- the noted variables fit a mask
pub notes_fit : (f : Formula) → FormulaFits f → (a : Assignment) (s : Stripping) → s ≡ stripping_at f a → NotesFit s
notes_fit f fits a s e = rw e (noted_fits f.variables f a (small_of f fits)).1

-- the code's stripping is that at the node of t
module _ {n : ℕ} {t : List Literal} {cs : List (List Literal)} {f : Formula} {a : Assignment} (z : Sized n cs) (over : ClauseOver n t) (q : f ≡ formula_of n cs) (d : a ≡ assignment_of t)
    {s : Stripping} (e : s ≡ stripping_at f a) where
  strips : StripsTo n cs t
  strips = strips_to n cs (omega (arith, z.most)) (formula_below n cs z.clauses) t over

  strip_assigns : s.assignment ≡ assignment_of strips.trail
  strip_assigns = ap (λ (x : Stripping). x.assignment) e ∙ ap₂ (λ (g : Formula) (b : Assignment). (reduced g b).assignment) q d ∙ strips.assigns

  strip_order : s.order.items ≡ noted_of n t cs
  strip_order = ap (λ (x : Stripping). x.order.items) e ∙ ap₂ (λ (g : Formula) (b : Assignment). noted_from g.variables g b) q d ∙ strips.noted

  -- the byte that the code tells of a clause, where that of a dropped one was 0
  told_answered : (c : List Literal) (y : ℕ) → Memᴰ c cs
      → told_byte a s (clause_of c) (answered (marked_byte t (noted_of n t cs) c) y) ≡ answered (stripped_byte t (noted_of n t cs) c) y
  unfolding row_byte
  told_answered c y m =
      let p : satisfied_under s.assignment (clause_of c) ≡ satisfied_by t c || drops (dropped_by (noted_of n t cs) c) =
      ap (λ (b : Assignment). satisfied_under b (clause_of c)) strip_assigns ∙ satisfied_masks strips.trail c ∙ trail_drops strips c m in
      let r : satisfied_under a (clause_of c) ≡ satisfied_by t c = ap (λ (b : Assignment). satisfied_under b (clause_of c)) d ∙ satisfied_masks t c in
      rw (p, r, strip_order) (at (satisfied_by t c) (dropped_by (noted_of n t cs) c) refl)
    where
      at : (b : Bool) (x : Dropped) → dropped_by (noted_of n t cs) c ≡ x
          → cond ((b || drops x) && not b) (first_in (noted_of n t cs) (clause_variables (clause_of c)) + 129) (answered (cond b (known 0) (byte_of (λ v. 0) x)) y)
          ≡ answered (cond b (known 0) (byte_of dropped_byte x)) y
      at true x q = refl
      at false (by v) q = rw (first_dropped (noted_of n t cs) c v q) (omega arith)
      at false by_none q = refl

  module _ {m : Matching} (matches : m ≡ matching_at f s.assignment) where
    M : MatchedUnder n cs f strips.trail s.assignment m
    M = record { sized = z; masks = q; once = strips.is_trail.once; assigned = strip_assigns; matches = matches }

    -- the search over what remains under the trail is that over what is left
    left_outcome : outcome (map variables (left_of n t cs)) ≡ outcome (map variables (remaining strips.trail cs))
    left_outcome = ap (λ (l : List (List Literal)). outcome (map variables l)) (sym strips.left)

    -- it is matched
    pub left_held : (l : List ℕ) → m.found ≡ Ok l → (row : List ℕ) (told : Items ℕ) → row ≡ bytes_at f.clauses.items s.assignment l 1 (length f.clauses.items)
        → told.items ≡ told_bytes f.clauses.items a s row (length f.clauses.items) → Ok told ≡ held_row (by_stripped n t cs (stripped n (remaining t cs)))
    left_held l g row told w v =
        let x = matched_found M l g in
        let e : row ≡ spread (marked_byte t (noted_of n t cs)) cs (map suc x.0) =
        rw (← (raised_one x.0)) (row_is M (marked_byte t (noted_of n t cs)) (stripped_zeros strips) x.0 x.3 1 l row x.4 w) in
        rw (left_outcome ∙ x.2) (ap (λ (r : List ℕ). Ok (record { items = r })) (v ∙ bytes (map suc x.0) e))
      where
        bytes : (l : List ℕ) → row ≡ spread (marked_byte t (noted_of n t cs)) cs l
            → told_bytes f.clauses.items a s row (length f.clauses.items) ≡ spread (stripped_byte t (noted_of n t cs)) cs l
        bytes l e =
            rw (q, length-map cs clause_of)
            (sym (tabulated_of (λ i. told_byte a s (get_or (map clause_of cs) i no_clause) (get_or row i 0)) (length cs) (spread (stripped_byte t (noted_of n t cs)) cs l) 0
            (spread_length (stripped_byte t (noted_of n t cs)) cs l) same))
          where
            same : (i : ℕ) → i < length cs
                → get_or (spread (stripped_byte t (noted_of n t cs)) cs l) i 0 ≡ told_byte a s (get_or (map clause_of cs) i no_clause) (get_or row i 0)
            same i h =
                spread_byte (stripped_byte t (noted_of n t cs)) cs l i h
                ∙ sym (told_answered (get_or cs i []) (get_or l (asking (stripped_byte t (noted_of n t cs)) cs i) 0) (get_or_element cs i [] h))
                ∙ ap₂ (told_byte a s) (sym (masks_at n cs i))
                (rw (asking_same (stripped_byte t (noted_of n t cs)) (marked_byte t (noted_of n t cs)) (same_asks t (noted_of n t cs) dropped_byte (λ v. 0)) cs i)
                (sym (rw e (spread_byte (marked_byte t (noted_of n t cs)) cs l i h))))

    -- it is not
    pub unmatched_held : (v : Violator) → m.found ≡ Err v → (row : Items ℕ) → row.items ≡ bytes_at f.clauses.items s.assignment v.marks 0 (length f.clauses.items)
        → Err (record { refusal = Unmatched v.size; row = row }) ≡ held_row (by_stripped n t cs (stripped n (remaining t cs)))
    unmatched_held v g row w =
        let x = failed_found M v g in
        let l = length (remaining strips.trail cs) in
        let e : row.items ≡ spread (marked_byte t (noted_of n t cs)) cs (marks l x.0) =
        rw (← (raised_none (marks l x.0))) (row_is M (marked_byte t (noted_of n t cs)) (stripped_zeros strips) (marks l x.0) (length-marks l x.0) 0 v.marks row.items x.4 w) in
        rw x.3 (at x.0 x.1 (left_outcome ∙ x.2) e)
      where
        at : (taken : List ℕ) (e : ℕ) → outcome (map variables (left_of n t cs)) ≡ failure taken e
            → row.items ≡ spread (marked_byte t (noted_of n t cs)) cs (marks (length (remaining strips.trail cs)) taken)
            → Err (record { refusal = Unmatched (length taken); row = row }) ≡ held_row (by_stripped n t cs (stripped n (remaining t cs)))
        at taken e o h =
            rw o
            (ap (λ (r : List ℕ). Err (record { refusal = Unmatched (length taken); row = record { items = r } }))
            (h ∙ ap (λ (ds : List (List Literal)). spread (marked_byte t (noted_of n t cs)) cs (marks (length ds) taken)) strips.left))

-- ---- an input

module _ (s : List ℕ) (us : List Assumption) where
  -- one that was read, with no bad assumption, is what its formula is
  module _ (n : ℕ) (t : List Literal) (cs : List (List Literal)) (reads : decode s ≡ readable n cs) (assumes : assumed n us ≡ literals t) where
    pub accepted_held : (row : Items ℕ) → Ok row ≡ held_row (formula_acceptance n t cs)
        → Ok (record { formula = formula_of n cs; assignment = assignment_of t; row = row }) ≡ held_acceptance (acceptance s us)
    accepted_held row w = rw (read_acceptance s us n t cs reads assumes) (by (formula_case s us n t cs reads assumes) w)
      where
        by : {a : Acceptance} → FormulaComes n t cs a → Ok row ≡ held_row a → Ok (record { formula = formula_of n cs; assignment = assignment_of t; row = row }) ≡ held_acceptance a
        by (comes.paired vs p) q = cc
        by (comes.strips vs none p) q = cc
        by (comes.unpaired ms v none) q = absurd cc

    pub declined_held : (d : Declined) → Err d ≡ held_row (formula_acceptance n t cs) → Err d ≡ held_acceptance (acceptance s us)
    declined_held d w = rw (read_acceptance s us n t cs reads assumes) (by (formula_acceptance n t cs) w)
      where
        by : (a : Acceptance) → Err d ≡ held_row a → Err d ≡ held_acceptance a
        by (accepted m u ds r) q = absurd cc
        by (declined r x) q = cc

  -- one with a bad assumption has no bytes
  pub bad_held : (n : ℕ) (cs : List (List Literal)) (i : ℕ) → decode s ≡ readable n cs → assumed n us ≡ bad i
      → Err (refused_row (BadAssumption i)) ≡ held_acceptance (acceptance s us)
  bad_held n cs i e g = rw (bad_declined s us n cs i e g)

  -- nor has one that was refused
  pub refused_held : (e : Refusal) → decode s ≡ refused e → Err (refused_row e) ≡ held_acceptance (acceptance s us)
  refused_held e q = rw (unreadable_declined s us e q)
