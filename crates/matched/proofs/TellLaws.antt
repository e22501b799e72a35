-- The loops that tell what dropped a clause: over the noted variables, and over the clauses.
use Prim.Native.Nat.{ℕ, suc, ◌+◌, ◌<◌, ◌≤◌}
use mathlib.Core.Bool.{Bool, true, false, cond}
use mathlib.Core.List.{List, [], ◌∷◌, ◌++◌}
use mathlib.Core.Path.{◌≡◌, sym, ap, ◌∙◌}
use native.Mathlib.Numerals.{add-one}
use native.Mathlib.Omega.{arith}
use lib.ListN.{length, length-append, length-drop, get_or, drop}
use lib.Seq.{drop-cons, drop-length}
use mathlib.Core.Logic.{◌⊎◌, ⊎_elim}
use Rattle.lists.proofs.DropLaws.{drop_next}
use Rattle.lists.proofs.TabulatedLaws.{tabulated_more}
use Rattle.lists.proofs.EveryLaws.{every_get_or}
use Rattle.masks.specs.Mask.{bit}
use Rattle.formula.specs.declared.assignment.Assignment.{Assignment}
use Rattle.formula.specs.declared.Clause.{Clause}
use Rattle.formula.specs.InnerFits.{clause_variables}
use Rattle.formula.specs.InnerMasked.{no_clause}
use Rattle.splitting.specs.declared.Stripping.{Stripping}
use Rattle.matched.specs.InnerSpread.{NotesFit, first_in, first_noted, told_byte, told_bytes}

-- ---- the noted variables, from the one at i on

module _ (noted : List ℕ) (mask i : ℕ) where
  module _ (inside : i < length noted) where
    next_noted : drop i noted ≡ get_or noted i 0 ∷ drop (i + 1) noted
    next_noted = rw add-one (drop-cons noted i 0 inside)

    -- the mask has it
    pub noted_here : bit mask (get_or noted i 0) ≡ true → first_in (drop i noted) mask ≡ get_or noted i 0
    unfolding first_in
    noted_here e = rw (next_noted, e)

    -- it has not
    pub noted_later : bit mask (get_or noted i 0) ≡ false → first_in (drop i noted) mask ≡ first_in (drop (i + 1) noted) mask
    unfolding first_in
    noted_later e = rw (next_noted, e)

  -- there is no further one
  pub noted_none : i ≡ length noted → first_in (drop i noted) mask ≡ 0
  unfolding first_in
  noted_none e = rw (e, drop-length noted)

-- it fits a mask
first_small : (l : List ℕ) (m : ℕ) → ((i : ℕ) → i < length l → get_or l i 0 < 64) → first_in l m < 64
unfolding first_in
first_small [] m h = omega arith
first_small (v ∷ l) m h = at (bit m v) (first_small l m (λ i k. h (suc i) (omega arith)))
  where
    at : (b : Bool) → first_in l m < 64 → cond b v (first_in l m) < 64
    at true k = h 0 (omega arith)
    at false k = k

pub first_noted_small : (s : Stripping) (c : Clause) → NotesFit s → first_noted s c < 64
first_noted_small s c f = first_small s.order.items (clause_variables c) (λ i h. every_get_or (λ v. v < 64) s.order.items i 0 h f)

-- ---- the clauses

pub told_more : (cs : List Clause) (a : Assignment) (s : Stripping) (row : List ℕ) (i x : ℕ) (told : List ℕ) → told ≡ told_bytes cs a s row i
    → x ≡ told_byte a s (get_or cs i no_clause) (get_or row i 0) → told ++ (x ∷ []) ≡ told_bytes cs a s row (i + 1)
told_more cs a s row i x told w e = rw (w, e) (sym (tabulated_more (λ j. told_byte a s (get_or cs j no_clause) (get_or row j 0)) i))

-- the loop that tells: it has the bytes of as many clauses as are passed, and these clauses and bytes are left
module _ (cs : List Clause) (a : Assignment) (s : Stripping) (row : List ℕ) where
  abbrev pub Tells : List ℕ → List Clause → List ℕ → Type 0
  Tells told ds ms = (told ≡ told_bytes cs a s row (length told)) × (drop (length told) cs ≡ ds) × (drop (length told) row ≡ ms) × (length told ≤ length cs)

  module _ (told : List ℕ) {ds : List Clause} {ms : List ℕ} (t : Tells told ds ms) where
    -- the next clause and the next byte
    module _ {c : Clause} {b : ℕ} {es : List Clause} {ns : List ℕ} (p : ds ≡ c ∷ es) (q : ms ≡ b ∷ ns) where
      more : length told < length cs
      more = omega (arith, ap length (t.1 ∙ p), length-drop (length told) cs)

      clause : get_or cs (length told) no_clause ≡ c
      clause = ap (λ (l : List Clause). get_or l 0 no_clause) (sym (drop-cons cs (length told) no_clause more) ∙ t.1 ∙ p)

      bytes_more : length told < length row
      bytes_more = omega (arith, ap length (t.2 ∙ q), length-drop (length told) row)

      byte : get_or row (length told) 0 ≡ b
      byte = ap (λ (l : List ℕ). get_or l 0 0) (sym (drop-cons row (length told) 0 bytes_more) ∙ t.2 ∙ q)

      pub tells_room : length told < length cs
      tells_room = more

      pub tells_next : (x : ℕ) → x ≡ told_byte a s c b → Tells (told ++ (x ∷ [])) es ns
      tells_next x e =
          let k : length (told ++ (x ∷ [])) ≡ suc (length told) = omega (arith, length-append told (x ∷ [])) in
          rw k (
            told_more cs a s row (length told) x told t.0 (rw (clause, byte) e) ∙ rw (add-one (length told)),
            drop_next (length told) cs (t.1 ∙ p),
            drop_next (length told) row (t.2 ∙ q),
            omega (arith, more),
          )

    -- none is left
    pub tells_all : (length ds ≡ 0) ⊎ (length ms ≡ 0) → length cs ≤ length row → told ≡ told_bytes cs a s row (length cs)
    tells_all z h =
        let e : length told ≡ length cs = ⊎_elim
        (λ w. omega (arith, w, ap length t.1, length-drop (length told) cs, t.3))
        (λ w. omega (arith, w, h, ap length t.2, length-drop (length told) row, t.3)) z in
        rw (← e) t.0
