-- What reading keeps: the bytes of what is read so far, with one literal more and with one clause more.
use Prim.Native.Nat.{ℕ, suc, ◌+◌, ◌*◌, ◌-◌, ◌≤◌, ◌<◌}
use mathlib.Core.Bool.{Bool, true, false, not}
use mathlib.Core.List.{List, [], ◌∷◌, ◌++◌, append-nil, append_assoc}
use mathlib.Core.Path.{◌≡◌, refl, sym, ap, ◌∙◌}
use native.Mathlib.Omega.{arith}
use borrow.Author.Tests.{le-leb, lt-leb, lt-ltb, le-ltb, eq-eqb, ne_eqb}
use lib.Dec.{eqb}
use lib.ListN.{length, length-append}
use Rattle.limits.specs.Limits.{max_variables, max_clauses}
use Rattle.lists.proofs.TestLaws.{bool_clash}
use Rattle.masks.specs.Mask.{bit}
use Rattle.formula.specs.declared.Refusal.TheVariants.{Truncated, NoSuchVariable, ComplementaryLiteral, TooManyClauses, ClauseCountDiffers}
use Rattle.formula.specs.Decoding.{refused}
use Rattle.formula.specs.Format.{Literal, literal_bytes, literals_bytes, clause_bytes, clauses_bytes, formula_bytes, names, names_as, has_complement, add, ClauseOver, Sized}
use Rattle.formula.specs.InnerDecode.{none_yet}
use Rattle.formula.specs.declared.Clause.{Clause}
use Rattle.formula.specs.InnerFits.{side, clause_variables}
use Rattle.formula.specs.InnerMasked.{no_clause, with_literal, with_literals}
use Rattle.formula.proofs.ClauseLaws.{with_literals-last, clause_side, clause_names, clause_empty}
use Rattle.formula.proofs.FormatLaws.{literals_append, clauses_append, clause_more}
use Rattle.formula.proofs.RepeatLaws.{over_none, sized_more}
use Rattle.formula.proofs.LengthLaws.{clause_le, clauses_le, literals_length}
use Rattle.dimacs.proofs.ScanLaws.{capped_low, capped_back}
use Rattle.dimacs.specs.declared.reader.Reader.{Reader}
use Rattle.dimacs.specs.Text.{Piece, value, Progress, progress_start, next, stop, take_literal, take_end, closing}
use Rattle.dimacs.specs.InnerScan.{capped, numbers_of}
use Rattle.dimacs.specs.declared.opening.Numbers.{Numbers}
use Rattle.dimacs.specs.InnerReader.{kept_room, kept_bytes, with_byte, with_record, Keeps, Stands, Kept}

-- ---- how many bytes are kept

pub kept_length : (n : ℕ) (s : Progress) → length (kept_bytes n s) ≡ 2 + length (clauses_bytes s.ended) + 2 * length s.current
kept_length n s = omega (arith, length-append (clauses_bytes s.ended) (literals_bytes s.current), literals_length s.current)

-- there is room for the end of a clause too many
pub kept_le : (n : ℕ) (s : Progress) → Sized n s.ended → ClauseOver n s.current → length (kept_bytes n s) + 1 ≤ kept_room
kept_le n s z o = omega (arith, kept_length n s, clauses_le n s.ended z.most z.clauses, z.few, z.most, clause_le o)

-- ---- one literal more

abbrev with_current : Progress → List Literal → Progress
with_current s c = record { ended = s.ended; current = c }

-- its record is behind the others
pub kept_literal : (n : ℕ) (s : Progress) (l : Literal) → kept_bytes n (with_current s (s.current ++ (l ∷ []))) ≡ kept_bytes n s ++ literal_bytes l
unfolding literals_bytes
kept_literal n s l = rw (literals_append s.current (l ∷ []), append-nil, append_assoc)

-- ---- one clause more

pub kept_end : (n : ℕ) (s : Progress) → kept_bytes n (record { ended = s.ended ++ (s.current ∷ []); current = [] }) ≡ kept_bytes n s ++ (4 ∷ [])
unfolding clauses_bytes clause_bytes literals_bytes
kept_end n s = rw (clauses_append s.ended (s.current ∷ []), append-nil, append-nil, append_assoc)

-- ---- the end of all

pub kept_all : (n : ℕ) (s : Progress) → s.current ≡ [] → formula_bytes n s.ended ≡ kept_bytes n s ++ (5 ∷ [])
unfolding formula_bytes literals_bytes
kept_all n s h = rw (h, append-nil (clauses_bytes s.ended))

-- ---- what a reader has

module _ {n : ℕ} {s : Progress} {r : Reader} (k : Keeps n s r) where
  -- a side of its clause has what is named that way
  has_side : (sign : Bool) (v : ℕ) → bit (side r.current sign) v ≡ names_as s.current v sign
  has_side sign v = ap (λ (c : Clause). bit (side c sign) v) k.current ∙ clause_side s.current sign v

  -- both sides what is named
  has_named : (v : ℕ) → bit (clause_variables r.current) v ≡ names s.current v
  has_named v = ap (λ (c : Clause). bit (clause_variables c) v) k.current ∙ clause_names s.current v

  -- both are empty only where there is no literal
  has_none : eqb (clause_variables r.current) 0 ≡ none_yet s.current
  has_none = ap (λ (c : Clause). eqb (clause_variables c) 0) k.current ∙ clause_empty s.current

  -- room for the end of a clause
  pub end_room : length r.kept.items < kept_room
  end_room = rw k.bytes (omega (arith, kept_le n s k.sized k.over))

  -- ---- a literal

  module _ (at : ℕ) (sign : Bool) (v : ℕ) where
    abbrev literal : Literal
    literal = record { variable = v - 1; positive = sign }

    -- of a variable that there is not
    pub literal_above : r.variables < v → take_literal n at s sign v ≡ stop (NoSuchVariable at)
    literal_above h = rw (lt-leb v n (omega (arith, k.variables)))

    module _ (below : v ≤ r.variables) where
      fits : v ≤ n
      fits = omega (arith, k.variables)

      -- whose complement is there
      pub literal_complement : bit (side r.current (not sign)) (v - 1) ≡ true → take_literal n at s sign v ≡ stop (ComplementaryLiteral at)
      literal_complement e =
          let c : has_complement s.current literal ≡ true = sym (has_side (not sign) (v - 1)) ∙ e in
          rw (le-leb v n fits, c)

      module _ (alone : bit (side r.current (not sign)) (v - 1) ≡ false) where
        fine : has_complement s.current literal ≡ false
        fine = sym (has_side (not sign) (v - 1)) ∙ alone

        -- that is there already
        pub literal_repeat : bit (clause_variables r.current) (v - 1) ≡ true → Stands n (take_literal n at s sign v) r
        unfolding add
        literal_repeat e =
            let h : names s.current (v - 1) ≡ true = sym (has_named (v - 1)) ∙ e in
            record { progress = s; taken = rw (le-leb v n fits, fine, h); keeps = k }

        module _ (some : 1 ≤ v) (fresh : bit (clause_variables r.current) (v - 1) ≡ false) where
          unnamed : names s.current (v - 1) ≡ false
          unnamed = sym (has_named (v - 1)) ∙ fresh

          over : ClauseOver n (s.current ++ (literal ∷ []))
          over = clause_more literal k.over (omega (arith, fits)) unnamed

          -- there is room for it
          pub literal_room : length r.kept.items + 2 ≤ kept_room
          literal_room =
              let s' = with_current s (s.current ++ (literal ∷ [])) in
              let l = length-append s.current (literal ∷ []) in
              rw k.bytes (omega (arith, kept_length n s, kept_length n s', kept_le n s' k.sized over))

          -- it is kept
          pub literal_kept : Stands n (take_literal n at s sign v) (with_record r sign v)
          unfolding add literal_bytes
          literal_kept =
              let one : v - 1 + 1 ≡ v = omega (arith, some) in
              record {
                progress = with_current s (s.current ++ (literal ∷ []));
                taken = rw (le-leb v n fits, fine, unnamed);
                keeps = record {
                  variables = k.variables;
                  count = k.count;
                  current = ap (λ (c : Clause). with_literal c (v - 1) sign) k.current ∙ sym (with_literals-last no_clause s.current literal);
                  bytes = rw (kept_literal n s literal, one, append_assoc, k.bytes);
                  sized = k.sized;
                  over = over;
                };
              }

  -- ---- the end of a clause

  pub end_many : (at : ℕ) → max_clauses ≤ r.count → take_end at s ≡ stop (TooManyClauses at)
  end_many at h = rw (le-ltb (length s.ended) max_clauses (omega (arith, k.count)))

  pub end_kept : (at : ℕ) (e : Clause) → r.count < max_clauses → e ≡ no_clause → Stands n (take_end at s) (record (with_byte r 4) { count = r.count + 1; current = e })
  unfolding with_literals
  end_kept at e h q =
      record {
        progress = record { ended = s.ended ++ (s.current ∷ []); current = [] };
        taken = rw (lt-ltb (length s.ended) max_clauses (omega (arith, k.count)));
        keeps = record {
          variables = k.variables;
          count = omega (arith, k.count, length-append s.ended (s.current ∷ []));
          current = q;
          bytes = rw (kept_end n s, k.bytes);
          sized = sized_more k.sized k.over (omega (arith, k.count));
          over = over_none;
        };
      }

  -- ---- behind the last word

  -- a clause is open
  pub close_open : (len : ℕ) (d : Piece) → (clause_variables r.current ≡ 0 → ⊥) → closing len n d (next s) ≡ refused (Truncated len)
  close_open len d h = go s.current (sym has_none ∙ ne_eqb (clause_variables r.current) 0 h)
    where
      go : (c : List Literal) → none_yet c ≡ false → closing len n d (next (with_current s c)) ≡ refused (Truncated len)
      go [] e = bool_clash {x = true} refl e
      go (l ∷ c) e = rw (ne_eqb (suc (length c)) 0 (λ z. absurd (omega arith)))

  module _ (len : ℕ) (d : Piece) (none : clause_variables r.current ≡ 0) where
    closed : s.current ≡ []
    closed = go s.current (sym has_none ∙ eq-eqb (clause_variables r.current) 0 none)
      where
        go : (c : List Literal) → none_yet c ≡ true → c ≡ []
        go [] e = refl
        go (l ∷ c) e = bool_clash {x = false} e refl

    module _ (c : Piece) (p : Numbers) (e : p ≡ numbers_of c d) where
      -- another number of clauses than the p line says
      pub close_differs : (r.count ≡ p.clauses → ⊥) → closing len n d (next s) ≡ refused (ClauseCountDiffers p.fourth)
      close_differs h =
          rw (e, closed, ne_eqb (length s.ended) (value d.bytes) (λ q. h (k.count ∙ q ∙ sym (capped_low (value d.bytes) (omega (arith, k.sized.few))) ∙ sym (ap (λ (x : Numbers). x.clauses) e))))

      -- the same
      pub close_done : r.count ≡ p.clauses → Kept (closing len n d (next s)) (with_byte r 5)
      close_done q =
          let m : r.count ≡ capped (value d.bytes) = q ∙ ap (λ (y : Numbers). y.clauses) e in
          let f : length s.ended ≡ value d.bytes = sym k.count ∙ m ∙ capped_back (value d.bytes) (omega (arith, k.count, k.sized.few)) in
          record {
            variables = n;
            clauses = s.ended;
            reads = rw (closed, eq-eqb (length s.ended) (value d.bytes) f);
            bytes = rw (kept_all n s closed, k.bytes);
            sized = k.sized;
          }

-- ---- behind the p line

pub keeps-start : (n : ℕ) (e : Clause) → 1 ≤ n → n ≤ max_variables → e ≡ no_clause
    → Keeps n progress_start (record { variables = n; count = 0; current = e; kept = record { items = 1 ∷ n ∷ [] } })
unfolding with_literals clauses_bytes literals_bytes
keeps-start n e some most q =
    record {
      variables = refl;
      count = refl;
      current = q;
      bytes = refl;
      sized = record { some = some; most = most; few = omega arith; clauses = tt };
      over = over_none;
    }
