-- Repeated literals: what a clause names with one more, what is read of a written clause, and clauses that name nothing both ways.
use Prim.Native.Nat.{ℕ, ◌+◌, ◌≤◌, ◌<◌}
use mathlib.Core.Bool.{Bool, true, false, not, cond, ◌&&◌, ◌||◌, beq, or-false, or-true, and-false}
use mathlib.Core.List.{List, [], ◌∷◌, ◌++◌, map, foldl, foldl-append, append-nil}
use mathlib.Core.Path.{◌≡◌, refl, sym, ◌∙◌}
use native.Mathlib.Omega.{arith}
use borrow.Author.Tests.{eqb-true}
use lib.Dec.{eqb}
use lib.ListN.{length, length-append, length-map}
use lib.Seq.{append_snoc}
use Rattle.limits.specs.Limits.{max_variables, max_clauses}
use Rattle.lists.specs.Every.{Every}
use Rattle.lists.proofs.EveryLaws.{every_append, every_of, every_element}
use Rattle.lists.proofs.TestLaws.{and_left, and_right, or-none, signs_equal}
use Rattle.masks.specs.Mask.{bit}
use Rattle.masks.proofs.MembersLaws.{with_member}
use Rattle.formula.specs.Format.{Literal, formula_bytes, names, names_as, distinct, ClauseOver, Sized, has_complement, add, without_repeats, WrittenOver, WrittenSized, Encodes}
use Rattle.formula.specs.InnerDecode.{none_yet}
use Rattle.formula.specs.InnerFits.{side}
use Rattle.formula.specs.InnerMasked.{no_clause, with_literal, clause_of}
use Rattle.formula.proofs.ClauseLaws.{with_literals-last, clause_side, OneWay, other_way, one_way_distinct}
use Rattle.formula.proofs.FormatLaws.{names_as-append, names_either, names_own, distinct_more, distinct_fresh}

-- ---- no variable both ways

-- it depends only on what is named
one_way_same : (c d : List Literal) → ((v : ℕ) (sign : Bool) → names_as c v sign ≡ names_as d v sign) → OneWay c → OneWay d
one_way_same c d e o v = rw (← e v true, ← e v false) (o v)

-- before a literal of such a clause its complement does not stand
pub complement_absent : (c : List Literal) (l : Literal) (d : List Literal) → OneWay (c ++ (l ∷ d)) → has_complement c l ≡ false
complement_absent c l d o =
    let here : names_as (c ++ (l ∷ d)) l.variable l.positive ≡ true =
    names_as-append c (l ∷ d) l.variable l.positive ∙ rw (names_own l d) (or-true (names_as c l.variable l.positive)) in
    let there = other_way (c ++ (l ∷ d)) o l.variable l.positive here in
    (or-none (has_complement c l) (names_as (l ∷ d) l.variable (not l.positive)) (sym (names_as-append c (l ∷ d) l.variable (not l.positive)) ∙ there)).0

-- a literal whose complement is not there keeps it so
one_way_more : (w : List Literal) (l : Literal) → OneWay w → has_complement w l ≡ false → OneWay (w ++ (l ∷ []))
unfolding names_as
one_way_more w l o h v = rw (names_as-append w (l ∷ []) v true, names_as-append w (l ∷ []) v false) (go (eqb l.variable v) refl)
  where
    at : (p : Bool) → names_as w v (not p) ≡ false → (names_as w v true || (beq p true || false)) && (names_as w v false || (beq p false || false)) ≡ false
    at true e = rw e (and-false (names_as w v true || true))
    at false e = rw e

    go : (t : Bool) → eqb l.variable v ≡ t
        → (names_as w v true || (t && beq l.positive true || false)) && (names_as w v false || (t && beq l.positive false || false)) ≡ false
    go true e = at l.positive (rw (eqb-true l.variable v e) at h)
    go false e = rw (or-false (names_as w v true), or-false (names_as w v false)) (o v)

-- ---- one literal more

-- the clause with it has no variable twice if the clause has none
add_distinct : (c : List Literal) (l : Literal) → distinct c ≡ true → distinct (add c l) ≡ true
unfolding add
add_distinct c l d = go (names c l.variable) refl
  where
    go : (t : Bool) → names c l.variable ≡ t → distinct (cond t c (c ++ (l ∷ []))) ≡ true
    go true n = d
    go false n = distinct_more c l d n

-- a literal of a variable that the clause names stands there, unless its complement does
repeat_stands : (c : List Literal) (l : Literal) → has_complement c l ≡ false → names c l.variable ≡ true → names_as c l.variable l.positive ≡ true
repeat_stands c l h n = sym (names_either c l.variable l.positive ∙ rw h (or-false (names_as c l.variable l.positive))) ∙ n

-- so the clause with it names what the two name
add_names_as : (c : List Literal) (l : Literal) → has_complement c l ≡ false → (v : ℕ) (sign : Bool) → names_as (add c l) v sign ≡ names_as (c ++ (l ∷ [])) v sign
unfolding add names_as
add_names_as c l h v sign = go (names c l.variable) refl
  where
    repeats : names c l.variable ≡ true → (t : Bool) → eqb l.variable v && beq l.positive sign ≡ t → names_as c v sign ≡ names_as c v sign || (t || false)
    repeats n true q =
        let e = eqb-true l.variable v (and_left (eqb l.variable v) (beq l.positive sign) q) in
        let f = signs_equal l.positive sign (and_right (eqb l.variable v) (beq l.positive sign) q) in
        let there : names_as c v sign ≡ true = rw (e, f) at (repeat_stands c l h n) in
        rw there
    repeats n false q = sym (or-false (names_as c v sign))

    go : (t : Bool) → names c l.variable ≡ t → names_as (cond t c (c ++ (l ∷ []))) v sign ≡ names_as (c ++ (l ∷ [])) v sign
    go true n = repeats n _ refl ∙ sym (names_as-append c (l ∷ []) v sign)
    go false n = refl

-- what holds of every literal of the clause and of this one holds of all
add_every : (P : Literal → Type 0) (c : List Literal) (l : Literal) → Every P c → P l → Every P (add c l)
unfolding add
add_every P c l h k = go (names c l.variable)
  where
    go : (t : Bool) → Every P (cond t c (c ++ (l ∷ [])))
    go true = h
    go false = every_append P c (l ∷ []) h (k, tt)

-- it is longer by one at most
add_length : (c : List Literal) (l : Literal) → length (add c l) ≤ length c + 1
unfolding add
add_length c l = go (names c l.variable)
  where
    go : (t : Bool) → length (cond t c (c ++ (l ∷ []))) ≤ length c + 1
    go true = omega arith
    go false = omega (arith, length-append c (l ∷ []))

-- and has the masks with the literal
pub add_masks : (c : List Literal) (l : Literal) → has_complement c l ≡ false → clause_of (add c l) ≡ with_literal (clause_of c) l.variable l.positive
unfolding add
add_masks c l h = go (names c l.variable) refl
  where
    kept : (sign : Bool) → bit (side (clause_of c) sign) l.variable ≡ true → clause_of c ≡ with_literal (clause_of c) l.variable sign
    kept true e = rw (with_member (clause_of c).positive l.variable e)
    kept false e = rw (with_member (clause_of c).negative l.variable e)

    go : (t : Bool) → names c l.variable ≡ t → clause_of (cond t c (c ++ (l ∷ []))) ≡ with_literal (clause_of c) l.variable l.positive
    go true n = kept l.positive (clause_side c l.positive l.variable ∙ repeat_stands c l h n)
    go false n = with_literals-last no_clause c l

-- ---- what is read of a written clause

-- of the literals w behind c: what both name
fold_names_as : (c w : List Literal) → OneWay (c ++ w) → (v : ℕ) (sign : Bool) → names_as (foldl add c w) v sign ≡ names_as (c ++ w) v sign
fold_names_as c [] o v sign = rw append-nil
fold_names_as c (l ∷ w) o v sign =
    fold_names_as (add c l) w (one_way_same (c ++ (l ∷ w)) (add c l ++ w) (λ u s. sym (same u s)) o) v sign ∙ same v sign
  where
    same : (u : ℕ) (s : Bool) → names_as (add c l ++ w) u s ≡ names_as (c ++ (l ∷ w)) u s
    same u s =
        names_as-append (add c l) w u s
        ∙ rw (add_names_as c l (complement_absent c l w o) u s, ← names_as-append (c ++ (l ∷ [])) w u s, append_snoc)

fold_distinct : (c w : List Literal) → distinct c ≡ true → distinct (foldl add c w) ≡ true
fold_distinct c [] d = d
fold_distinct c (l ∷ w) d = fold_distinct (add c l) w (add_distinct c l d)

fold_every : (P : Literal → Type 0) (c w : List Literal) → Every P c → Every P w → Every P (foldl add c w)
fold_every P c [] h k = h
fold_every P c (l ∷ w) h k = fold_every P (add c l) w (add_every P c l h k.0) k.1

fold_length : (c w : List Literal) → length (foldl add c w) ≤ length c + length w
fold_length c [] = omega arith
fold_length c (l ∷ w) = omega (arith, fold_length (add c l) w, add_length c l)

-- without a repeat all of it
fold_same : (c w : List Literal) → distinct (c ++ w) ≡ true → foldl add c w ≡ c ++ w
unfolding add
fold_same c [] d = rw append-nil
fold_same c (l ∷ w) d = rw (distinct_fresh c l w d) (fold_same (c ++ (l ∷ [])) w (rw append_snoc d) ∙ append_snoc c l w)

-- and never nothing behind something
fold_some : (x : Literal) (c w : List Literal) → none_yet (foldl add (x ∷ c) w) ≡ false
unfolding add
fold_some x c [] = refl
fold_some x c (l ∷ w) = go (names (x ∷ c) l.variable) (fold_some x c w) (fold_some x (c ++ (l ∷ [])) w)
  where
    go : (t : Bool) → none_yet (foldl add (x ∷ c) w) ≡ false → none_yet (foldl add (x ∷ (c ++ (l ∷ []))) w) ≡ false
        → none_yet (foldl add (cond t (x ∷ c) (x ∷ (c ++ (l ∷ [])))) w) ≡ false
    go true p q = p
    go false p q = q

-- what is read of a written clause that names nothing both ways names what the clause names
pub read-names_as : (w : List Literal) → OneWay w → (v : ℕ) (sign : Bool) → names_as (without_repeats w) v sign ≡ names_as w v sign
unfolding without_repeats
read-names_as w = fold_names_as [] w

-- of one literal more: it is added
pub read_more : (w : List Literal) (l : Literal) → without_repeats (w ++ (l ∷ [])) ≡ add (without_repeats w) l
unfolding without_repeats
read_more w l = foldl-append add [] w (l ∷ [])

-- nothing only of nothing
pub read_none : (w : List Literal) → none_yet (without_repeats w) ≡ none_yet w
unfolding without_repeats add names
read_none [] = refl
read_none (l ∷ w) = fold_some l [] w

-- it is no longer
pub read_length : (w : List Literal) → length (without_repeats w) ≤ length w
unfolding without_repeats
read_length w = omega (arith, fold_length [] w)

-- and the same if no variable is named twice
read_same : (c : List Literal) → distinct c ≡ true → without_repeats c ≡ c
unfolding without_repeats
read_same c d = fold_same [] c d

-- ---- within the limits

-- what is read of a written clause is a clause
pub read-over : {n : ℕ} {w : List Literal} → WrittenOver n w → ClauseOver n (without_repeats w)
unfolding without_repeats distinct
read-over {n} {w} o = record { below = fold_every (λ l. l.variable < n) [] w tt o.below; once = fold_distinct [] w refl }

read_clauses : (n : ℕ) (ws : List (List Literal)) → Every (WrittenOver n) ws → Every (ClauseOver n) (map without_repeats ws)
read_clauses n [] h = tt
read_clauses n (w ∷ ws) h = (read-over h.0, read_clauses n ws h.1)

-- what is read of written clauses within the limits is within them
read_sized : {n : ℕ} {ws : List (List Literal)} → WrittenSized n ws → Sized n (map without_repeats ws)
read_sized {n} {ws} z =
    record { some = z.some; most = z.most; few = rw (length-map ws without_repeats) z.few; clauses = read_clauses n ws z.clauses }

-- a clause can be written as it is
over_written : {n : ℕ} {c : List Literal} → ClauseOver n c → WrittenOver n c
over_written {n} {c} o = record { below = o.below; one_way = one_way_distinct c o.once }

clauses_written : (n : ℕ) (cs : List (List Literal)) → Every (ClauseOver n) cs → Every (WrittenOver n) cs
clauses_written n [] h = tt
clauses_written n (c ∷ cs) h = (over_written h.0, clauses_written n cs h.1)

-- and so can clauses within the limits
sized_written : {n : ℕ} {cs : List (List Literal)} → Sized n cs → WrittenSized n cs
sized_written {n} {cs} z = record { some = z.some; most = z.most; few = z.few; clauses = clauses_written n cs z.clauses }

-- which are read as they are
clauses_same : (n : ℕ) (cs : List (List Literal)) → Every (ClauseOver n) cs → map without_repeats cs ≡ cs
clauses_same n [] h = refl
clauses_same n (c ∷ cs) h = rw (read_same c h.0.once, clauses_same n cs h.1)

-- so an encoded formula is within them
pub encoded_sized : {s : List ℕ} {n : ℕ} {cs : List (List Literal)} → Encodes s n cs → Sized n cs
encoded_sized e = rw e.read (read_sized e.sized)

-- and is encoded by its own bytes, which have no repeat
pub sized_encoded : {n : ℕ} {cs : List (List Literal)} → Sized n cs → Encodes (formula_bytes n cs) n cs
sized_encoded {n} {cs} z = record { written = cs; bytes = refl; sized = sized_written z; read = sym (clauses_same n cs z.clauses) }

-- ---- written clauses grow

-- a clause without literals
pub written_none : {n : ℕ} → WrittenOver n []
unfolding names_as
written_none = record { below = tt; one_way = λ v. refl }

-- one more literal, of a variable below n, whose complement the clause has not
pub written_more : {n : ℕ} {w : List Literal} (l : Literal) → WrittenOver n w → l.variable < n → has_complement w l ≡ false → WrittenOver n (w ++ (l ∷ []))
written_more {n} {w} l o h k =
    record { below = every_append (λ m. m.variable < n) w (l ∷ []) o.below (h, tt); one_way = one_way_more w l o.one_way k }

-- one more clause, where there are fewer than 96
pub written_sized_more : {n : ℕ} {ws : List (List Literal)} {w : List Literal} → WrittenSized n ws → WrittenOver n w → length ws < max_clauses
    → WrittenSized n (ws ++ (w ∷ []))
written_sized_more {n} {ws} {w} z o h =
    record {
      some = z.some;
      most = z.most;
      few = simp length-append (omega arith);
      clauses = every_append (WrittenOver n) ws (w ∷ []) z.clauses (o, tt);
    }

-- ---- clauses that are read grow

-- a clause without literals
pub over_none : {n : ℕ} → ClauseOver n []
unfolding distinct
over_none = record { below = tt; once = refl }

-- a clause over n variables with a literal of one of them added
pub add-over : {n : ℕ} {c : List Literal} (l : Literal) → ClauseOver n c → l.variable < n → ClauseOver n (add c l)
add-over {n} {c} l o h = record { below = add_every (λ m. m.variable < n) c l o.below h; once = add_distinct c l o.once }

-- one more clause, where there are fewer than 96
pub sized_more : {n : ℕ} {cs : List (List Literal)} {c : List Literal} → Sized n cs → ClauseOver n c → length cs < max_clauses → Sized n (cs ++ (c ∷ []))
sized_more {n} {cs} {c} z o h =
    record {
      some = z.some;
      most = z.most;
      few = simp length-append (omega arith);
      clauses = every_append (ClauseOver n) cs (c ∷ []) z.clauses (o, tt);
    }

-- ---- over n variables is over the most

pub below_most : {n : ℕ} (c : List Literal) → n ≤ max_variables → Every (λ l. l.variable < n) c → Every (λ l. l.variable < max_variables) c
below_most {n} c h o = every_of (λ l. l.variable < max_variables) c (λ l m. let b = every_element (λ l. l.variable < n) c l o m in omega arith)

pub over-most : {n : ℕ} (ws : List (List Literal)) → n ≤ max_variables → Every (WrittenOver n) ws → Every (WrittenOver max_variables) ws
over-most {n} ws h o =
    every_of (WrittenOver max_variables) ws (λ w m. let p = every_element (WrittenOver n) ws w o m in record { below = below_most w h p.below; one_way = p.one_way })
