-- What the reader makes of a beginning of the grammar.
use Prim.Native.Nat.{ℕ, zero, suc, ◌+◌, ◌-◌, ◌≤◌, ◌<◌}
use mathlib.Core.Bool.{Bool, true, false, not}
use mathlib.Core.List.{List, [], ◌∷◌, ◌++◌, map, map-append}
use mathlib.Core.Path.{◌≡◌, refl, ap, ◌∙◌}
use native.Mathlib.Omega.{arith}
use borrow.Author.Tests.{lt-ltb, le-leb}
use lib.ListN.{length, length-append, length-map}
use Rattle.limits.specs.Limits.{max_variables, max_clauses}
use Rattle.formula.specs.Format.{Literal, literal_kind, literal_bytes, literals_bytes, clauses_bytes, has_complement, add, without_repeats}
use Rattle.formula.specs.InnerDecode.{Reading, reading_start, next, stop, read_record, records, decode}
use Rattle.formula.specs.Decoding.{Decoding, readable}
use Rattle.formula.specs.Table.{Beginning, nothing, inside, written, Begins}
use Rattle.formula.proofs.ExtendsLaws.{Extends, count, literal, clause_end, extends_length, extends_longer, beginning_back}
use Rattle.formula.proofs.RepeatLaws.{read-names_as, read_more}

-- where the reader stands after a beginning: it has what is read of the written clauses
abbrev pub reading_of : Beginning → Reading
reading_of nothing = reading_start
reading_of (inside n ws w) =
    record { at = length (written (inside n ws w)); variables = n; ended = map without_repeats ws; current = without_repeats w }

-- its offset is the number of the bytes before it
pub reading_at : (b : Beginning) → (reading_of b).at ≡ length (written b)
reading_at nothing = refl
reading_at (inside n ws w) = refl

-- a literal of a variable below the number of variables whose complement the clause has not
read_literal : (len : ℕ) (r : Reading) (v : ℕ) (sign : Bool) (s : List ℕ) → 0 < r.at → v < r.variables
    → has_complement r.current (record { variable = v; positive = sign }) ≡ false
    → read_record len r (literal_kind sign ∷ (v + 1) ∷ s)
    ≡ next (record { at = r.at + 2; variables = r.variables; ended = r.ended; current = add r.current (record { variable = v; positive = sign }) }) s
unfolding read_record
read_literal len r v true s h k f =
    let e : v + 1 - 1 ≡ v = omega arith in
    rw (lt-ltb 0 r.at h, lt-ltb 0 (v + 1) (omega arith), le-leb (v + 1) r.variables (omega arith), e, f)
read_literal len r v false s h k f =
    let e : v + 1 - 1 ≡ v = omega arith in
    rw (lt-ltb 0 r.at h, lt-ltb 0 (v + 1) (omega arith), le-leb (v + 1) r.variables (omega arith), e, f)

-- the reader takes a record of the grammar, and stands after the next beginning
extends_read : {b b' : Beginning} {x : List ℕ} (len : ℕ) (s : List ℕ) → Begins b → Extends b x b' → read_record len (reading_of b) (x ++ s) ≡ next (reading_of b') s
unfolding read_record literal_bytes clauses_bytes literals_bytes without_repeats
extends_read len s g (count n h k) = rw (lt-ltb 0 n h, le-leb n max_variables k)
extends_read len s g (literal {n} {ws} {w} l h k) =
    let x : Extends (inside n ws w) (literal_bytes l) (inside n ws (w ++ (l ∷ []))) = literal l h k in
    let f : has_complement (without_repeats w) l ≡ false = read-names_as w g.1.one_way l.variable (not l.positive) ∙ k in
    read_literal len (reading_of (inside n ws w)) l.variable l.positive s (omega arith) h f ∙ rw (extends_length x, read_more w l)
extends_read len s g (clause_end {n} {ws} {w} h) =
    let x : Extends (inside n ws w) (4 ∷ []) (inside n (ws ++ (w ∷ [])) []) = clause_end h in
    rw (lt-ltb 0 (length (written (inside n ws w))) (omega arith), length-map ws without_repeats, lt-ltb (length ws) max_clauses h, extends_length x, map-append without_repeats ws (w ∷ []))

-- reading the bytes s from r on, in an input of len bytes, gives d
pub record Gives (len : ℕ) (r : Reading) (s : List ℕ) (d : Decoding) : Type 0 where
  pub runs : (k : ℕ) → length s ≤ k → records k len r s ≡ d

-- a record that stops the reader gives what it stops with
pub gives_stop : {len : ℕ} {r : Reading} {s : List ℕ} {d : Decoding} → read_record len r s ≡ stop d → Gives len r s d
unfolding records read_record
gives_stop {len} {r} {s} {d} e = record { runs = go s e }
  where
    go : (t : List ℕ) → read_record len r t ≡ stop d → (k : ℕ) → length t ≤ k → records k len r t ≡ d
    go [] q zero h = cc
    go (x ∷ t) q zero h = absurd (omega arith)
    go t q (suc k) h = rw (q, records)

-- a record that the reader takes gives what the bytes after it give
pub gives_next : {len : ℕ} {r r' : Reading} {s s' : List ℕ} {d : Decoding} → read_record len r s ≡ next r' s' → length s' < length s
    → Gives len r' s' d → Gives len r s d
unfolding records
gives_next {len} {r} {r'} {s} {s'} {d} e l g = record { runs = go }
  where
    go : (k : ℕ) → length s ≤ k → records k len r s ≡ d
    go zero h = absurd (omega arith)
    go (suc k) h = rw (e, records) (g.runs k (omega arith))

-- what the bytes after a record of the grammar give, the record and they give
gives_record : {len : ℕ} {b b' : Beginning} {x : List ℕ} {d : Decoding} (s : List ℕ) → Begins b → Extends b x b' → Gives len (reading_of b') s d
    → Gives len (reading_of b) (x ++ s) d
gives_record {len} {x = x} s g e =
    gives_next (extends_read len s g e) (simp length-append (omega (arith, extends_longer e)))

-- kind 5 as the last byte gives the formula
pub gives_formula : (len n : ℕ) (ws : List (List Literal)) → Gives len (reading_of (inside n ws [])) (5 ∷ []) (readable n (map without_repeats ws))
unfolding read_record without_repeats
gives_formula len n ws = gives_stop (rw (lt-ltb 0 (length (written (inside n ws []))) (omega arith)))

-- an input decodes to what its bytes after a beginning of the grammar give
pub decode_after : {s : List ℕ} {r : Decoding} (b : Beginning) → Begins b → (rest : List ℕ) → s ≡ written b ++ rest
    → Gives (length s) (reading_of b) rest r → decode s ≡ r
unfolding decode
decode_after {s} {r} b h rest e g =
    ap (λ (t : List ℕ). records (length s) (length s) reading_start t) e
    ∙ (beginning_back (λ b t. Gives (length s) (reading_of b) t r) (λ b b' x t begins more g. gives_record t begins more g) b h g).runs (length s) (omega (arith, ap length e))
