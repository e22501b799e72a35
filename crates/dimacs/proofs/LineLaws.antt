-- The text of a formula: what is written of each literal in turn is the line of what is read, the loops that write it, and the act.
use Prim.Native.Nat.{ℕ, suc, ◌+◌, ◌-◌, ◌<◌, ◌≤◌}
use mathlib.Core.Bool.{Bool, true, false, cond, or-false}
use mathlib.Core.List.{List, [], ◌∷◌, ◌++◌, map, foldl, append_assoc, append-nil}
use mathlib.Core.Path.{◌≡◌, refl, sym, ap, ◌∙◌}
use native.Mathlib.Omega.{arith}
use borrow.Author.Tests.{lt-ltb, le-ltb}
use lib.Dec.{eqb}
use lib.ListN.{length, get_or, drop, length-append, length-drop, length-map}
use lib.Seq.{append_snoc, drop-cons}
use Rattle.limits.specs.Limits.{max_variables}
use Rattle.lists.specs.Every.{Every}
use Rattle.lists.proofs.DropLaws.{drop_next}
use Rattle.lists.proofs.TestLaws.{eqb_comm}
use Rattle.masks.specs.Mask.{with}
use Rattle.masks.proofs.BitLaws.{bit-with}
use Rattle.masks.proofs.MembersLaws.{mask_same, with_member}
use Rattle.writing.specs.Text.{digit_zero, line_feed, blank, decimal, line_of}
use Rattle.writing.specs.declared.Writer.{Writer}
use Rattle.writing.specs.Placed.{RoomIn, Wrote, Puts}
use Rattle.writing.proofs.DecimalLaws.{decimal_one}
use Rattle.writing.proofs.PlacedLaws.{puts_none, puts_more, room_in_front, room_in_behind}
use Rattle.formula.specs.Format.{Literal, literal_kind, literal_bytes, literals_bytes, clause_bytes, clauses_bytes, formula_bytes, names, add, without_repeats, WrittenOver, Encodes}
use Rattle.formula.specs.Decoding.{readable, refused}
use Rattle.formula.specs.InnerDecode.{decode, kind_of}
use Rattle.formula.specs.InnerReader.{kind_held}
use Rattle.formula.specs.declared.Kind.TheVariants as codes
use Rattle.formula.specs.declared.Refusal.{Refusal}
use Rattle.formula.specs.declared.Refusal.TheVariants.{ShortBuffer}
use Rattle.formula.specs.Masked.{variables}
use Rattle.formula.proofs.RepeatLaws.{over-most}
use Rattle.formula.proofs.ClauseLaws.{variables-bit}
use Rattle.formula.proofs.Demands.{accepted_only}
use Rattle.formula.proofs.FormatLaws.{names-append}
use Rattle.std.specs.Prelude.{Ok, Some}
use Rattle.dimacs.specs.Text.{minus_sign}
use Rattle.dimacs.specs.Written.{literal_word, clause_line, clause_lines, opening_line, text_of, text_room}
use Rattle.dimacs.specs.Convert.{converted_values, declined, to_text}
use Rattle.dimacs.specs.InnerWriter.{sign_bytes, literal_text, literal_once, line_rest, ClauseAt, AfterClause, ClausesAt, Lined, Readable}

-- ---- the line of a clause

-- the length of a literal's text
pub text_sum : (sign : Bool) (k : ℕ) → length (literal_text sign k) ≡ length (sign_bytes sign) + length (decimal k) + 1
text_sum sign k = simp length-append (omega arith)

-- the texts of literals, one behind the other
abbrev pub literals_text : List Literal → List ℕ
literals_text [] = []
literals_text (l ∷ c) = literal_text l.positive (l.variable + 1) ++ literals_text c

-- a word in front of others, which are not none
line_more : (w : List ℕ) (ws : List (List ℕ)) (v : List ℕ) → line_of (w ∷ (ws ++ (v ∷ []))) ≡ w ++ (blank ∷ line_of (ws ++ (v ∷ [])))
line_more w [] v = refl
line_more w (x ∷ ws) v = refl

-- the word of a literal and a blank are its text
word_text : (l : Literal) (s : List ℕ) → literal_word l ++ (blank ∷ s) ≡ literal_text l.positive (l.variable + 1) ++ s
word_text l s = go l.positive
  where
    go : (p : Bool)
        → (elim p [ true ↦ decimal (l.variable + 1) | false ↦ minus_sign ∷ decimal (l.variable + 1) ]) ++ (blank ∷ s) ≡ literal_text p (l.variable + 1) ++ s
    go true = sym (append_snoc (decimal (l.variable + 1)) blank s)
    go false = ap (λ (t : List ℕ). minus_sign ∷ t) (sym (append_snoc (decimal (l.variable + 1)) blank s))

-- the line of a clause is the texts of its literals, 0 and the line feed
pub line_texts : (c : List Literal) → clause_line c ≡ literals_text c ++ (digit_zero ∷ line_feed ∷ [])
line_texts [] = rw (decimal_one 0 (omega arith))
line_texts (l ∷ c) =
    line_more (literal_word l) (map literal_word c) (decimal 0)
    ∙ word_text l (clause_line c)
    ∙ rw (line_texts c) (sym (append_assoc (literal_text l.positive (l.variable + 1)) (literals_text c) _))

-- one literal more is one text more
texts_last : (c : List Literal) (l : Literal) → literals_text (c ++ (l ∷ [])) ≡ literals_text c ++ literal_text l.positive (l.variable + 1)
texts_last [] l = append-nil (literal_text l.positive (l.variable + 1))
texts_last (x ∷ c) l = rw (texts_last c l) (sym (append_assoc (literal_text x.positive (x.variable + 1)) (literals_text c) _))

-- is one variable more
variables_last : (c : List Literal) (l : Literal) → variables (c ++ (l ∷ [])) ≡ with (variables c) l.variable
unfolding names
variables_last c l = mask_same (variables (c ++ (l ∷ []))) (with (variables c) l.variable) λ i.
    variables-bit (c ++ (l ∷ [])) i
    ∙ names-append c (l ∷ []) i
    ∙ rw (or-false (eqb l.variable i), eqb_comm l.variable i, bit-with (variables c) l.variable i, variables-bit c i)

-- behind the clause c the literals w are written as they are added to it
line_fold : (c w : List Literal) → clause_line (foldl add c w) ≡ literals_text c ++ line_rest (variables c) w
unfolding line_rest add
line_fold c [] = line_texts c
line_fold c (l ∷ w) = line_fold (add c l) w ∙ go (names c l.variable) refl
  where
    go : (x : Bool) → names c l.variable ≡ x
        → literals_text (cond x c (c ++ (l ∷ []))) ++ line_rest (variables (cond x c (c ++ (l ∷ [])))) w
        ≡ literals_text c ++ (literal_once (variables c) l.positive l.variable ++ line_rest (with (variables c) l.variable) w)
    go true e = let b = variables-bit c l.variable ∙ e in rw (b, with_member (variables c) l.variable b)
    go false e =
        rw (variables-bit c l.variable, e, texts_last c l, variables_last c l)
        (append_assoc (literals_text c) (literal_text l.positive (l.variable + 1)) _)

-- so the line of what is read of a written clause is written literal by literal
line_read : (w : List Literal) → clause_line (without_repeats w) ≡ line_rest 0 w
unfolding without_repeats variables
line_read w = line_fold [] w

-- ---- the loop over the literals of a clause

-- the first of the bytes from i on
front : (s : List ℕ) (i x : ℕ) (r : List ℕ) → drop i s ≡ x ∷ r → (get_or s i 0 ≡ x) × (i < length s)
front s i x r e =
    let h : i < length s = omega (arith, ap length e, length-drop i s) in
    let d = drop-cons s i 0 h in
    (cc, h)

-- the record at i is a literal of this sign
abbrev pub LiteralAt : List ℕ → ℕ → Bool → Type 0
LiteralAt s i p = kind_held (kind_of (get_or s i 0)) ≡ Some (codes.Literal p)

-- at i stands a literal of this sign, and then the others, kind 4 and the rest
pub record Ahead (s rest : List ℕ) (i : ℕ) (left : List Literal) (p : Bool) : Type 0 where
  pub literal : Literal
  pub others : List Literal
  pub is : left ≡ literal ∷ others
  pub sign : p ≡ literal.positive
  pub variable : get_or s (i + 1) 0 ≡ literal.variable + 1
  pub inside : i + 2 ≤ length s
  pub bytes : drop (i + 2) s ≡ literals_bytes others ++ (4 ∷ rest)

-- the kind of a literal tells its sign
kind_literal : (p : Bool) → kind_held (kind_of (literal_kind p)) ≡ Some (codes.Literal p)
kind_literal true = refl
kind_literal false = refl

kind_sign : (q p : Bool) → kind_held (kind_of (literal_kind q)) ≡ Some (codes.Literal p) → p ≡ q
kind_sign true p e = cc
kind_sign false p e = cc

-- kind 4 is not that of a literal
kind_end : (p : Bool) → kind_held (kind_of 4) ≡ Some (codes.Literal p) → ⊥
kind_end p e = let z : ◌≡◌ {A = ℕ} 0 1 = cc in absurd (omega arith)

-- where the record is a literal it is the first of those that are left
pub ahead : (s rest : List ℕ) (i : ℕ) (left : List Literal) (p : Bool) → drop i s ≡ literals_bytes left ++ (4 ∷ rest) → LiteralAt s i p → Ahead s rest i left p
unfolding literals_bytes literal_bytes
ahead s rest i [] p e h = absurd (kind_end p (rw (front s i 4 rest e).0 at h))
ahead s rest i (l ∷ left) p e h =
    let n : i + 1 ≡ suc i = omega arith in
    let m : i + 2 ≡ suc (suc i) = omega arith in
    let f = drop_next i s e in
    let g = front s (suc i) _ _ f in
    record {
      literal = l;
      others = left;
      is = refl;
      sign = kind_sign l.positive p (rw (front s i _ _ e).0 at h);
      variable = rw n g.0;
      inside = omega (arith, g.1);
      bytes = rw m (drop_next (suc i) s f);
    }

-- and another ends the clause
spent : (s rest : List ℕ) (i : ℕ) (left : List Literal) → drop i s ≡ literals_bytes left ++ (4 ∷ rest) → ((p : Bool) → LiteralAt s i p → ⊥) → (left ≡ []) × (drop (i + 1) s ≡ rest)
unfolding literals_bytes literal_bytes
spent s rest i [] e h = let n : i + 1 ≡ suc i = omega arith in (refl, rw n (drop_next i s e))
spent s rest i (l ∷ left) e h = absurd (h l.positive (rw (front s i _ _ e).0 (kind_literal l.positive)))

-- the line is written up to the literals that are left at i, behind the variables seen
pub record Lining (s rest : List ℕ) (w : List Literal) (before now : Writer) (seen i : ℕ) : Type 0 where
  pub left : List Literal
  pub bytes : drop i s ≡ literals_bytes left ++ (4 ∷ rest)
  pub below : Every (λ l. l.variable < max_variables) left
  pub written : List ℕ
  pub puts : Puts written before now
  pub same : clause_line (without_repeats w) ≡ written ++ line_rest seen left

-- nothing is written yet
pub lining_first : (s rest : List ℕ) (from : ℕ) (w : List Literal) (before : Writer) → drop from s ≡ clause_bytes w ++ rest → WrittenOver max_variables w → RoomIn [] before
    → Lining s rest w before before 0 from
unfolding clause_bytes
lining_first s rest from w before e o r =
    record {
      left = w;
      bytes = e ∙ append_snoc (literals_bytes w) 4 rest;
      below = o.below;
      written = [];
      puts = puts_none before r;
      same = line_read w;
    }

module _ {s rest : List ℕ} {w : List Literal} {before now : Writer} {seen i : ℕ} (g : Lining s rest w before now seen i) where
  -- a byte stands at i
  pub lining_inside : i < length s
  lining_inside = omega (arith, ap length g.bytes, length-append (literals_bytes g.left) (4 ∷ rest), length-drop i s)

  -- there is room for what is left of the line
  lining_room : RoomIn (clause_line (without_repeats w)) before → RoomIn (line_rest seen g.left) now
  lining_room r = room_in_behind g.written (line_rest seen g.left) _ before now g.same r g.puts

  module _ {p : Bool} (a : Ahead s rest i g.left p) where
    -- what comes of a literal
    abbrev here : List ℕ
    here = literal_once seen p (get_or s (i + 1) 0 - 1)

    -- the rest of the line is that, and then the others
    rest_next : line_rest seen g.left ≡ here ++ line_rest (with seen (get_or s (i + 1) 0 - 1)) a.others
    unfolding line_rest
    rest_next = let e : get_or s (i + 1) 0 - 1 ≡ a.literal.variable = omega (arith, a.variable) in rw (a.is, a.sign, e)

    -- the literal and the others are over the most variables
    below_next : (a.literal.variable < max_variables) × Every (λ l. l.variable < max_variables) a.others
    below_next = rw a.is at g.below

    -- there is room for the literal, whose variable has a number from 1 to 48
    pub literal_room : RoomIn (clause_line (without_repeats w)) before → (1 ≤ get_or s (i + 1) 0) × (get_or s (i + 1) 0 ≤ max_variables) × RoomIn here now
    literal_room r = (
      omega (arith, a.variable),
      omega (arith, a.variable, below_next.0),
      room_in_front here _ _ now rest_next (lining_room r),
    )

    -- a literal more
    pub lining_more : (now' : Writer) → Puts here now now' → Lining s rest w before now' (with seen (get_or s (i + 1) 0 - 1)) (i + 2)
    lining_more now' x =
        record {
          left = a.others;
          bytes = a.bytes;
          below = below_next.1;
          written = g.written ++ here;
          puts = puts_more g.puts x;
          same = g.same ∙ ap (λ (l : List ℕ). g.written ++ l) rest_next ∙ sym (append_assoc g.written here _);
        }

  module _ (h : (p : Bool) → LiteralAt s i p → ⊥) where
    -- where no literal comes the rest of the line is its end
    line_end : line_rest seen g.left ≡ digit_zero ∷ line_feed ∷ []
    unfolding line_rest
    line_end = rw (spent s rest i g.left g.bytes h).0

    -- for which there is room
    pub end_room : RoomIn (clause_line (without_repeats w)) before → RoomIn (digit_zero ∷ line_feed ∷ []) now
    end_room r = rw line_end at (lining_room r)

    -- and with which the line is whole
    pub lining_last : (now' : Writer) → Puts (digit_zero ∷ line_feed ∷ []) now now' → Puts (clause_line (without_repeats w)) before now' × (drop (i + 1) s ≡ rest)
    lining_last now' x = (rw (g.same, line_end) (puts_more g.puts x), (spent s rest i g.left g.bytes h).1)

-- ---- the loop over the clauses

-- a clause, and then others
record First (left : List (List Literal)) : Type 0 where
  clause : List Literal
  others : List (List Literal)
  is : left ≡ clause ∷ others

-- so it is where there are any
first : (left : List (List Literal)) → 0 < length left → First left
first [] h = absurd (omega arith)
first (w ∷ ws) h = record { clause = w; others = ws; is = refl }

-- the lines are written up to the clauses that are left at `from`, of which there are so many
pub record Listing (s rest : List ℕ) (ws : List (List Literal)) (before now : Writer) (from more : ℕ) : Type 0 where
  pub left : List (List Literal)
  pub bytes : drop from s ≡ clauses_bytes left ++ rest
  pub over : Every (WrittenOver max_variables) left
  pub many : length left ≡ more
  pub written : List ℕ
  pub puts : Puts written before now
  pub same : clause_lines (map without_repeats ws) ≡ written ++ clause_lines (map without_repeats left)

-- nothing is written yet
pub listing_first : (s rest : List ℕ) (from : ℕ) (ws : List (List Literal)) (before : Writer) (more : ℕ) → drop from s ≡ clauses_bytes ws ++ rest
    → Every (WrittenOver max_variables) ws → more ≡ length ws → RoomIn [] before → Listing s rest ws before before from more
listing_first s rest from ws before more e o n r = record { left = ws; bytes = e; over = o; many = sym n; written = []; puts = puts_none before r; same = refl }

module _ {s rest : List ℕ} {ws : List (List Literal)} {before now : Writer} {from more : ℕ} (g : Listing s rest ws before now from more) where
  -- the bytes of a clause, and then those of the others
  clause_bytes_next : (a : First g.left) → drop from s ≡ clause_bytes a.clause ++ (clauses_bytes a.others ++ rest)
  unfolding clauses_bytes
  clause_bytes_next a = g.bytes ∙ rw a.is (append_assoc (clause_bytes a.clause) (clauses_bytes a.others) rest)

  -- each is a written clause
  over_next : (a : First g.left) → WrittenOver max_variables a.clause × Every (WrittenOver max_variables) a.others
  over_next a = rw a.is at g.over

  -- its line, and then those of the others
  lines_next : (a : First g.left)
      → clause_lines (map without_repeats g.left) ≡ clause_line (without_repeats a.clause) ++ clause_lines (map without_repeats a.others)
  unfolding clause_lines
  lines_next a = rw a.is

  -- the next clause stands there, with room for its line
  pub listing_clause : 0 < more → RoomIn (clause_lines (map without_repeats ws)) before → ClauseAt s from now
  listing_clause h r =
      let a = first g.left (omega (arith, g.many)) in
      record {
        clause = a.clause;
        rest = clauses_bytes a.others ++ rest;
        bytes = clause_bytes_next a;
        over = (over_next a).0;
        room = room_in_front (clause_line (without_repeats a.clause)) (clause_lines (map without_repeats a.others)) _ now (lines_next a) (room_in_behind g.written _ _ before now g.same r g.puts);
      }

  -- a line more
  pub listing_more : (now' : Writer) (next : ℕ) → 0 < more → AfterClause s from now now' next → Listing s rest ws before now' next (more - 1)
  listing_more now' next h f =
      let a = first g.left (omega (arith, g.many)) in
      let x = f a.clause (clauses_bytes a.others ++ rest) (clause_bytes_next a) (over_next a).0 in
      record {
        left = a.others;
        bytes = x.1;
        over = (over_next a).1;
        many = omega (arith, ap length a.is, g.many);
        written = g.written ++ clause_line (without_repeats a.clause);
        puts = puts_more g.puts x.0;
        same = g.same ∙ ap (λ (t : List ℕ). g.written ++ t) (lines_next a) ∙ sym (append_assoc g.written (clause_line (without_repeats a.clause)) _);
      }

  -- no clause is left
  pub listing_last : more ≡ 0 → Puts (clause_lines (map without_repeats ws)) before now
  unfolding clause_lines
  listing_last h = go g.left (g.many ∙ h) g.same
    where
      go : (left : List (List Literal)) → length left ≡ 0 → clause_lines (map without_repeats ws) ≡ g.written ++ clause_lines (map without_repeats left)
          → Puts (clause_lines (map without_repeats ws)) before now
      go [] n e = rw (e, append-nil g.written) g.puts
      go (w ∷ left) n e = absurd (omega arith)

-- ---- the whole text

module _ {s : List ℕ} {n : ℕ} {cs : List (List Literal)} (e : Encodes s n cs) where
  -- the written clauses of a readable input stand behind kind 1
  encoded_bytes : drop 2 s ≡ clauses_bytes e.written ++ (5 ∷ [])
  unfolding formula_bytes
  encoded_bytes = ap (drop 2) e.bytes

  -- over the most variables
  encoded_over : Every (WrittenOver max_variables) e.written
  encoded_over = over-most e.written e.sized.most e.sized.clauses

  -- as many as are read
  encoded_many : length cs ≡ length e.written
  encoded_many = ap length e.read ∙ length-map e.written without_repeats

  -- the text is the p line and their lines
  encoded_text : text_of n cs ≡ opening_line n (length cs) ++ clause_lines (map without_repeats e.written)
  unfolding text_of
  encoded_text = ap (λ (ds : List (List Literal)). opening_line n (length cs) ++ clause_lines ds) e.read

-- there is room for the p line
pub opening_room : {s : List ℕ} {n m : ℕ} {w : Writer} → Readable s n m w → RoomIn (opening_line n m) w
unfolding text_of
opening_room {s} {n} {m} {w} r = room_in_front (opening_line n m) (clause_lines r.clauses) (text_of n r.clauses) w (rw r.all) r.room

module _ {s : List ℕ} {n m : ℕ} {v w : Writer} (r : Readable s n m v) (o : Puts (opening_line n m) v w) where
  -- and behind it for the others
  pub readable_clauses : ClausesAt s m w
  readable_clauses =
      let e = accepted_only s n r.clauses r.reads in
      record {
        clauses = e.written;
        rest = 5 ∷ [];
        bytes = encoded_bytes e;
        over = encoded_over e;
        all = r.all ∙ encoded_many e;
        room = room_in_behind (opening_line n m) (clause_lines (map without_repeats e.written)) (text_of n r.clauses) v w (rw r.all (encoded_text e)) r.room o;
      }

  -- which make the text
  pub readable_written : (x : Writer) → Lined s m w x → (cs : List (List Literal)) → decode s ≡ readable n cs → Puts (text_of n cs) v x
  readable_written x f cs k =
      let e = accepted_only s n cs k in
      let same : r.clauses ≡ cs = cc r.reads in
      let many : m ≡ length cs = r.all ∙ ap length same in
      rw (encoded_text e, ← many) (puts_more o (f e.written (5 ∷ []) (encoded_bytes e) (encoded_over e) (many ∙ encoded_many e)))

-- ---- the act

-- a short buffer
pub text_short : (s b : List ℕ) → length b < text_room → to_text s b ≡ declined (ShortBuffer 0) b
unfolding to_text
text_short s b h = rw (lt-ltb (length b) text_room h)

module _ (s b : List ℕ) (long : text_room ≤ length b) where
  -- an input that is refused
  pub text_refused : (r : Refusal) → decode s ≡ refused r → to_text s b ≡ declined r b
  unfolding to_text
  text_refused r e = rw (le-ltb (length b) text_room long, e)

  -- the whole text
  pub text_written : (n : ℕ) (cs : List (List Literal)) (c : List ℕ) (r : ℕ) → decode s ≡ readable n cs → Wrote (text_of n cs) 0 b c r
      → to_text s b ≡ record { answer = converted_values (Ok r); buffer = c }
  unfolding to_text
  text_written n cs c r e w =
      let z : 0 + length (text_of n cs) ≡ length (text_of n cs) = omega arith in
      rw (le-ltb (length b) text_room long, e, w.next, w.buffer, z)
