-- A readable input that is cut: it ends behind a record or within one, and is refused by 2 at its length.
use Prim.Native.Nat.{ℕ, ◌+◌, ◌<◌, ◌≤◌}
use mathlib.Core.Bool.{Bool, true, false}
use mathlib.Core.List.{List, [], ◌∷◌, ◌++◌, append_assoc}
use mathlib.Core.Path.{◌≡◌, refl, sym, ap, ◌∙◌}
use native.Mathlib.Omega.{arith}
use lib.ListN.{length, length-append}
use Rattle.formula.specs.declared.Refusal.TheVariants.{Truncated}
use Rattle.formula.specs.Format.{Literal, literal_kind, literal_bytes, formula_bytes, WrittenSized}
use Rattle.formula.specs.Table.{Beginning, inside, written, Begins, MayStand, Given, no_kind, no_body, Refuses}
use Rattle.formula.proofs.ExtendsLaws.{formula_written, Extends, count, literal, clause_end, extends_written, beginning_back}
use Rattle.formula.proofs.RefusalLaws.{inner_stands}
use Rattle.formula.proofs.RepeatLaws.{written_none}

-- 2 is given for the beginning with the bytes u behind it, where u are the first of s but not all
abbrev Cut : Beginning → List ℕ → Type 0
Cut b s = (u t : List ℕ) → 0 < length t → u ++ t ≡ s → Refuses (written b ++ u) (Truncated (length (written b ++ u)))

-- by what is wrong with u
cut_at : (b : Beginning) → Begins b → (u : List ℕ) → Given (length (written b ++ u)) (length (written b)) b u (Truncated (length (written b ++ u)))
    → Refuses (written b ++ u) (Truncated (length (written b ++ u)))
cut_at b g u w = record { before = b; begins = g; rest = u; bytes = refl; given = w }

-- where a record of two bytes is next: before it, within it, or further on
cut_two : (b b' : Beginning) (k x : ℕ) (s : List ℕ) → Begins b → MayStand b k → k ≤ 3 → written b' ≡ written b ++ (k ∷ x ∷ []) → Cut b' s → Cut b (k ∷ x ∷ s)
cut_two b b' k x s g m l w p [] t h q = cut_at b g [] no_kind
cut_two b b' k x s g m l w p (y ∷ []) t h q = let e : y ≡ k = cc in rw e (cut_at b g (k ∷ []) (no_body k m l))
cut_two b b' k x s g m l w p (y ∷ z ∷ u) t h q =
    let e : y ≡ k = cc in
    let f : z ≡ x = cc in
    let r : u ++ t ≡ s = cc in
    let v : written b' ++ u ≡ written b ++ (k ∷ x ∷ u) = rw (w, append_assoc) in
    rw (e, f, ← v) (p u t h r)

-- where one of one byte is next: before it, or further on
cut_one : (b b' : Beginning) (k : ℕ) (s : List ℕ) → Begins b → written b' ≡ written b ++ (k ∷ []) → Cut b' s → Cut b (k ∷ s)
cut_one b b' k s g w p [] t h q = cut_at b g [] no_kind
cut_one b b' k s g w p (y ∷ u) t h q =
    let e : y ≡ k = cc in
    let r : u ++ t ≡ s = cc in
    let v : written b' ++ u ≡ written b ++ (k ∷ u) = rw (w, append_assoc) in
    rw (e, ← v) (p u t h r)

-- a record of the grammar carries it back
cut_back : (b b' : Beginning) (x s : List ℕ) → Begins b → Extends b x b' → Cut b' s → Cut b (x ++ s)
unfolding literal_bytes
cut_back b b' x s g (count n h k) p = cut_two b b' 1 n s g refl (omega arith) (extends_written (count n h k)) p
cut_back b b' x s g (literal {n} {ws} {w} l h k) p = go l.positive (extends_written (literal l h k))
  where
    go : (sign : Bool) → written b' ≡ written b ++ (literal_kind sign ∷ (l.variable + 1) ∷ []) → Cut b (literal_kind sign ∷ (l.variable + 1) ∷ s)
    go true e = cut_two b b' 2 (l.variable + 1) s g (inner_stands n ws w 2 (omega arith) (omega arith)) (omega arith) e p
    go false e = cut_two b b' 3 (l.variable + 1) s g (inner_stands n ws w 3 (omega arith) (omega arith)) (omega arith) e p
cut_back b b' x s g (clause_end h) p = cut_one b b' 4 s g (extends_written (clause_end h)) p

-- where kind 5 alone is next: before it
cut_last : (n : ℕ) (ws : List (List Literal)) → WrittenSized n ws → Cut (inside n ws []) (5 ∷ [])
cut_last n ws z [] t h q = cut_at (inside n ws []) (z, written_none) [] no_kind
cut_last n ws z (x ∷ u) t h q = absurd (omega (arith, ap length q, length-append u t))

-- the bytes of a formula, cut
pub cut_formula : (n : ℕ) (ws : List (List Literal)) → WrittenSized n ws → (s t : List ℕ) → 0 < length t → s ++ t ≡ formula_bytes n ws
    → Refuses s (Truncated (length s))
cut_formula n ws z s t h q =
    beginning_back Cut cut_back (inside n ws []) (z, written_none) (cut_last n ws z) s t h (q ∙ sym (formula_written n ws))
