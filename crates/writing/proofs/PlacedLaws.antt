-- Laws of a list written into another at an offset.
use Prim.Native.Nat.{ℕ, ◌+◌, ◌≤◌}
use mathlib.Core.List.{List, [], ◌++◌, append-nil, append_assoc}
use mathlib.Core.Path.{◌≡◌, refl, sym, ap, ◌∙◌}
use native.Mathlib.Omega.{arith}
use lib.ListN.{length, take, drop, take-append-drop, length-append, length-drop, drop_of_length-le}
use lib.Seq.{length-take-le, take_at, drop-append-add, drop-drop}
use Rattle.lists.specs.Over.{over}
use Rattle.std.specs.Borrow.{MutBor}
use Rattle.writing.specs.declared.Writer.{Writer}
use Rattle.writing.specs.Placed.{placed, Wrote, Lent, RoomIn, Puts}

module _ {A : Type 0} where
  -- the length stays
  pub placed_length : (at : ℕ) (xs b : List A) → at + length xs ≤ length b → length (placed at xs b) ≡ length b
  placed_length at xs b h =
      let t : length (take at b) ≡ at = length-take-le at b (omega arith) in
      simp (length-append, length-drop) (omega arith)

  -- one list behind the other
  pub placed_placed : (at : ℕ) (xs ys b : List A) → at ≤ length b → placed (at + length xs) ys (placed at xs b) ≡ placed at (xs ++ ys) b
  placed_placed at xs ys b h =
      let d = drop (at + length xs) b in
      let p = take at b ++ xs in
      let t : length (take at b) ≡ at = length-take-le at b h in
      let l : length p ≡ at + length xs = length-append (take at b) xs ∙ omega arith in
      let o : at + length xs + length ys ≡ at + length (xs ++ ys) = (let q = length-append xs ys in omega arith) in
      let e : placed at xs b ≡ p ++ d = sym (append_assoc (take at b) xs d) in
      let f : take (at + length xs) (placed at xs b) ≡ p = ap (take (at + length xs)) e ∙ take_at p d (at + length xs) l in
      let g : drop (at + length xs + length ys) (placed at xs b) ≡ drop (at + length (xs ++ ys)) b =
      ap (drop (at + length xs + length ys)) e
      ∙ ap (λ (k : ℕ). drop (k + length ys) (p ++ d)) (sym l)
      ∙ drop-append-add p d (length ys)
      ∙ drop-drop (length ys) (at + length xs) b
      ∙ ap (λ (k : ℕ). drop k b) o in
      rw (f, g) (simp append_assoc)

  -- behind a list that is written over the beginning
  pub placed_over : (xs ys b : List A) (k : ℕ) → length xs ≡ k → placed k ys (over xs b) ≡ over (xs ++ ys) b
  placed_over xs ys b k h =
      let o : (zs : List A) → over zs b ≡ placed 0 zs b = λ zs. (let z : length zs ≡ 0 + length zs = omega arith in ap (λ (j : ℕ). zs ++ drop j b) z) in
      let z : k ≡ 0 + length xs = omega arith in
      ap (placed k ys) (o xs)
      ∙ ap (λ (j : ℕ). placed j ys (placed 0 xs b)) z
      ∙ placed_placed 0 xs ys b (omega arith)
      ∙ sym (o (xs ++ ys))

  -- no element
  pub placed_none : (at : ℕ) (b : List A) → b ≡ placed at [] b
  placed_none at b = let e : at + 0 ≡ at = omega arith in rw e (sym (take-append-drop at b))

  -- a part of k elements that was lent, and came back as xs
  pub placed_part : (at k : ℕ) (xs b : List A) → length xs ≡ k → take at b ++ (xs ++ drop k (drop at b)) ≡ placed at xs b
  placed_part at k xs b h =
      ap (λ (j : ℕ). take at b ++ (xs ++ drop j (drop at b))) (sym h) ∙ ap (λ (d : List A). take at b ++ (xs ++ d)) (drop-drop (length xs) at b)

-- ---- what writers did

-- the answer lies within the buffer
pub wrote_within : {xs : List ℕ} {at : ℕ} {b c : List ℕ} {r : ℕ} → at ≤ length b → Wrote xs at b c r → r ≤ length c
wrote_within {xs} {at} {b} h w =
    let t : length (take at b) ≡ at = length-take-le at b h in
    let n = w.next in
    rw w.buffer (simp length-append (omega arith))

-- one writer behind the other
pub wrote_more : {xs ys : List ℕ} {at p r : ℕ} {b c d : List ℕ} → at ≤ length b → Wrote xs at b c p → Wrote ys p c d r → Wrote (xs ++ ys) at b d r
wrote_more {xs} {ys} {at} {p} {r} {b} {c} {d} h v w =
    record {
      buffer = w.buffer ∙ ap (λ (t : ℕ). placed t ys c) v.next ∙ ap (placed (at + length xs) ys) v.buffer ∙ placed_placed at xs ys b h;
      next = (let l = length-append xs ys in let m = v.next in let n = w.next in omega arith);
    }

-- a buffer that is written whole
pub wrote_whole : {xs : List ℕ} {b c : List ℕ} {r : ℕ} → length b ≡ length xs → Wrote xs 0 b c r → c ≡ xs
wrote_whole {xs} {b} h w =
    let e : drop (0 + length xs) b ≡ [] = drop_of_length-le b {i = 0 + length xs} (omega arith) in
    w.buffer ∙ rw e (append-nil xs)

-- ---- what a writer's methods did

-- nothing yet
pub puts_none : (w : Writer) → RoomIn [] w → Puts [] w w
puts_none w h = record { same = refl; wrote = record { buffer = placed_none w.at w.buffer.now; next = omega arith }; shape = refl; room = h }

-- one method behind the other
pub puts_more : {xs ys : List ℕ} {u v w : Writer} → Puts xs u v → Puts ys v w → Puts (xs ++ ys) u w
puts_more {xs} {ys} p q =
    record {
      same = q.same ∙ p.same;
      wrote = wrote_more (omega arith) p.wrote q.wrote;
      shape = q.shape ∙ p.shape;
      room = omega (arith, length-append xs ys);
    }

-- what was lent to a writer, and what it holds now
pub lent_puts : {xs : List ℕ} {b : MutBor (List ℕ)} {at : ℕ} {v w : Writer} → Lent b at v → Puts xs v w
    → (w.buffer.ghost_name ≡ b.ghost_name) × Wrote xs at b.now w.buffer.now w.at
lent_puts l p = (p.same ∙ l.same, rw (l.bytes, l.next) at p.wrote)

-- there is room for the first part of a list,
pub room_in_front : (xs ys ws : List ℕ) (w : Writer) → ws ≡ xs ++ ys → RoomIn ws w → RoomIn xs w
room_in_front xs ys ws w e h = let l = ap length e ∙ length-append xs ys in omega arith

-- and for the part behind it
pub room_in_behind : (xs ys ws : List ℕ) (v w : Writer) → ws ≡ xs ++ ys → RoomIn ws v → Puts xs v w → RoomIn ys w
room_in_behind xs ys ws v w e h p = let l = ap length e ∙ length-append xs ys in omega arith
