-- A checkpoint's bytes: what is written is read back, and what is well formed is what was written.
use Prim.Native.Nat.{ℕ, zero, suc, ◌+◌, ◌-◌, ◌≤◌, ◌<◌}
use mathlib.Core.Bool.{Bool, true, false, cond, not}
use mathlib.Core.List.{List, [], ◌∷◌, ◌++◌, append_assoc, append-nil, map, map-append}
use mathlib.Core.Path.{◌≡◌, refl, sym, ap, ap₂, ◌∙◌}
use native.Mathlib.Omega.{arith}
use lib.Dec.{eqb, leb}
use lib.ListN.{length, take, drop, replicate, length-take, length-drop, length-map, take-append-drop}
use borrow.Author.Tests.{eqb-true, eqb-false, ne_eqb, leb-true, le-leb, lt-leb, not-true}
use Rattle.limits.specs.Limits.{max_variables}
use Rattle.lists.specs.Padded.{padded}
use Rattle.lists.proofs.PaddedLaws.{take_padded, drop_padded}
use Rattle.lists.proofs.TestLaws.{and_left, and_right, and_both}
use Rattle.walk.specs.Checkpoints.{Checkpoint, byte, byte_number, byte_value, byte_literal, trail_in, checkpoint_of}
use Rattle.walk.specs.InnerStack.{Stack, empty, push, depth, trail_of}
use Rattle.walk.specs.InnerTest.{pushed, read, numbered, zeros, formed}
use Rattle.walk.proofs.PositionLaws.{length_trail}

-- every variable of the trail is below n
abbrev pub Below : ℕ → Stack → Type 0
Below n empty = Unit {0}
Below n (push v b t) = (v < n) × Below n t

-- bytes after bytes
pub pushed-append : (xs ys : List ℕ) (t : Stack) → pushed t (xs ++ ys) ≡ pushed (pushed t xs) ys
unfolding pushed
pushed-append [] ys t = refl
pushed-append (x ∷ xs) ys t = pushed-append xs ys (push (byte_number x - 1) (byte_value x) t)

pushed_trail : (xs : List ℕ) (t : Stack) → trail_of (pushed t xs) ≡ trail_of t ++ map byte_literal xs
unfolding pushed trail_of
pushed_trail [] t = sym (append-nil (trail_of t))
pushed_trail (x ∷ xs) t = pushed_trail xs (push (byte_number x - 1) (byte_value x) t) ∙ append_assoc (trail_of t) (byte_literal x ∷ []) (map byte_literal xs)

-- what is read as a stack is the trail in the checkpoint
pub read_trail : (c : Checkpoint) → trail_of (read c) ≡ trail_in c
unfolding trail_in trail_of
read_trail c = pushed_trail (take c.length c.bytes) empty

-- a byte's variable and value
pub byte_back : (v : ℕ) (b : Bool) (t : Stack) → v < max_variables → push (byte_number (byte (record { variable = v; positive = b })) - 1) (byte_value (byte (record { variable = v; positive = b }))) t ≡ push v b t
byte_back v false t h =
    let e : leb 128 (v + 1) ≡ false = lt-leb 128 (v + 1) (omega arith) in
    let f : v + 1 - 1 ≡ v = omega arith in
    rw (e, f)
byte_back v true t h =
    let e : leb 128 (v + 1 + 128) ≡ true = le-leb 128 (v + 1 + 128) (omega arith) in
    let f : v + 1 + 128 - 128 - 1 ≡ v = omega arith in
    rw (e, f)

pushed_bytes : (t : Stack) → Below max_variables t → pushed empty (map byte (trail_of t)) ≡ t
unfolding trail_of pushed
pushed_bytes empty w = refl
pushed_bytes (push v b t) w =
    ap (pushed empty) (map-append byte (trail_of t) (record { variable = v; positive = b } ∷ []))
    ∙ pushed-append (map byte (trail_of t)) (byte (record { variable = v; positive = b }) ∷ []) empty
    ∙ ap (λ (u : Stack). push (byte_number (byte (record { variable = v; positive = b })) - 1) (byte_value (byte (record { variable = v; positive = b }))) u)
    (pushed_bytes t w.1)
    ∙ byte_back v b t w.0

-- what is written is read back
pub read-written : (m : ℕ) (t : Stack) → Below max_variables t → read (checkpoint_of m (trail_of t)) ≡ t
unfolding checkpoint_of
read-written m t w =
    ap (pushed empty) (ap (λ (k : ℕ). take k (padded max_variables 0 (map byte (trail_of t)))) (sym (length-map (trail_of t) byte)) ∙ take_padded max_variables 0 (map byte (trail_of t)))
    ∙ pushed_bytes t w

zeros_replicate : (k : ℕ) → zeros (replicate k 0) ≡ true
unfolding zeros
zeros_replicate zero = refl
zeros_replicate (suc k) = zeros_replicate k

zeros_are : (l : List ℕ) → zeros l ≡ true → l ≡ replicate (length l) 0
unfolding zeros
zeros_are [] e = refl
zeros_are (x ∷ l) e = ap₂ {C = List ℕ} (λ y r. y ∷ r) (eqb-true x 0 (and_left (eqb x 0) (zeros l) e)) (zeros_are l (and_right (eqb x 0) (zeros l) e))

byte_numbered : (v : ℕ) (b : Bool) → v < max_variables → not (eqb (byte_number (byte (record { variable = v; positive = b }))) 0) ≡ true
byte_numbered v false h =
    let e : leb 128 (v + 1) ≡ false = lt-leb 128 (v + 1) (omega arith) in
    let f : eqb (v + 1) 0 ≡ false = ne_eqb (v + 1) 0 (λ q. omega arith) in
    rw (e, f)
byte_numbered v true h =
    let e : leb 128 (v + 1 + 128) ≡ true = le-leb 128 (v + 1 + 128) (omega arith) in
    let f : eqb (v + 1 + 128 - 128) 0 ≡ false = ne_eqb (v + 1 + 128 - 128) 0 (λ q. omega arith) in
    rw (e, f)

numbered_append : (xs ys : List ℕ) → numbered xs ≡ true → numbered ys ≡ true → numbered (xs ++ ys) ≡ true
unfolding numbered
numbered_append [] ys h k = k
numbered_append (x ∷ xs) ys h k =
    and_both _ _ (and_left (not (eqb (byte_number x) 0)) (numbered xs) h) (numbered_append xs ys (and_right (not (eqb (byte_number x) 0)) (numbered xs) h) k)

numbered_bytes : (t : Stack) → Below max_variables t → numbered (map byte (trail_of t)) ≡ true
unfolding trail_of numbered
numbered_bytes empty w = refl
numbered_bytes (push v b t) w =
    rw map-append (numbered_append (map byte (trail_of t)) (byte (record { variable = v; positive = b }) ∷ []) (numbered_bytes t w.1)
    (and_both _ _ (byte_numbered v b w.0) refl))

-- what is written is well formed
pub written-formed : (m : ℕ) (t : Stack) → m ≤ 4 → depth t ≤ max_variables → Below max_variables t → formed (checkpoint_of m (trail_of t)) ≡ true
unfolding formed checkpoint_of
written-formed m t k d w =
    let l : length (map byte (trail_of t)) ≡ length (trail_of t) = length-map (trail_of t) byte in
    let e : length (trail_of t) ≡ depth t = length_trail t in
    let p : take (length (trail_of t)) (padded max_variables 0 (map byte (trail_of t))) ≡ map byte (trail_of t) = rw (← l) (take_padded max_variables 0 (map byte (trail_of t))) in
    let q : drop (length (trail_of t)) (padded max_variables 0 (map byte (trail_of t))) ≡ replicate (max_variables - length (map byte (trail_of t))) 0 =
    ap (λ (k : ℕ). drop k (padded max_variables 0 (map byte (trail_of t)))) (sym l) ∙ drop_padded max_variables 0 (map byte (trail_of t)) in
    let s : length (trail_of t) ≤ max_variables = omega arith in
    rw (le-leb m 4 k, le-leb (length (trail_of t)) max_variables s, p, q) (and_both _ _ (numbered_bytes t w) (zeros_replicate (max_variables - length (map byte (trail_of t)))))

-- one variable for each byte
pub pushed-depth : (xs : List ℕ) (t : Stack) → depth (pushed t xs) ≡ depth t + length xs
unfolding pushed
pushed-depth [] t = omega arith
pushed-depth (x ∷ xs) t = pushed-depth xs (push (byte_number x - 1) (byte_value x) t) ∙ omega arith

byte_forth : (x : ℕ) → not (eqb (byte_number x) 0) ≡ true → byte (record { variable = byte_number x - 1; positive = byte_value x }) ≡ x
byte_forth x h = at (leb 128 x) refl (eqb-false (byte_number x) 0 (not-true _ h))
  where
    at : (y : Bool) → leb 128 x ≡ y → (cond y (x - 128) x ≡ 0 → ⊥) → cond y (cond y (x - 128) x - 1 + 1 + 128) (cond y (x - 128) x - 1 + 1) ≡ x
    at true e ne = let h = leb-true 128 x e in omega arith
    at false e ne = omega arith

-- the bytes of what was read are the bytes
pub bytes_pushed : (xs : List ℕ) (t : Stack) → numbered xs ≡ true → map byte (trail_of (pushed t xs)) ≡ map byte (trail_of t) ++ xs
unfolding pushed numbered trail_of
bytes_pushed [] t h = sym (append-nil (map byte (trail_of t)))
bytes_pushed (x ∷ xs) t h =
    bytes_pushed xs (push (byte_number x - 1) (byte_value x) t) (and_right (not (eqb (byte_number x) 0)) (numbered xs) h)
    ∙ simp (map-append, append_assoc) (ap (λ (y : ℕ). map byte (trail_of t) ++ (y ∷ xs)) (byte_forth x (and_left (not (eqb (byte_number x) 0)) (numbered xs) h)))

refilled : (k : ℕ) (l : List ℕ) → length l ≡ max_variables → k ≤ max_variables → numbered (take k l) ≡ true → zeros (drop k l) ≡ true
    → padded max_variables 0 (map byte (trail_of (pushed empty (take k l)))) ≡ l
unfolding padded trail_of
refilled k l h w num z =
    let e : map byte (trail_of (pushed empty (take k l))) ≡ take k l = bytes_pushed (take k l) empty num in
    let q : max_variables - length (take k l) ≡ length (drop k l) = omega (arith, length-take k l, length-drop k l) in
    rw (e, q, ← (zeros_are (drop k l) z)) (take-append-drop k l)

-- what is well formed is what was written
pub formed-written : (c : Checkpoint) → length c.bytes ≡ max_variables → formed c ≡ true → checkpoint_of c.mode (trail_of (read c)) ≡ c
unfolding formed checkpoint_of
formed-written c h f =
    let a = and_right (leb c.mode 4) _ f in
    let b = and_right (leb c.length max_variables) _ a in
    let l : c.length ≤ max_variables = leb-true c.length max_variables (and_left (leb c.length max_variables) _ a) in
    let d : length (trail_of (read c)) ≡ c.length =
    length_trail (read c) ∙ pushed-depth (take c.length c.bytes) empty ∙ omega (arith, length-take c.length c.bytes) in
    let num = and_left (numbered (take c.length c.bytes)) _ b in
    let z = and_right (numbered (take c.length c.bytes)) _ b in
    λ i. record { mode = c.mode; length = d i; bytes = refilled c.length c.bytes h l num z i }

-- a well formed checkpoint's mode
pub formed_mode : (c : Checkpoint) → formed c ≡ true → c.mode ≤ 4
unfolding formed
formed_mode c f = leb-true c.mode 4 (and_left (leb c.mode 4) _ f)
