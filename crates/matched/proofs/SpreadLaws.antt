-- Laws of the lists that the loops write, and of the bytes that are spread over a formula's clauses.
use Prim.Native.Nat.{ℕ, zero, suc, ◌+◌, ◌≤◌, ◌<◌}
use mathlib.Core.Bool.{Bool, true, false, cond, not}
use mathlib.Core.List.{List, [], ◌∷◌, ◌++◌, map}
use mathlib.Core.Path.{◌≡◌, refl, sym, ap, ◌∙◌}
use native.Mathlib.Numerals.{add-one}
use native.Mathlib.Omega.{arith}
use lib.ListN.{length, get_or, set, drop, get_or-map}
use lib.Seq.{get_or-drop}
use Rattle.limits.specs.Limits.{max_clauses}
use Rattle.lists.specs.Every.{Every}
use Rattle.lists.specs.Padded.{padded}
use Rattle.lists.proofs.EveryLaws.{every_get_or}
use Rattle.lists.proofs.MapLaws.{get_or-map_in}
use Rattle.lists.proofs.PaddedLaws.{padded_set, get_or_padded}
use Rattle.lists.proofs.TabulatedLaws.{length_tabulated, tabulated_more, tabulated_of}
use Rattle.formula.specs.declared.assignment.Assignment.{Assignment}
use Rattle.formula.specs.declared.Clause.{Clause}
use Rattle.formula.specs.Format.{Literal, distinct}
use Rattle.formula.specs.InnerAssignment.{satisfied_under}
use Rattle.formula.specs.InnerMasked.{no_clause, with_literals, clause_of}
use Rattle.splitting.specs.Nodes.{assign, remaining, satisfied_by}
use Rattle.splitting.specs.InnerChoose.{assignment_of}
use Rattle.splitting.proofs.SatisfiedLaws.{less_all, remaining_cons, satisfied_masks}
use Rattle.matched.specs.Acceptance.{RowByte, known, asked, spread}
use Rattle.matched.specs.InnerAccept.{raised}
use Rattle.matched.specs.InnerSpread.{open_before, byte_at, bytes_at}

-- ---- one element more

module _ (l more : List ℕ) (i x : ℕ) (e : length l ≡ i) (m : more ≡ l ++ (x ∷ [])) (a : List ℕ) where
  -- in an array of n places
  pub padded_more : (n d : ℕ) → a ≡ padded n d l → i < n → set a i x ≡ padded n d more
  padded_more n d q h = rw (q, m, ← e) (padded_set n d l x (omega arith))

-- ---- the loop that spreads

-- a byte for each clause
pub bytes_length : (cs : List Clause) (a : Assignment) (answers : List ℕ) (k n : ℕ) → length (bytes_at cs a answers k n) ≡ n
bytes_length cs a answers k n = length_tabulated (byte_at cs a answers k) n

module _ (cs : List Clause) (a : Assignment) (answers : List ℕ) (k i next : ℕ) (row : List ℕ)
    (counted : next ≡ open_before cs a i) (written : row ≡ bytes_at cs a answers k i) where
  -- a clause that is not satisfied gets the next answer
  pub spread_open : satisfied_under a (get_or cs i no_clause) ≡ false
      → (next + 1 ≡ open_before cs a (i + 1)) × (row ++ ((get_or answers next 0 + k) ∷ []) ≡ bytes_at cs a answers k (i + 1))
  unfolding open_before
  spread_open e = (rw (add-one i, e, ← counted) (omega arith), rw written (sym (tabulated_more (byte_at cs a answers k) i ∙ rw (e, ← counted))))

  -- a satisfied one gets 0
  pub spread_gone : satisfied_under a (get_or cs i no_clause) ≡ true → (next ≡ open_before cs a (i + 1)) × (row ++ (0 ∷ []) ≡ bytes_at cs a answers k (i + 1))
  unfolding open_before
  spread_gone e = (rw (add-one i, e) counted, rw written (sym (tabulated_more (byte_at cs a answers k) i ∙ rw e)))

-- ---- the clauses that ask, by their places

-- the byte of a clause whose answer is x
abbrev pub answered : RowByte → ℕ → ℕ
answered (known y) x = y
answered asked x = x

-- the clause asks for an answer
abbrev pub asks : RowByte → Bool
asks (known y) = false
asks asked = true

module _ (f : List Literal → RowByte) where
  pub spread_length : (cs : List (List Literal)) (answers : List ℕ) → length (spread f cs answers) ≡ length cs
  unfolding spread
  spread_length [] answers = refl
  spread_length (c ∷ cs) answers = at (f c) (spread_length cs answers) (spread_length cs (drop 1 answers))
    where
      at : (b : RowByte) → length (spread f cs answers) ≡ length cs → length (spread f cs (drop 1 answers)) ≡ length cs
          → length {A = ℕ} (elim b [ known x ↦ x ∷ spread f cs answers | asked ↦ get_or answers 0 0 ∷ spread f cs (drop 1 answers) ]) ≡ suc (length cs)
      at (known x) p q = omega arith
      at asked p q = omega arith

  -- one clause more, whose byte is known
  pub spread_known : (c : List Literal) (cs : List (List Literal)) (answers : List ℕ) (x : ℕ) → f c ≡ known x → spread f (c ∷ cs) answers ≡ x ∷ spread f cs answers
  unfolding spread
  spread_known c cs answers x e = rw (spread, e)

  -- and one that asks
  pub spread_asked : (c : List Literal) (cs : List (List Literal)) (answers : List ℕ) → f c ≡ asked → spread f (c ∷ cs) answers ≡ get_or answers 0 0 ∷ spread f cs (drop 1 answers)
  unfolding spread
  spread_asked c cs answers e = rw (spread, e)

  -- how many of the first clauses ask
  unfoldable pub asking : List (List Literal) → ℕ → ℕ
  asking cs zero = 0
  asking [] (suc i) = 0
  asking (c ∷ cs) (suc i) = cond (asks (f c)) (suc (asking cs i)) (asking cs i)

  -- one that asks has its own place among them
  pub asking_less : (cs : List (List Literal)) (i j : ℕ) → i < j → j ≤ length cs → asks (f (get_or cs i [])) ≡ true → asking cs i < asking cs j
  unfolding asking
  asking_less [] i j h k e = absurd (omega arith)
  asking_less (c ∷ cs) i zero h k e = absurd (omega arith)
  asking_less (c ∷ cs) zero (suc j) h k e = rw e (omega arith)
  asking_less (c ∷ cs) (suc i) (suc j) h k e = at (asks (f c)) (asking_less cs i j (omega arith) (omega arith) e)
    where
      at : (b : Bool) → asking cs i < asking cs j → cond b (suc (asking cs i)) (asking cs i) < cond b (suc (asking cs j)) (asking cs j)
      at true l = omega arith
      at false l = l

  -- the byte of a clause is known by itself, or is the answer at its place
  pub spread_byte : (cs : List (List Literal)) (answers : List ℕ) (i : ℕ) → i < length cs
      → get_or (spread f cs answers) i 0 ≡ answered (f (get_or cs i [])) (get_or answers (asking cs i) 0)
  unfolding spread asking
  spread_byte [] answers i h = absurd (omega arith)
  spread_byte (c ∷ cs) answers zero h = at (f c)
    where
      at : (b : RowByte)
          → get_or {A = ℕ} (elim b [ known x ↦ x ∷ spread f cs answers | asked ↦ get_or answers 0 0 ∷ spread f cs (drop 1 answers) ]) 0 0
          ≡ answered b (get_or answers 0 0)
      at (known x) = refl
      at asked = refl
  spread_byte (c ∷ cs) answers (suc i) h = at (f c) (spread_byte cs answers i (omega arith)) (spread_byte cs (drop 1 answers) i (omega arith))
    where
      k : ℕ
      k = asking cs i

      at : (b : RowByte) → get_or (spread f cs answers) i 0 ≡ answered (f (get_or cs i [])) (get_or answers k 0)
          → get_or (spread f cs (drop 1 answers)) i 0 ≡ answered (f (get_or cs i [])) (get_or (drop 1 answers) k 0)
          → get_or {A = ℕ} (elim b [ known x ↦ x ∷ spread f cs answers | asked ↦ get_or answers 0 0 ∷ spread f cs (drop 1 answers) ]) (suc i) 0
          ≡ answered (f (get_or cs i [])) (get_or answers (cond (asks b) (suc k) k) 0)
      at (known x) p q = p
      at asked p q = let z : 1 + k ≡ suc k = omega arith in q ∙ rw (get_or-drop 1 answers k 0, z)

  -- another answer for a clause that asks is another byte of it
  pub spread_set : (cs : List (List Literal)) (answers : List ℕ) (i x : ℕ) → i < length cs → f (get_or cs i []) ≡ asked → asking cs i < length answers
      → spread f cs (set answers (asking cs i) x) ≡ set (spread f cs answers) i x
  unfolding asking
  spread_set [] answers i x h e l = absurd (omega arith)
  spread_set (c ∷ cs) [] i x h e l = absurd (omega arith)
  spread_set (c ∷ cs) (a ∷ answers) zero x h e l = spread_asked c cs (x ∷ answers) e ∙ ap (λ (b : List ℕ). set b 0 x) (sym (spread_asked c cs (a ∷ answers) e))
  spread_set (c ∷ cs) (a ∷ answers) (suc i) x h e l =
      at (f c) refl l (spread_set cs (a ∷ answers) i x (omega arith) e) (spread_set cs answers i x (omega arith) e)
    where
      k : ℕ
      k = asking cs i

      at : (b : RowByte) → f c ≡ b → cond (asks (f c)) (suc k) k < suc (length answers)
          → (k < suc (length answers) → spread f cs (set (a ∷ answers) k x) ≡ set (spread f cs (a ∷ answers)) i x)
          → (k < length answers → spread f cs (set answers k x) ≡ set (spread f cs answers) i x)
          → spread f (c ∷ cs) (set (a ∷ answers) (cond (asks (f c)) (suc k) k) x) ≡ set (spread f (c ∷ cs) (a ∷ answers)) (suc i) x
      at (known y) q l p r =
          let z : cond (asks (f c)) (suc k) k ≡ k = rw q in
          rw (z, spread_known c cs (set (a ∷ answers) k x) y q, spread_known c cs (a ∷ answers) y q) (ap (λ (b : List ℕ). y ∷ b) (p (rw z at l)))
      at asked q l p r =
          let z : cond (asks (f c)) (suc k) k ≡ suc k = rw q in
          rw (z, spread_asked c cs (a ∷ set answers k x) q, spread_asked c cs (a ∷ answers) q) (ap (λ (b : List ℕ). a ∷ b) (r (let j : suc k < suc (length answers) = rw z at l in omega arith)))

-- whether clauses ask is all that places depend on
pub asking_same : (f g : List Literal → RowByte) → ((c : List Literal) → asks (f c) ≡ asks (g c)) → (cs : List (List Literal)) (i : ℕ) → asking f cs i ≡ asking g cs i
unfolding asking
asking_same f g e cs zero = refl
asking_same f g e [] (suc i) = refl
asking_same f g e (c ∷ cs) (suc i) = rw (e c, asking_same f g e cs i)

-- ---- the trail u satisfies the clauses that do not ask

abbrev pub Sieves : List Literal → (List Literal → RowByte) → List (List Literal) → Type 0
Sieves u f cs = Every (λ c. satisfied_by u c ≡ not (asks (f c))) cs

-- so it is where those have 0
pub zeros_sieve : (u : List Literal) (f : List Literal → RowByte) (cs : List (List Literal)) → Every (λ c. f c ≡ cond (satisfied_by u c) (known 0) asked) cs → Sieves u f cs
zeros_sieve u f [] h = tt
zeros_sieve u f (c ∷ cs) h = (rw h.0 (by (satisfied_by u c)), zeros_sieve u f cs h.1)
  where
    by : (b : Bool) → b ≡ not (asks (cond b (known 0) asked))
    by true = refl
    by false = refl

pub remaining-none : (u : List Literal) → remaining u [] ≡ []
unfolding remaining assign
remaining-none [] = refl
remaining-none (l ∷ u) = remaining-none u

module _ (u : List Literal) (once : distinct u ≡ true) (f : List Literal → RowByte) where
  -- there are as many that ask as clauses remain
  asking_all : (cs : List (List Literal)) → Sieves u f cs → asking f cs (length cs) ≡ length (remaining u cs)
  unfolding asking
  asking_all [] s = rw (remaining-none u)
  asking_all (c ∷ cs) s = rw (remaining_cons u c cs once, s.0) (at (asks (f c)) (asking_all cs s.1))
    where
      at : (b : Bool) → asking f cs (length cs) ≡ length (remaining u cs)
          → cond b (suc (asking f cs (length cs))) (asking f cs (length cs)) ≡ length (cond (not b) (remaining u cs) (less_all u c ∷ remaining u cs))
      at true e = ap suc e
      at false e = e

  -- and what remains of a clause stands at its place
  pub remaining_at : (cs : List (List Literal)) → Sieves u f cs → (i : ℕ) → i < length cs → asks (f (get_or cs i [])) ≡ true
      → get_or (remaining u cs) (asking f cs i) [] ≡ less_all u (get_or cs i [])
  unfolding asking
  remaining_at [] s i h e = absurd (omega arith)
  remaining_at (c ∷ cs) s zero h e = rw (remaining_cons u c cs once, s.0, e)
  remaining_at (c ∷ cs) s (suc i) h e = rw (remaining_cons u c cs once, s.0) (at (asks (f c)) (remaining_at cs s.1 i (omega arith) e))
    where
      at : (b : Bool) → get_or (remaining u cs) (asking f cs i) [] ≡ less_all u (get_or cs i [])
          → get_or (cond (not b) (remaining u cs) (less_all u c ∷ remaining u cs)) (cond b (suc (asking f cs i)) (asking f cs i)) [] ≡ less_all u (get_or cs i [])
      at true e = e
      at false e = e

  -- a place among what remains
  pub asking_place : (cs : List (List Literal)) → Sieves u f cs → (i : ℕ) → i < length cs → asks (f (get_or cs i [])) ≡ true → asking f cs i < length (remaining u cs)
  asking_place cs s i h e = rw (← (asking_all cs s)) (asking_less f cs i (length cs) h (omega arith) e)

-- ---- the code's bytes

-- with one clause more in front
open_cons : (a : Assignment) (c : Clause) (cs : List Clause) (i : ℕ) → open_before (c ∷ cs) a (suc i) ≡ cond (satisfied_under a c) (open_before cs a i) (suc (open_before cs a i))
unfolding open_before
open_cons a c cs zero = refl
open_cons a c cs (suc i) = rw (open_cons a c cs i) (at (satisfied_under a c) (satisfied_under a (get_or cs i no_clause)))
  where
    at : (x y : Bool)
        → cond y (cond x (open_before cs a i) (suc (open_before cs a i))) (suc (cond x (open_before cs a i) (suc (open_before cs a i))))
        ≡ cond x (cond y (open_before cs a i) (suc (open_before cs a i))) (suc (cond y (open_before cs a i) (suc (open_before cs a i))))
    at true y = refl
    at false true = refl
    at false false = refl

-- the clauses that the assignment of u does not satisfy are those that ask
open_asking : (u : List Literal) (f : List Literal → RowByte) (cs : List (List Literal)) → Sieves u f cs → (i : ℕ) → i ≤ length cs
    → open_before (map clause_of cs) (assignment_of u) i ≡ asking f cs i
unfolding asking open_before
open_asking u f cs s zero h = refl
open_asking u f [] s (suc i) h = absurd (omega arith)
open_asking u f (c ∷ cs) s (suc i) h =
    open_cons (assignment_of u) (clause_of c) (map clause_of cs) i
    ∙ rw (satisfied_masks u c, s.0, open_asking u f cs s.1 i (omega arith)) (at (asks (f c)))
  where
    at : (b : Bool) → cond (not b) (asking f cs i) (suc (asking f cs i)) ≡ cond b (suc (asking f cs i)) (asking f cs i)
    at true = refl
    at false = refl

module _ (n : ℕ) (cs : List (List Literal)) where
  abbrev masks : List Clause
  masks = map clause_of cs

  -- the masks of a clause
  pub masks_at : (i : ℕ) → get_or masks i no_clause ≡ clause_of (get_or cs i [])
  unfolding with_literals
  masks_at i = get_or-map clause_of cs i []

  -- the answers of what remains under u, spread over the clauses, 0 for those that u satisfies
  pub spread_bytes : (u : List Literal) → distinct u ≡ true → (f : List Literal → RowByte) → Every (λ c. f c ≡ cond (satisfied_by u c) (known 0) asked) cs
      → (l : List ℕ) (k : ℕ) → length l ≡ length (remaining u cs)
      → bytes_at masks (assignment_of u) (padded max_clauses 0 l) k (length cs) ≡ spread f cs (raised k l)
  spread_bytes u once f zeros l k e =
      sym (tabulated_of (byte_at masks (assignment_of u) (padded max_clauses 0 l) k) (length cs) (spread f cs (raised k l)) 0 (spread_length f cs (raised k l)) same)
    where
      s : Sieves u f cs
      s = zeros_sieve u f cs zeros

      at : (i : ℕ) → i < length cs → (b : Bool) → satisfied_by u (get_or cs i []) ≡ b → f (get_or cs i []) ≡ cond b (known 0) asked
          → answered (cond b (known 0) asked) (get_or (raised k l) (asking f cs i) 0) ≡ cond b 0 (get_or (padded max_clauses 0 l) (asking f cs i) 0 + k)
      at i h true q z = refl
      at i h false q z =
          let m : asking f cs i < length l = rw e (asking_place u once f cs s i h (ap asks z)) in
          get_or-map_in (λ x. x + k) l (asking f cs i) 0 0 m ∙ rw (get_or_padded max_clauses 0 l (asking f cs i) 0 m)

      same : (i : ℕ) → i < length cs → get_or (spread f cs (raised k l)) i 0 ≡ byte_at masks (assignment_of u) (padded max_clauses 0 l) k i
      same i h =
          let z = every_get_or (λ c. f c ≡ cond (satisfied_by u c) (known 0) asked) cs i [] h zeros in
          spread_byte f cs (raised k l) i h
          ∙ ap (λ (b : RowByte). answered b (get_or (raised k l) (asking f cs i) 0)) z
          ∙ at i h (satisfied_by u (get_or cs i [])) refl z
          ∙ sym (rw (masks_at i, satisfied_masks u (get_or cs i []), open_asking u f cs s i (omega arith)) refl)
