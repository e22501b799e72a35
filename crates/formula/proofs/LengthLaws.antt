-- The length of an encoded formula: the most bytes without repeats, and no bound with them.
use Prim.Native.Nat.{ℕ, zero, suc, ◌+◌, ◌*◌, ◌≤◌, ◌<◌}
use mathlib.Core.Bool.{true, false, and-false}
use mathlib.Core.List.{List, [], ◌∷◌, map}
use mathlib.Core.Path.{◌≡◌, refl, ap, ◌∙◌}
use native.Mathlib.Omega.{arith}
use borrow.Author.Tests.{ne_eqb}
use lib.Dec.{eqb}
use lib.ListN.{length, length-append, replicate, length-replicate}
use Rattle.limits.specs.Limits.{max_variables, max_clauses}
use Rattle.lists.specs.Every.{Every}
use Rattle.lists.proofs.EveryLaws.{every_replicate}
use Rattle.masks.specs.Mask.{members}
use Rattle.masks.proofs.MembersLaws.{members_le}
use Rattle.masks.proofs.SizeLaws.{with_count, size_none}
use Rattle.formula.specs.Format.{Literal, literal_bytes, literals_bytes, clause_bytes, clauses_bytes, formula_bytes, names, names_as, distinct, ClauseOver, Sized, without_repeats, WrittenSized, max_clause_bytes, max_bytes, Encodes}
use Rattle.formula.specs.Masked.{variables}
use Rattle.formula.proofs.ClauseLaws.{variables-bit}
use Rattle.formula.proofs.FormatLaws.{distinct_rest}
use Rattle.formula.proofs.RepeatLaws.{read_length}

-- a clause over n variables with none twice has a literal for each member
variables_count : (n : ℕ) (c : List Literal) → Every (λ l. l.variable < n) c → distinct c ≡ true → length (members (variables c) n) ≡ length c
unfolding variables
variables_count n [] h o = size_none n
variables_count n (l ∷ c) h o =
    let a = distinct_rest l c o in
    with_count (variables c) l.variable n (variables-bit c l.variable ∙ a.0) h.0 ∙ ap suc (variables_count n c h.1 a.1)

-- so it has n literals at most
pub clause_le : {n : ℕ} {c : List Literal} → ClauseOver n c → length c ≤ n
clause_le {n} {c} o = omega (arith, variables_count n c o.below o.once, members_le (variables c) n)

-- a literal has two bytes
pub literals_length : (c : List Literal) → length (literals_bytes c) ≡ 2 * length c
unfolding literals_bytes literal_bytes
literals_length [] = refl
literals_length (l ∷ c) = omega (arith, literals_length c)

-- a clause has one byte more
pub clause_length : (c : List Literal) → length (clause_bytes c) ≡ 2 * length c + 1
unfolding clause_bytes
clause_length c = length-append (literals_bytes c) (4 ∷ []) ∙ ap (λ (k : ℕ). k + 1) (literals_length c)

-- a formula has three bytes more than its clauses
pub formula_length : (n : ℕ) (cs : List (List Literal)) → length (formula_bytes n cs) ≡ length (clauses_bytes cs) + 3
unfolding formula_bytes
formula_length n cs = omega (arith, length-append (clauses_bytes cs) (5 ∷ []))

-- clauses over the most variables or fewer have so many bytes each at most
pub clauses_le : (n : ℕ) (cs : List (List Literal)) → n ≤ max_variables → Every (ClauseOver n) cs → length (clauses_bytes cs) ≤ max_clause_bytes * length cs
unfolding clauses_bytes
clauses_le n [] h k = omega arith
clauses_le n (c ∷ cs) h k =
    omega (arith, length-append (clause_bytes c) (clauses_bytes cs), clause_length c, clause_le k.0, clauses_le n cs h k.1)

-- and a formula within the limits so many
pub formula_le : {n : ℕ} {cs : List (List Literal)} → Sized n cs → length (formula_bytes n cs) ≤ max_bytes
formula_le {n} {cs} z = omega (arith, formula_length n cs, clauses_le n cs z.most z.clauses, z.few)

-- what is read has no more bytes than what was written
read_le : (ws : List (List Literal)) → length (clauses_bytes (map without_repeats ws)) ≤ length (clauses_bytes ws)
unfolding clauses_bytes
read_le [] = omega arith
read_le (w ∷ ws) =
    omega (
      arith,
      length-append (clause_bytes (without_repeats w)) (clauses_bytes (map without_repeats ws)),
      length-append (clause_bytes w) (clauses_bytes ws),
      clause_length (without_repeats w),
      clause_length w,
      read_length w,
      read_le ws,
    )

-- so no bytes of a formula are fewer than its own
pub encoded_le : {s : List ℕ} {n : ℕ} {cs : List (List Literal)} → Encodes s n cs → length (formula_bytes n cs) ≤ length s
encoded_le {s} {n} {cs} e =
    omega (
      arith,
      ap length e.bytes,
      formula_length n cs,
      formula_length n e.written,
      ap (λ (ds : List (List Literal)). length (clauses_bytes ds)) e.read,
      read_le e.written,
    )

-- the clause that names each variable below n as true
all_true : ℕ → List Literal
all_true zero = []
all_true (suc n) = record { variable = n; positive = true } ∷ all_true n

all_true_length : (n : ℕ) → length (all_true n) ≡ n
unfolding all_true
all_true_length zero = refl
all_true_length (suc n) = ap suc (all_true_length n)

all_true_below : (n m : ℕ) → n ≤ m → Every (λ l. l.variable < m) (all_true n)
unfolding all_true
all_true_below zero m h = tt
all_true_below (suc n) m h = (h, all_true_below n m (omega arith))

all_true_names : (n v : ℕ) → n ≤ v → names (all_true n) v ≡ false
unfolding all_true names
all_true_names zero v h = refl
all_true_names (suc n) v h = rw (ne_eqb n v (omega arith), all_true_names n v (omega arith))

all_true_once : (n : ℕ) → distinct (all_true n) ≡ true
unfolding all_true distinct
all_true_once zero = refl
all_true_once (suc n) = rw (all_true_names n n (omega arith), all_true_once n)

-- the most clauses, each of which names the most variables
pub fullest : List (List Literal)
fullest = replicate max_clauses (all_true max_variables)

-- each has the most bytes
all_true_clauses : (k : ℕ) → length (clauses_bytes (replicate k (all_true max_variables))) ≡ max_clause_bytes * k
unfolding clauses_bytes
all_true_clauses zero = refl
all_true_clauses (suc k) =
    omega (
      arith,
      length-append (clause_bytes (all_true max_variables)) (clauses_bytes (replicate k (all_true max_variables))),
      clause_length (all_true max_variables),
      all_true_length max_variables,
      all_true_clauses k,
    )

-- and so have they together
pub fullest_length : length (formula_bytes max_variables fullest) ≡ max_bytes
unfolding fullest
fullest_length = omega (arith, formula_length max_variables fullest, all_true_clauses max_clauses)

-- and are a formula within the limits
pub fullest_sized : Sized max_variables fullest
unfolding fullest
fullest_sized =
    record {
      some = omega arith;
      most = omega arith;
      few = omega (arith, length-replicate max_clauses (all_true max_variables));
      clauses = every_replicate (ClauseOver max_variables) max_clauses (all_true max_variables) (record { below = all_true_below max_variables max_variables (omega arith); once = all_true_once max_variables });
    }

-- ---- an input of any length

first_true : Literal
first_true = record { variable = 0; positive = true }

-- one literal k times, in one clause
pub repeated : ℕ → List (List Literal)
repeated k = replicate k first_true ∷ []

-- it is never named the other way
repeated_one_way : (k v : ℕ) → names_as (replicate k first_true) v false ≡ false
unfolding names_as first_true
repeated_one_way zero v = refl
repeated_one_way (suc k) v = rw (and-false (eqb 0 v)) (repeated_one_way k v)

-- so it may be written
pub repeated_sized : (k : ℕ) → WrittenSized 1 (repeated k)
unfolding repeated first_true
repeated_sized k =
    record {
      some = omega arith;
      most = omega arith;
      few = omega arith;
      clauses = (record { below = every_replicate (λ l. l.variable < 1) k first_true (omega arith); one_way = λ v. rw (repeated_one_way k v) (and-false (names_as (replicate k first_true) v true)) }, tt);
    }

-- and has more than k bytes
pub repeated_length : (k : ℕ) → k < length (formula_bytes 1 (repeated k))
unfolding repeated clauses_bytes
repeated_length k =
    let n : length (replicate k first_true) ≡ k = length-replicate k first_true in
    omega (arith, formula_length 1 (repeated k), length-append (clause_bytes (replicate k first_true)) [], clause_length (replicate k first_true))
