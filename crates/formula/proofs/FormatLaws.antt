-- Laws of the grammar: bytes one after the other, what clauses name, and one more literal of a new variable.
use Prim.Native.Nat.{ℕ, ◌<◌}
use mathlib.Core.Bool.{Bool, true, false, not, ◌&&◌, ◌||◌, beq, or_assoc, or-true, and-eq-true_iff}
use mathlib.Core.List.{List, [], ◌∷◌, ◌++◌, append_assoc}
use mathlib.Core.Path.{◌≡◌, refl, sym, ◌∙◌}
use borrow.Author.Tests.{not-true, eq-eqb}
use lib.Dec.{eqb}
use Rattle.lists.proofs.EveryLaws.{every_append}
use Rattle.lists.proofs.TestLaws.{or-none, eqb_comm, sign_itself}
use Rattle.formula.specs.Format.{Literal, literals_bytes, clauses_bytes, names, names_as, distinct, ClauseOver}

-- the literals of two lists are written one list after the other
pub literals_append : (c d : List Literal) → literals_bytes (c ++ d) ≡ literals_bytes c ++ literals_bytes d
unfolding literals_bytes
literals_append [] d = refl
literals_append (l ∷ c) d = rw (literals_append c d, append_assoc)

-- and so are the clauses
pub clauses_append : (cs ds : List (List Literal)) → clauses_bytes (cs ++ ds) ≡ clauses_bytes cs ++ clauses_bytes ds
unfolding clauses_bytes
clauses_append [] ds = refl
clauses_append (c ∷ cs) ds = rw (clauses_append cs ds, append_assoc)

-- a variable is named by a part or by the other
pub names-append : (c d : List Literal) (v : ℕ) → names (c ++ d) v ≡ names c v || names d v
unfolding names
names-append [] d v = refl
names-append (l ∷ c) d v = rw (names-append c d v, or_assoc)

-- a variable is named this way by a part or by the other
pub names_as-append : (c d : List Literal) (v : ℕ) (sign : Bool) → names_as (c ++ d) v sign ≡ names_as c v sign || names_as d v sign
unfolding names_as
names_as-append [] d v sign = refl
names_as-append (l ∷ c) d v sign = rw (names_as-append c d v sign, or_assoc)

-- a variable that is named is named this way or the other
pub names_either : (c : List Literal) (v : ℕ) (sign : Bool) → names c v ≡ names_as c v sign || names_as c v (not sign)
unfolding names names_as
names_either [] v sign = refl
names_either (l ∷ c) v sign =
    rw (names_either c v sign) (go (eqb l.variable v) l.positive sign (names_as c v sign) (names_as c v (not sign)))
  where
    go : (e p s x y : Bool) → e || (x || y) ≡ (e && beq p s || x) || (e && beq p (not s) || y)
    go false p s x y = refl
    go true true true x y = refl
    go true false false x y = refl
    go true true false x y = sym (or-true x)
    go true false true x y = sym (or-true x)

-- a literal names its own variable its own way
pub names_own : (l : Literal) (c : List Literal) → names_as (l ∷ c) l.variable l.positive ≡ true
unfolding names_as
names_own l c = rw (eq-eqb l.variable l.variable refl, sign_itself l.positive)

-- in a clause with no variable twice the first variable is not named again, and the rest has none twice
pub distinct_rest : (l : Literal) (c : List Literal) → distinct (l ∷ c) ≡ true → (names c l.variable ≡ false) × (distinct c ≡ true)
unfolding distinct
distinct_rest l c h =
    let a : (not (names c l.variable) ≡ true) × (distinct c ≡ true) = (and-eq-true_iff (not (names c l.variable)) (distinct c)).0 h in
    (not-true (names c l.variable) a.0, a.1)

-- a clause with no variable twice, and one more variable, has none twice
pub distinct_more : (c : List Literal) (l : Literal) → distinct c ≡ true → names c l.variable ≡ false → distinct (c ++ (l ∷ [])) ≡ true
unfolding distinct names
distinct_more [] l h k = refl
distinct_more (x ∷ c) l h k =
    let a = distinct_rest x c h in
    let b = or-none (eqb x.variable l.variable) (names c l.variable) k in
    rw (distinct_more c l a.1 b.1, names-append c (l ∷ []) x.variable, a.0, eqb_comm l.variable x.variable, b.0)

-- in a clause with no variable twice a variable is not named before its literal
pub distinct_fresh : (c : List Literal) (l : Literal) (d : List Literal) → distinct (c ++ (l ∷ d)) ≡ true → names c l.variable ≡ false
unfolding names
distinct_fresh [] l d h = refl
distinct_fresh (x ∷ c) l d h =
    let a = distinct_rest x (c ++ (l ∷ d)) h in
    let b = or-none (names c x.variable) (eqb l.variable x.variable || names d x.variable) (sym (names-append c (l ∷ d) x.variable) ∙ a.0) in
    let e = or-none (eqb l.variable x.variable) (names d x.variable) b.1 in
    rw (eqb_comm x.variable l.variable, e.0, distinct_fresh c l d a.1)

-- one more literal, of a variable below n that the clause has not named
pub clause_more : {n : ℕ} {c : List Literal} (l : Literal) → ClauseOver n c → l.variable < n → names c l.variable ≡ false → ClauseOver n (c ++ (l ∷ []))
clause_more {n} {c} l o h k =
    record { below = every_append (λ m. m.variable < n) c (l ∷ []) o.below (h, tt); once = distinct_more c l o.once k }
