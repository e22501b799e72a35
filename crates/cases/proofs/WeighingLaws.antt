-- The law of `weigh_agrees`: from what its parts give.
use Rattle.std.proofs.Common.{ℕ, ◌≡◌, ◌≤◌, ◌++◌, List, length, get_or, take, drop, replicate, arith, length-drop, length-take-le}
use Rattle.limits.specs.Limits.{max_clauses}
use Rattle.matched.specs.Weigh.{WeighedValues, weighed}
use Rattle.vectors.specs.declared.answers.Answer.{Answer}
use Rattle.vectors.specs.Answers.{expected, same_answer}
use Rattle.vectors.specs.Corpus.{Parts}
use Rattle.cases.specs.Assuming.{assumptions_of}
use Rattle.cases.specs.Weighing.{weigh_written, lent_array, weigh_agrees}

-- the marks over the first places of the array
pub lent :
    (fields marks : List ℕ) → 104 ≤ length fields →
    marks ≡ take max_clauses (drop 8 fields) →
    marks ++ drop max_clauses (replicate 256 (get_or fields 7 0)) ≡ lent_array fields
lent fields marks h e =
    let n : length (take max_clauses (drop 8 fields)) ≡ max_clauses =
    length-take-le max_clauses (drop 8 fields) (omega (arith, length-drop {A = ℕ})) in
    rw (e, n)

pub compared :
    (v : Parts) (got : Answer) (values : WeighedValues) (size : ℕ) (array : List ℕ) →
    got ≡ weigh_written values →
    values ≡ weighed v.input (assumptions_of v) (take size array) →
    size ≡ get_or v.fields 6 0 →
    array ≡ lent_array v.fields →
    same_answer (expected v.fields) got ≡ weigh_agrees v
unfolding weigh_agrees
compared v got values size array g e z a = rw (g, e, z, a)
