-- Laws of waits: of literals and of what two trails share, and of the tally, call by call.
use Rattle.std.specs.Prelude as std
use Rattle.std.proofs.Common.{Ok, Err, ℕ, suc, ◌+◌, ◌*◌, ◌-◌, ◌/◌, ◌<◌, ◌≤◌, Bool, true, false, cond, ◌&&◌, ◌||◌, List, [], ◌∷◌, map, length, take, zip, Option, None, Some, min, ◌≡◌, refl, sym, ap, ◌∙◌, arith, add-zero}
use Rattle.std.proofs.lemmas.List.{length-map}
use lib.Seq.{take_all}
use Rattle.std.specs.List.{take_while}
use Rattle.std.proofs.lemmas.List.Sums.{take_while-cons}
use borrow.Author.Tests.{leb-true, leb-false}
use mathlib.Core.Bool.{and-true, and_assoc}
use borrow.Table.Steps.{cases}
use lib.Dec.{eqb, leb}
use Rattle.formula.specs.declared.Refusal.{Refusal}
use Rattle.formula.specs.Format.{Literal}
use Rattle.assumptions.specs.declared.Assumption.{Assumption}
use Rattle.walk.specs.Checkpoints as walk
use Rattle.walk.specs.Checkpoints.{byte_number, byte_literal}
use Rattle.walk.specs.Gaps.{Gap, to_model, to_end, so_far, gap_after, gaps_from, gaps, same_literal, shared}
use Rattle.walk.specs.WalkCall.{walk_call, walk_calls}
use Rattle.walk.proofs.RefusalLaws.{call_steps}
use Rattle.walk.specs.Results.{AnswerKind, says_model, says_spent, says_ended, says_refused, Result, refusing}
use Rattle.enumeration.specs.declared.steps.Answer.{Answer}
use Rattle.enumeration.specs.declared.steps.Answer.TheVariants.{Model, Spent, Ended}
use Rattle.enumeration.specs.declared.calls.Walked.{Walked}
use Rattle.enumeration.specs.Values.{checkpoint_values, answer_values, walked_values, call_values}
use Rattle.vectors.specs.Corpus.{Parts, four_bytes}
use Rattle.cases.specs.declared.waiting.Waits.{Waits}
use Rattle.cases.specs.Assuming.{assumptions_of}
use Rattle.cases.specs.Waiting.{shared_bytes, budgets_from, budgets_of, due, may_end, most, waits_hold, closed, calls_of, waits_agree, checkpoint_trail, last_trail, Tallied, tallied_in, tallied_on, tallied, NoneYet, AfterCall, calls_left}

-- ---- trails

-- the bytes of a trail: those before its length, and so all before the least of this and of how many there are
pub trail_bytes : (s : List ℕ) (n m r : ℕ) → r ≡ min n m → length s ≡ m → take r s ≡ take n s
trail_bytes s n m r e l =
    cases (leb n m)
    (λ t. let h : n ≤ m = leb-true n m t in let d : r ≡ n = omega arith in rw d)
    (λ f.
    let h : m < n = leb-false n m f in
    take_all r s (omega arith) ∙ sym (take_all n s (omega arith)))

-- what two trails share, byte by byte
pub shared_zip : (x y : List ℕ) → shared_bytes x y ≡ shared (map byte_literal x) (map byte_literal y)
unfolding shared
shared_zip [] y = refl
shared_zip (a ∷ x) [] = refl
shared_zip (a ∷ x) (b ∷ y) =
    rw (take_while-cons (λ (p : ℕ × ℕ). same_literal (byte_literal p.0) (byte_literal p.1)) (a, b) (zip x y))
    (by (same_literal (byte_literal a) (byte_literal b)) (shared_zip x y))
  where
    by :
        (s : Bool) →
        shared_bytes x y ≡ shared (map byte_literal x) (map byte_literal y) →
        length (cond s ((a, b) ∷ take_while (λ (p : ℕ × ℕ). same_literal (byte_literal p.0) (byte_literal p.1)) (zip x y)) [])
        ≡ cond s (suc (shared (map byte_literal x) (map byte_literal y))) 0
    by true e = ap suc e
    by false e = refl

-- no more than the later one has
pub shared_le : (x y : List Literal) → shared x y ≤ length y
unfolding shared
shared_le [] y = omega arith
shared_le (l ∷ x) [] = omega arith
shared_le (l ∷ x) (m ∷ y) = by (same_literal l m) (shared_le x y)
  where
    by : (s : Bool) → shared x y ≤ length y → cond s (suc (shared x y)) 0 ≤ suc (length y)
    by true h = omega arith
    by false h = omega arith

-- the steps that are due to a later model, in bytes
pub due_later : (x y : List ℕ) (X Y : List Literal) → map byte_literal x ≡ X → map byte_literal y ≡ Y → 2 * (length y - shared_bytes x y) ≡ due (Some X) Y
due_later x y X Y e f = rw (← e, ← f, shared_zip x y, length-map y byte_literal)

pub shared_few : (x y : List ℕ) → shared_bytes x y ≤ length y
shared_few x y = rw (shared_zip x y) (omega (arith, shared_le (map byte_literal x) (map byte_literal y), length-map y byte_literal))

-- ---- the tally

-- expansions do not matter to what is told of gaps
module _
    {A : Type 0} (f : List Gap → A)
    (model : (c e d : ℕ) (y : List Literal) (gs : List Gap) → f (to_model c e y ∷ gs) ≡ f (to_model c d y ∷ gs))
    (end : (c e d : ℕ) → f (to_end c e ∷ []) ≡ f (to_end c d ∷ []))
    (far : (c e d : ℕ) → f (so_far c e ∷ []) ≡ f (so_far c d ∷ [])) where
  unexpanded : (rs : List Result) (c e d : ℕ) → f (gaps_from c e rs) ≡ f (gaps_from c d rs)
  unfolding gaps_from
  unexpanded [] c e d = far c e d
  unexpanded (r ∷ rs) c e d = by r.kind (unexpanded rs _ _ _)
    where
      by :
          (k : AnswerKind)
          → f (gaps_from (c + r.steps) (e + r.expansions) rs) ≡ f (gaps_from (c + r.steps) (d + r.expansions) rs)
          → f (gap_after k (c + r.steps) (e + r.expansions) (walk.trail_in r.checkpoint) (λ c' e'. gaps_from c' e' rs))
          ≡ f (gap_after k (c + r.steps) (d + r.expansions) (walk.trail_in r.checkpoint) (λ c' e'. gaps_from c' e' rs))
      by says_model h = model _ _ _ _ _
      by says_spent h = h
      by says_ended h = end _ _ _
      by says_refused h = h

waits_unexpanded : (x : Option (List Literal)) (rs : List Result) (c e d : ℕ) → waits_hold x (gaps_from c e rs) ≡ waits_hold x (gaps_from c d rs)
unfolding waits_hold
waits_unexpanded x = unexpanded (waits_hold x) (λ c e d y gs. refl) (λ c e d. refl) (λ c e d. refl)

closed_unexpanded : (rs : List Result) (c e d : ℕ) → closed (gaps_from c e rs) ≡ closed (gaps_from c d rs)
unfolding closed
closed_unexpanded = unexpanded closed (λ c e d y gs. refl) (λ c e d. refl) (λ c e d. refl)

-- what is tallied from the same parts is the same
same_tallied : {a b : Bool} {m n : ℕ} → a ≡ b → m ≡ n → ◌≡◌ {A = Tallied} (record { right = a; closed = m }) (record { right = b; closed = n })
same_tallied p q = rw (p, q)

-- from the start
pub tallied-first : (rs : List Result) → tallied_on false None 0 0 true rs ≡ tallied_in rs
unfolding tallied_on
tallied-first rs = same_tallied refl (omega arith)

module _ (x : Option (List Literal)) (c m : ℕ) (right : Bool) (r : Result) (rs : List Result) where
  -- a call that brings a model
  tallied_model :
      r.kind ≡ says_model
      → tallied_on false (Some (walk.trail_in r.checkpoint)) 0 (m + 1) (right && eqb (c + r.steps) (due x (walk.trail_in r.checkpoint))) rs
      ≡ tallied_on false x c m right (r ∷ rs)
  unfolding tallied_on gaps_from closed waits_hold
  tallied_model e = rw e (same_tallied (and_assoc right _ _) (omega arith))

  -- one that brings the end, whatever steps are told after it
  tallied_end :
      (k : ℕ) → r.kind ≡ says_ended
      → tallied_on true x k (m + 1) (right && may_end x (c + r.steps)) rs ≡ tallied_on false x c m right (r ∷ rs)
  unfolding tallied_on gaps_from closed waits_hold
  tallied_end k e = rw e (same_tallied (ap (λ (z : Bool). right && z) (sym (and-true _))) (omega arith))

  -- one that brings neither: the expansions e do not matter
  neither :
      (e : ℕ)
      → tallied_on false x (c + r.steps) m right rs
      ≡ record { right = right && waits_hold x (gaps_from (c + r.steps) e rs); closed = m + closed (gaps_from (c + r.steps) e rs) }
  unfolding tallied_on
  neither e =
      same_tallied
      (ap (λ (z : Bool). right && z) (waits_unexpanded x rs (c + r.steps) 0 e))
      (ap (λ (k : ℕ). m + k) (closed_unexpanded rs (c + r.steps) 0 e))

  tallied_spent : r.kind ≡ says_spent → tallied_on false x (c + r.steps) m right rs ≡ tallied_on false x c m right (r ∷ rs)
  unfolding tallied_on gaps_from
  tallied_spent e = rw e (neither (0 + r.expansions))

  tallied_refused : r.kind ≡ says_refused → tallied_on false x (c + r.steps) m right rs ≡ tallied_on false x c m right (r ∷ rs)
  unfolding tallied_on gaps_from
  tallied_refused e = rw e (neither (0 + r.expansions))

  -- after the end calls change nothing
  tallied_ended : (k : ℕ) → tallied_on true x k m right rs ≡ tallied_on true x c m right (r ∷ rs)
  unfolding tallied_on
  tallied_ended k = refl

-- where no calls are left: the waits that are over, and the one that is not
closed-tallied : (ended : Bool) (x : Option (List Literal)) (c m : ℕ) (right : Bool) → (tallied_on ended x c m right []).closed ≡ m
unfolding tallied_on gaps_from closed
closed-tallied true x c m right = refl
closed-tallied false x c m right = omega arith

pub right-tallied :
    (ended : Bool) (x : Option (List Literal)) (c m : ℕ) (right : Bool) →
    right && (ended || leb c (most x)) ≡ (tallied_on ended x c m right []).right
unfolding tallied_on gaps_from waits_hold
right-tallied true x c m right = and-true right
right-tallied false x c m right = ap (λ (z : Bool). right && z) (sym (and-true _))

-- ---- calls

-- the values of an answer have the steps beside it
steps_kept : (q : Walked) → (walked_values q).steps ≡ q.steps
steps_kept q = by q.answer
  where
    by : (a : Answer) → (answer_values a q.steps q.expansions (checkpoint_values q.checkpoint)).steps ≡ q.steps
    by (Model a) = refl
    by Spent = refl
    by Ended = refl

checkpoint_kept : (q : Walked) → (walked_values q).checkpoint ≡ checkpoint_values q.checkpoint
checkpoint_kept q = by q.answer
  where
    by : (a : Answer) → (answer_values a q.steps q.expansions (checkpoint_values q.checkpoint)).checkpoint ≡ checkpoint_values q.checkpoint
    by (Model a) = refl
    by Spent = refl
    by Ended = refl

-- after a call that brings neither a model nor the end, or one behind the end
abbrev pub going_on : Waits → Walked → Waits
going_on w q = record w { steps = w.steps + q.steps; reached = q.checkpoint }

module _ (w : Waits) (walked : std.Result Walked Refusal) (q : Walked) (is : walked ≡ Ok q) where
  abbrev x : Option (List Literal)
  x = last_trail w.last

  abbrev given : Result
  given = call_values (checkpoint_values w.reached) walked

  -- what the call gives, by its answer
  given_is : (a : Answer) → q.answer ≡ a → given ≡ answer_values a q.steps q.expansions (checkpoint_values q.checkpoint)
  given_is a e = rw (is, e)

  given_steps : given.steps ≡ q.steps
  given_steps = rw is (steps_kept q)

  given_checkpoint : checkpoint_values q.checkpoint ≡ given.checkpoint
  given_checkpoint = rw is (sym (checkpoint_kept q))

  pub after_ended : w.ended ≡ true → AfterCall w given (going_on w q)
  after_ended e = record {
    finds = λ rs. rw e (tallied_ended x w.steps w.closed w.right given rs _);
    reached = given_checkpoint;
    steps = omega (arith, given_steps);
    closed = omega arith;
  }

  module _ (goes_on : w.ended ≡ false) where
    pub after_model :
        (a : ℕ) (right : Bool) →
        q.answer ≡ Model a →
        right ≡ w.right && eqb (w.steps + q.steps) (due x (checkpoint_trail q.checkpoint)) →
        AfterCall w given (record w { last = Some q.checkpoint; steps = 0; closed = w.closed + 1; right = right; reached = q.checkpoint })
    after_model a right e r =
        let g = given_is (Model a) e in
        rw (g, r)
        (record {
          finds = λ rs. rw goes_on (tallied_model x w.steps w.closed w.right (answer_values (Model a) q.steps q.expansions (checkpoint_values q.checkpoint)) rs refl);
          reached = refl;
          steps = omega arith;
          closed = omega arith;
        })

    pub after_end :
        (right : Bool) →
        q.answer ≡ Ended →
        right ≡ w.right && may_end x (w.steps + q.steps) →
        AfterCall w given (record w { steps = w.steps + q.steps; closed = w.closed + 1; right = right; ended = true; reached = q.checkpoint })
    after_end right e r =
        let g = given_is Ended e in
        rw (g, r)
        (record {
          finds = λ rs. rw goes_on (tallied_end x w.steps w.closed w.right (answer_values Ended q.steps q.expansions (checkpoint_values q.checkpoint)) rs _ refl);
          reached = refl;
          steps = omega arith;
          closed = omega arith;
        })

    pub after_spent : q.answer ≡ Spent → AfterCall w given (going_on w q)
    after_spent e =
        let g = given_is Spent e in
        rw g
        (record {
          finds = λ rs. rw goes_on (tallied_spent x w.steps w.closed w.right (answer_values Spent q.steps q.expansions (checkpoint_values q.checkpoint)) rs refl);
          reached = refl;
          steps = omega arith;
          closed = omega arith;
        })

-- a refused call changes nothing
refused_tallied :
    (f : Refusal) (k : walk.Checkpoint) (ended : Bool) (x : Option (List Literal)) (c m : ℕ) (right : Bool) (rs : List Result) →
    tallied_on ended x c m right rs ≡ tallied_on ended x c m right (refusing f k ∷ rs)
refused_tallied f k true x c m right rs = tallied_ended x c m right (refusing f k) rs c
refused_tallied f k false x c m right rs =
    ap (λ (n : ℕ). tallied_on false x n m right rs) (sym (add-zero c)) ∙ tallied_refused x c m right (refusing f k) rs refl

pub after_refused :
    (w : Waits) (walked : std.Result Walked Refusal) (f : Refusal) → walked ≡ Err f → AfterCall w (call_values (checkpoint_values w.reached) walked) w
after_refused w walked f is = rw is (record {
  finds = refused_tallied f (checkpoint_values w.reached) w.ended (last_trail w.last) w.steps w.closed w.right;
  reached = refl;
  steps = omega arith;
  closed = omega arith;
})

-- one call of a list of calls
tallied_next :
    (f g : List Result → Tallied) (s : List ℕ) (us : List Assumption) (from reached : walk.Checkpoint) (b : ℕ) (q : Result)
    → ((rs : List Result) → f rs ≡ g (q ∷ rs))
    → reached ≡ q.checkpoint
    → q ≡ walk_call s us from b
    → (bs : List ℕ) → f (walk_calls s us reached bs) ≡ g (walk_calls s us from (b ∷ bs))
unfolding walk_calls
tallied_next f g s us from reached b q h p e bs = h _ ∙ rw (p, e)

-- the tally of the calls that are left, after one of them
after_next :
    (v : Parts) (w r : Waits) (q : Result) (b : ℕ) →
    q ≡ walk_call v.input (assumptions_of v) (checkpoint_values w.reached) b →
    AfterCall w q r → (bs : List ℕ) → tallied r (calls_left v r bs) ≡ tallied w (calls_left v w (b ∷ bs))
after_next v w r q b e A = tallied_next (tallied r) (tallied w) v.input (assumptions_of v) _ _ b q A.finds A.reached e

-- a call makes at most as many steps as its budget
pub within_budget : (s : List ℕ) (us : List Assumption) (c : walk.Checkpoint) (b : ℕ) (q : Result) → q ≡ walk_call s us c b → q.steps ≤ b
within_budget s us c b q e = rw e (call_steps s us c b)

-- ---- budgets

-- of the budgets from number i on, the first
budgets_more : (s : List ℕ) (i n : ℕ) → i < n → budgets_from s (4 * i) (n - i) ≡ four_bytes s (4 * i) ∷ budgets_from s (4 * (i + 1)) (n - (i + 1))
unfolding budgets_from
budgets_more s i n h =
    let e : n - i ≡ suc (n - (i + 1)) = omega arith in
    let d : 4 * (i + 1) ≡ 4 * i + 4 = omega arith in
    rw (e, d)

none_left : (v : Parts) (w : Waits) (i n : ℕ) → n ≤ i → calls_left v w (budgets_from v.expected (4 * i) (n - i)) ≡ []
unfolding budgets_from walk_calls
none_left v w i n h = let e : n - i ≡ 0 = omega arith in rw e

pub first_left :
    (v : Parts) (w : Waits) → NoneYet w →
    tallied w (calls_left v w (budgets_from v.expected (4 * 0) (length v.expected / 4 - 0))) ≡ tallied_in (calls_of v)
first_left v w N =
    let e : length v.expected / 4 - 0 ≡ length v.expected / 4 = omega arith in
    rw e (N.finds _ ∙ ap (λ (c : walk.Checkpoint). tallied_in (walk_calls v.input (assumptions_of v) c (budgets_of v))) N.reached)

-- one call on, from the budget with number i of n
pub tally_more :
    (v : Parts) (w r : Waits) (q : Result) (b i n : ℕ) →
    i < n →
    b ≡ four_bytes v.expected (4 * i) →
    q ≡ walk_call v.input (assumptions_of v) (checkpoint_values w.reached) b →
    AfterCall w q r →
    tallied w (calls_left v w (budgets_from v.expected (4 * i) (n - i))) ≡ tallied_in (calls_of v) →
    tallied r (calls_left v r (budgets_from v.expected (4 * (i + 1)) (n - (i + 1)))) ≡ tallied_in (calls_of v)
tally_more v w r q b i n h f e A t =
    let m : budgets_from v.expected (4 * i) (n - i) ≡ b ∷ budgets_from v.expected (4 * (i + 1)) (n - (i + 1)) =
    budgets_more v.expected i n h ∙ ap (λ (x : ℕ). x ∷ budgets_from v.expected (4 * (i + 1)) (n - (i + 1))) (sym f) in
    after_next v w r q b e A _ ∙ ap (λ (bs : List ℕ). tallied w (calls_left v w bs)) (sym m) ∙ t

-- behind the last
pub tally_done :
    (v : Parts) (w : Waits) (i n : ℕ) → n ≤ i →
    tallied w (calls_left v w (budgets_from v.expected (4 * i) (n - i))) ≡ tallied_in (calls_of v) → tallied w [] ≡ tallied_in (calls_of v)
tally_done v w i n h t = ap (λ (rs : List Result). tallied w rs) (sym (none_left v w i n h)) ∙ t

-- the comparison is that of `waits_agree`
pub compared :
    (v : Parts) (w : Waits) (wanted : ℕ) →
    tallied w [] ≡ tallied_in (calls_of v) →
    wanted ≡ four_bytes v.fields 0 →
    (tallied w []).right && eqb w.closed wanted ≡ waits_agree v
unfolding waits_agree
compared v w wanted f e =
    let m : w.closed ≡ closed (gaps (calls_of v)) =
    sym (closed-tallied w.ended (last_trail w.last) w.steps w.closed w.right) ∙ ap (λ (x : Tallied). x.closed) f in
    rw (ap (λ (x : Tallied). x.right) f, m, e)
