-- How long the whole print is, and that no call that it makes says spent.
use Prim.Native.Nat.{ℕ, zero, suc, ◌+◌, ◌*◌, ◌^◌, ◌≤◌, ◌<◌}
use mathlib.Core.List.{List, [], ◌++◌, map}
use mathlib.Core.Logic.{◌⊎◌, inl, inr}
use mathlib.Core.Path.{◌≡◌, refl, ap, ◌∙◌}
use native.Mathlib.Nat.{mul-le-mul}
use native.Mathlib.Omega.{arith}
use lib.ListN.{length, replicate, length-append}
use Rattle.limits.specs.Limits.{max_variables}
use Rattle.formula.specs.declared.Refusal.{Refusal}
use Rattle.formula.specs.declared.Refusal.TheVariants.{Unmatched}
use Rattle.formula.specs.InnerDecode.{decode}
use Rattle.formula.specs.Decoding.{readable, refused}
use Rattle.formula.specs.Format.{Literal, Encodes}
use Rattle.formula.specs.Refusals.{table_row}
use Rattle.formula.specs.Table.{Beginning, written, Given, no_kind, kind_unknown, kind_misplaced, no_body, count_bad, variable_unknown, literal_complementary, clause_extra, byte_extra}
use Rattle.formula.proofs.Demands.{accepted_only, accepted_all, accepted_fits, refused_only, numbers}
use Rattle.assumptions.proofs.Demands.{literals_are, no_assumptions, none_bad}
use Rattle.matching.proofs.SelectedLaws.{selected_few}
use Rattle.splitting.specs.Nodes.{remaining}
use Rattle.matched.specs.Acceptance.{Acceptance, accepted, declined, acceptance}
use Rattle.matched.specs.Pairing.{Pairs, left_of, marked}
use Rattle.matched.proofs.AcceptanceLaws.{FormulaComes, paired, strips, unpaired, AcceptedInput, Comes, of_formula, bad_assumed, unreadable, comes, accepted_is, left_accepted}
use Rattle.walk.specs.Task.{Task, under, to_assign, visible, Posed}
use Rattle.walk.specs.Checkpoints.{Checkpoint}
use Rattle.walk.specs.PlainMachine.{Answer, found, spent, ended, plain_call, plain_calls, state_after}
use Rattle.walk.specs.WalkCall.{walk_call}
use Rattle.walk.specs.InnerLocate.{task_call}
use Rattle.walk.specs.Results.{says_model, says_ended, answer_kind, plain_result}
use Rattle.walk.specs.Gaps.{ample_budget, gap_after, gaps_from, gaps, PacedLater, Paced}
use Rattle.walk.proofs.Demands.{demand_3, under_most, paced_sharper}
use Rattle.walk.proofs.TaskLaws.{call_plain, last_plain}
use Rattle.walk.proofs.RefusalLaws.{accepted_posed, call_accepted}
use Rattle.printing.specs.Printing.{max_input, max_model_line, max_print}
use Rattle.printing.specs.Printed.{header, model_line, more_line, refused_line, refusal_line, call_lines, max_models, walk_lines, acceptance_lines, printed}
use Rattle.printing.proofs.LineLaws.{header-length, model_line-length, end_line-length, refused_line-length}

-- ---- the lines of a walk

-- m variables to assign of at most 48, at most B expansions for one assignment
module _ (T : Task) (m B : ℕ) (few : T.variables ≤ max_variables) (fewer : m ≤ max_variables) (cheap : m * B < 10 ^ 7) where
  -- the walk calls from k entries behind, j of them on a line's budget
  abbrev from : ℕ → ℕ → List Literal → Type 0
  from j k x = PacedLater m B x (gaps (map (plain_result T) (plain_calls T k (replicate j ample_budget))))

  -- after a model
  later_short : (j k : ℕ) (x : List Literal) → from j k x → length (walk_lines T j k) ≤ max_model_line * j + length more_line
  unfolding walk_lines plain_calls gaps_from
  later_short zero k x p = omega arith
  later_short (suc j) k x p =
      let c = plain_call T ample_budget k in
      go c.answer c.steps c.expansions c.behind _ p (later_short j c.behind)
    where
      go : (a : Answer) (s e b : ℕ) (y : List Literal)
          → PacedLater m B x (gap_after (answer_kind a) (0 + s) (0 + e) y (λ c' e'. gaps_from c' e' (map (plain_result T) (plain_calls T b (replicate j ample_budget)))))
          → ((z : List Literal) → from j b z → length (walk_lines T j b) ≤ max_model_line * j + length more_line)
          → length (call_lines T.variables (visible T) a s e (walk_lines T j b)) ≤ max_model_line * suc j + length more_line
      go (found a) s e b y p ih =
          let i = ih y p.3 in
          let l = model_line-length T.variables (visible T) a s e few (omega (arith, p.1)) (omega (arith, p.2)) in
          rw (length-append (model_line T.variables (visible T) a s e) (walk_lines T j b)) (omega arith)
      go spent s e b y p ih = omega arith
      go ended s e b y p ih = let l = end_line-length s e (omega (arith, p.0)) (omega (arith, p.1)) in omega arith

  -- from the start
  first_short : (j k : ℕ) → Paced m B (gaps (map (plain_result T) (plain_calls T k (replicate j ample_budget)))) → length (walk_lines T j k) ≤ max_model_line * j + length more_line
  unfolding walk_lines plain_calls gaps_from
  first_short zero k p = omega arith
  first_short (suc j) k p =
      let c = plain_call T ample_budget k in
      go c.answer c.steps c.expansions c.behind _ p
    where
      go : (a : Answer) (s e b : ℕ) (y : List Literal)
          → Paced m B (gap_after (answer_kind a) (0 + s) (0 + e) y (λ c' e'. gaps_from c' e' (map (plain_result T) (plain_calls T b (replicate j ample_budget)))))
          → length (call_lines T.variables (visible T) a s e (walk_lines T j b)) ≤ max_model_line * suc j + length more_line
      go (found a) s e b y p =
          let i = later_short j b y p.2 in
          let l = model_line-length T.variables (visible T) a s e few (omega (arith, p.0)) (omega (arith, p.1)) in
          rw (length-append (model_line T.variables (visible T) a s e) (walk_lines T j b)) (omega arith)
      go spent s e b y p = omega arith
      go ended s e b y p = absurd p

-- ---- the whole

-- the bound s × s × n × (n + 1) is at most 5,419,008, for s and n up to 48
cost : (s n : ℕ) → s ≤ max_variables → n ≤ max_variables → s * (s * (n * suc n)) ≤ 5419008
cost s n h k = let l : suc n ≤ 49 = omega arith in let c = mul-le-mul h (mul-le-mul h (mul-le-mul k l)) in omega arith

walk_short : (s : List ℕ) (n : ℕ) (cs : List (List Literal)) (row : List ℕ) (w : AcceptedInput s [] n [] cs row) (j : ℕ)
    → length (walk_lines (under n [] cs) j 0) ≤ max_model_line * j + length more_line
walk_short s n cs row w j =
    let z = w.sized in
    let T = under n [] cs in
    let e = accepted_only s n cs w.reads in
    let t = under_most s [] n cs e (none_bad n) w.vs w.pairs in
    let c = cost (to_assign T) n (omega (arith, z.most)) z.most in
    let bs = replicate j ample_budget in
    let d = (demand_3 s [] n cs e (none_bad n) w.vs w.pairs bs).plain in
    let p = paced_sharper s [] n cs e (none_bad n) w.vs w.pairs bs in
    first_short T (to_assign T) (to_assign T * (n * suc n)) z.most (omega (arith, z.most)) (omega arith) j 0 (rw d at p)

-- a refusal's place is within the input
place_le : {len at : ℕ} {b : Beginning} {s : List ℕ} {r : Refusal} → Given len at b s r → len ≡ at + length s → (table_row r).place ≤ len
place_le no_kind h = omega arith
place_le (kind_unknown k o) h = omega arith
place_le (kind_misplaced k l m o) h = omega arith
place_le (no_body k m l) h = omega arith
place_le (count_bad n o) h = omega arith
place_le (variable_unknown n sign v o) h = omega arith
place_le (literal_complementary n sign v l m o) h = omega arith
place_le (clause_extra cs l) h = omega arith
place_le (byte_extra x s) h = omega arith

refused_short : (s : List ℕ) (r : Refusal) → decode s ≡ refused r → length s ≤ max_input → length (refused_line (table_row r).number (table_row r).place) ≤ 17
refused_short s r e h =
    let w = refused_only s r e in
    let p = place_le w.given (ap length w.bytes ∙ length-append (written w.before) w.rest) in
    refused_line-length (table_row r).number (table_row r).place (omega (arith, (numbers s r e).1)) (omega arith)

-- the line of a refused input
pub declined_short : (s : List ℕ) (r : Refusal) (row : List ℕ) → acceptance s [] ≡ declined r row → length s ≤ max_input → length (refusal_line r) ≤ 17
declined_short s r row d h = by (comes s []) d
  where
    of : (n : ℕ) (t : List Literal) (cs : List (List Literal)) → decode s ≡ readable n cs → {a : Acceptance} → FormulaComes n t cs a → a ≡ declined r row
        → length (refusal_line r) ≤ 17
    of n t cs reads (paired vs w) q = let z : ◌≡◌ {A = ℕ} 0 1 = cc in absurd (omega arith)
    of n t cs reads (strips vs none w) q = let z : ◌≡◌ {A = ℕ} 0 1 = cc in absurd (omega arith)
    of n t cs reads (unpaired ms v none) q =
        let e : Unmatched (length (marked ms cs)) ≡ r = cc in
        let f = (accepted_fits s n cs reads).few in
        let k = selected_few ms cs in
        rw (← e) (refused_line-length 10 (length (marked ms cs)) (omega arith) (omega arith))

    by : {a : Acceptance} → Comes s [] a → a ≡ declined r row → length (refusal_line r) ≤ 17
    by (of_formula n t cs reads assumes f) q = of n t cs reads f q
    by (bad_assumed n cs i reads assumes) q = let z : ◌≡◌ {A = ℕ} 0 1 = cc (no_assumptions n) in absurd (omega arith)
    by (unreadable t reads) q = let e : t ≡ r = cc in rw (← e) (refused_short s t reads h)

-- the most bytes that are printed, 60,026
pub printed-length : (s : List ℕ) → length s ≤ max_input → length (printed s) ≤ max_print
unfolding printed
printed-length s h = go (acceptance s []) refl
  where
    walked : (n : ℕ) (cs : List (List Literal)) (row : List ℕ) → AcceptedInput s [] n [] cs row → length (header n (length cs) ++ walk_lines (under n [] cs) max_models 0) ≤ max_print
    walked n cs row w =
        let z = w.sized in
        let a = header-length n (length cs) (omega (arith, z.most)) (omega (arith, z.few)) in
        let b = walk_short s n cs row w max_models in
        rw (length-append (header n (length cs)) (walk_lines (under n [] cs) max_models 0)) (omega arith)

    go : (a : Acceptance) → acceptance s [] ≡ a → length (acceptance_lines a) ≤ max_print
    go (accepted n t cs row) e =
        let a = accepted_is s [] n t cs row e in
        let q : t ≡ [] = literals_are n [] t a.assumes in
        rw q (walked n cs row (rw q at a))
    go (declined r row) e = omega (arith, declined_short s r row e h)

-- ---- no call of the print says spent

not_spent : (a : Answer) → (answer_kind a ≡ says_model) ⊎ (answer_kind a ≡ says_ended) → a ≡ spent → ⊥
not_spent a (inl h) e = let z : ◌≡◌ {A = ℕ} 0 1 = cc in omega arith
not_spent a (inr h) e = let z : ◌≡◌ {A = ℕ} 0 1 = cc in omega arith

-- after j calls on an ample budget, the next one on it brings a model or the end
pub never_spent : (s : List ℕ) (n : ℕ) (cs : List (List Literal)) (vs : List ℕ) → Encodes s n cs → Pairs (left_of n [] cs) vs → (j : ℕ)
    → (plain_call (under n [] cs) ample_budget (state_after (under n [] cs) 0 (replicate j ample_budget))).answer ≡ spent → ⊥
unfolding remaining
never_spent s n cs vs e w j =
    not_spent (plain_call T ample_budget (state_after T 0 bs)).answer
    (rw (call_plain s [] T P walks bs ample_budget) at (rw (last_plain s [] T P walks bs) at ((demand_3 s [] n cs e (none_bad n) vs w bs).ample ample_budget (omega arith))))
  where
    bs : List ℕ
    bs = replicate j ample_budget

    T : Task
    T = under n [] cs

    a : (row : List ℕ) × (acceptance s [] ≡ accepted n [] cs row)
    a = left_accepted s [] n [] cs (accepted_all s n cs e) (no_assumptions n) vs w

    P : Posed (under n [] cs)
    P = accepted_posed s [] n [] cs a.0 a.1

    walks : (c : Checkpoint) (b : ℕ) → walk_call s [] c b ≡ task_call (under n [] cs) c b
    walks = call_accepted s [] n [] cs a.0 a.1
