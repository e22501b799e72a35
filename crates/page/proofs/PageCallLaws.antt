-- The cases of the act page: what it refuses, in order, and the page that it writes.
use Prim.Native.Nat.{ℕ, ◌*◌, ◌≤◌, ◌<◌}
use mathlib.Core.Bool.{Bool, true, false, cond, ◌||◌}
use mathlib.Core.List.{List}
use mathlib.Core.Logic.{◌⊎◌, inl, inr, ⊎_elim}
use mathlib.Core.Path.{◌≡◌, refl, sym, ap, ◌∙◌}
use native.Mathlib.Omega.{arith}
use lib.Dec.{eqb, ltb}
use lib.ListN.{length, take, drop}
use lib.Seq.{take_all, take_at, drop_at}
use borrow.Author.Tests.{eqb-true, eqb-false, ltb-true, ltb-false}
use Rattle.limits.specs.Limits.{max_variables}
use Rattle.lists.proofs.OverLaws.{over_length}
use Rattle.lists.proofs.TestLaws.{or_cases, or-none}
use Rattle.formula.specs.declared.Refusal.TheVariants.{ShortPage, BadSerial}
use Rattle.assumptions.specs.declared.Assumption.{Assumption}
use Rattle.matched.specs.Acceptance.{Acceptance, accepted, declined, acceptance}
use Rattle.walk.specs.Checkpoints.{Checkpoint}
use Rattle.walk.specs.Gaps.{ample_budget}
use Rattle.walk.specs.Results.{AnswerKind, says_model, says_spent, says_ended, says_refused}
use Rattle.walk.specs.WalkCall.{walk_call}
use Rattle.walk.proofs.RefusalLaws.{accepted_posed, call_number}
use Rattle.page.specs.PageLines.{page_lines, line_size, page_size}
use Rattle.page.specs.Pages.{next_results, joined, PageCall, unfilled, refusing_page, unless_refused, accepted_variables, accepted_visible, max_serial, line_of_page, filling_page, page_call}
use Rattle.page.proofs.JoinedLaws.{Sixty, joined_length, joined_part}
use Rattle.page.proofs.LineAtLaws.{line_length}
use Rattle.page.proofs.NextLaws.{next_steps}

-- no serial is both bad and good
serial_clash : {C : Type 0} {serial : ℕ} → (serial ≡ 0) ⊎ (max_serial < serial) → 0 < serial → serial ≤ max_serial → C
serial_clash (inl e) some most = absurd (omega arith)
serial_clash (inr h) some most = absurd (omega arith)

-- an input has at most 48 variables
variables_most : (s : List ℕ) (us : List Assumption) → accepted_variables (acceptance s us) ≤ max_variables
variables_most s us = by (acceptance s us) refl
  where
    by : (x : Acceptance) → acceptance s us ≡ x → accepted_variables x ≤ max_variables
    by (accepted n t cs row) e = (accepted_posed s us n t cs row e).most
    by (declined r row) e = omega arith

module _ (s : List ℕ) (us : List Assumption) (c : Checkpoint) (serial : ℕ) where
  -- a page that is written
  module _ (most : serial ≤ max_serial) where
    -- every line has 60 bytes
    pub lines_sixty : Sixty (line_of_page s us c serial)
    lines_sixty i l = line_length (accepted_variables (acceptance s us)) (accepted_visible (acceptance s us)) (variables_most s us) serial (next_results s us c page_lines) (next_steps s us c page_lines) i (omega arith)

    lines_length : length (joined (line_of_page s us c serial) page_lines) ≡ page_size
    lines_length = joined_length (line_of_page s us c serial) lines_sixty page_lines (omega arith)

    -- line i stands in its place,
    pub filled_line : (before : List ℕ) (i : ℕ) → i < page_lines → take line_size (drop (line_size * i) (filling_page s us c serial before).page) ≡ line_of_page s us c serial i
    filled_line before i l = joined_part (line_of_page s us c serial) lines_sixty page_lines i (drop (length (joined (line_of_page s us c serial) page_lines)) before) (omega arith) l

    -- the lines are its beginning,
    pub filled_lines : (before : List ℕ) → take page_size (filling_page s us c serial before).page ≡ joined (line_of_page s us c serial) page_lines
    filled_lines before = take_at (joined (line_of_page s us c serial) page_lines) (drop (length (joined (line_of_page s us c serial) page_lines)) before) page_size lines_length

    -- and all else stays
    filled_remains : (before : List ℕ) → drop page_size (filling_page s us c serial before).page ≡ drop page_size before
    filled_remains before =
        drop_at (joined (line_of_page s us c serial) page_lines) (drop (length (joined (line_of_page s us c serial) page_lines)) before) page_size lines_length
        ∙ ap (λ (k : ℕ). drop k before) lines_length

    filled-length : (before : List ℕ) → page_size ≤ length before → length (filling_page s us c serial before).page ≡ length before
    filled-length before room = over_length (joined (line_of_page s us c serial) page_lines) before (omega (arith, lines_length))

  -- What holds of each of the four answers holds of the page call.
  module _ (before : List ℕ) (P : PageCall → Type 0)
      (short : length before < page_size → P (refusing_page (ShortPage 0) c before))
      (bad : page_size ≤ length before → (serial ≡ 0) ⊎ (max_serial < serial) → P (refusing_page (BadSerial 0) c before))
      (refused : page_size ≤ length before → 0 < serial → serial ≤ max_serial → (walk_call s us c ample_budget).kind ≡ says_refused
      → P (unfilled (walk_call s us c ample_budget).number (walk_call s us c ample_budget).place c before))
      (filled : page_size ≤ length before → 0 < serial → serial ≤ max_serial → ((walk_call s us c ample_budget).kind ≡ says_refused → ⊥)
      → P (filling_page s us c serial before)) where
    abbrev by_kind : AnswerKind → PageCall
    by_kind k = unless_refused k (unfilled (walk_call s us c ample_budget).number (walk_call s us c ample_budget).place c before) (filling_page s us c serial before)

    abbrev by_serial : Bool → PageCall
    by_serial x = cond x (refusing_page (BadSerial 0) c before) (by_kind (walk_call s us c ample_budget).kind)

    kinds : page_size ≤ length before → 0 < serial → serial ≤ max_serial → (k : AnswerKind) → (walk_call s us c ample_budget).kind ≡ k → P (by_kind k)
    kinds room some most says_model e = filled room some most (λ q. let z : ◌≡◌ {A = ℕ} 0 1 = cc in omega arith)
    kinds room some most says_spent e = filled room some most (λ q. let z : ◌≡◌ {A = ℕ} 0 1 = cc in omega arith)
    kinds room some most says_ended e = filled room some most (λ q. let z : ◌≡◌ {A = ℕ} 0 1 = cc in omega arith)
    kinds room some most says_refused e = refused room some most e

    serials : page_size ≤ length before → (x : Bool) → (eqb serial 0 || ltb max_serial serial) ≡ x → P (by_serial x)
    serials room true e = bad room (⊎_elim (λ q. inl (eqb-true serial 0 q)) (λ q. inr (ltb-true max_serial serial q)) (or_cases (eqb serial 0) (ltb max_serial serial) e))
    serials room false e =
        let w = or-none (eqb serial 0) (ltb max_serial serial) e in
        let some : serial ≡ 0 → ⊥ = eqb-false serial 0 w.0 in
        kinds room (omega arith) (ltb-false max_serial serial w.1) (walk_call s us c ample_budget).kind refl

    lengths : (x : Bool) → ltb (length before) page_size ≡ x → P (cond x (refusing_page (ShortPage 0) c before) (by_serial (eqb serial 0 || ltb max_serial serial)))
    lengths true e = short (ltb-true (length before) page_size e)
    lengths false e = serials (ltb-false (length before) page_size e) (eqb serial 0 || ltb max_serial serial) refl

    pub by_answer : P (page_call s us c serial before)
    unfolding page_call
    by_answer = lengths (ltb (length before) page_size) refl

module _ (s : List ℕ) (us : List Assumption) (c : Checkpoint) (serial : ℕ) (before : List ℕ) where
  -- a short page is refused,
  pub short_refused : length before < page_size → page_call s us c serial before ≡ refusing_page (ShortPage 0) c before
  short_refused h =
      by_answer s us c serial before (λ p. p ≡ refusing_page (ShortPage 0) c before)
      (λ l. refl) (λ room b. absurd (omega arith)) (λ room some most q. absurd (omega arith)) (λ room some most q. absurd (omega arith))

  -- then a bad serial,
  pub bad_refused : page_size ≤ length before → (serial ≡ 0) ⊎ (max_serial < serial) → page_call s us c serial before ≡ refusing_page (BadSerial 0) c before
  bad_refused h b =
      by_answer s us c serial before (λ p. p ≡ refusing_page (BadSerial 0) c before)
      (λ l. absurd (omega arith)) (λ room b. refl) (λ room some most q. serial_clash b some most) (λ room some most q. serial_clash b some most)

  module _ (room : page_size ≤ length before) (some : 0 < serial) (most : serial ≤ max_serial) where
    -- then what walk refuses,
    pub walk_refused : (walk_call s us c ample_budget).kind ≡ says_refused
        → page_call s us c serial before ≡ unfilled (walk_call s us c ample_budget).number (walk_call s us c ample_budget).place c before
    walk_refused h =
        by_answer s us c serial before (λ p. p ≡ unfilled (walk_call s us c ample_budget).number (walk_call s us c ample_budget).place c before)
        (λ l. absurd (omega arith)) (λ r b. serial_clash b some most) (λ r n m q. refl) (λ r n m q. absurd (q h))

    -- and all else is written
    pub unrefused_filled : ((walk_call s us c ample_budget).kind ≡ says_refused → ⊥) → page_call s us c serial before ≡ filling_page s us c serial before
    unrefused_filled h =
        by_answer s us c serial before (λ p. p ≡ filling_page s us c serial before)
        (λ l. absurd (omega arith)) (λ r b. serial_clash b some most) (λ r n m q. absurd (h q)) (λ r n m q. refl)

  -- 17 and 18 are given for nothing else
  pub numbered_short : (page_call s us c serial before).answer.number ≡ 17 → length before < page_size
  numbered_short =
      by_answer s us c serial before (λ p. p.answer.number ≡ 17 → length before < page_size)
      (λ h e. h)
      (λ room b e. absurd (omega arith))
      (λ room some most q e. absurd (omega (arith, (call_number s us c ample_budget).1)))
      (λ room some most q e. absurd (omega arith))

  pub numbered_serial : (page_call s us c serial before).answer.number ≡ 18 → (page_size ≤ length before) × ((serial ≡ 0) ⊎ (max_serial < serial))
  numbered_serial =
      by_answer s us c serial before (λ p. p.answer.number ≡ 18 → (page_size ≤ length before) × ((serial ≡ 0) ⊎ (max_serial < serial)))
      (λ h e. absurd (omega arith))
      (λ room b e. (room, b))
      (λ room some most q e. absurd (omega (arith, (call_number s us c ample_budget).1)))
      (λ room some most q e. absurd (omega arith))

  -- what is refused keeps the checkpoint and the page
  pub numbered_unfilled : ((page_call s us c serial before).answer.number ≡ 0 → ⊥)
      → (let p = page_call s us c serial before in p ≡ unfilled p.answer.number p.answer.place c before)
  numbered_unfilled =
      by_answer s us c serial before (λ p. (p.answer.number ≡ 0 → ⊥) → p ≡ unfilled p.answer.number p.answer.place c before)
      (λ h n. refl) (λ h b n. refl) (λ room some most q n. refl) (λ room some most q n. absurd (n refl))

  -- whatever the answer, what is behind the page stays, and its length
  pub call_remains : drop page_size (page_call s us c serial before).page ≡ drop page_size before
  call_remains =
      by_answer s us c serial before (λ p. drop page_size p.page ≡ drop page_size before)
      (λ h. refl) (λ h b. refl) (λ room some most q. refl) (λ room some most q. filled_remains s us c serial most before)

  pub call_length : length (page_call s us c serial before).page ≡ length before
  call_length =
      by_answer s us c serial before (λ p. length p.page ≡ length before)
      (λ h. refl) (λ h b. refl) (λ room some most q. refl) (λ room some most q. filled-length s us c serial most before room)

  -- an answer without a number is that of a page that is written
  pub numberless_filled : (page_call s us c serial before).answer.number ≡ 0 → (serial ≤ max_serial) × (page_call s us c serial before ≡ filling_page s us c serial before)
  numberless_filled =
      by_answer s us c serial before (λ p. p.answer.number ≡ 0 → (serial ≤ max_serial) × (p ≡ filling_page s us c serial before))
      (λ h e. absurd (omega arith))
      (λ room b e. absurd (omega arith))
      (λ room some most q e. absurd (omega (arith, (call_number s us c ample_budget).0 q)))
      (λ room some most q e. (most, refl))

-- the same answer, and the same checkpoint
abbrev Alike : PageCall → PageCall → Type 0
Alike p q = (p.answer ≡ q.answer) × (p.checkpoint ≡ q.checkpoint)

-- of two pages one is short, or has a bad serial, if the other is and has
calls_alike : (s : List ℕ) (us : List Assumption) (c : Checkpoint) (serial other : ℕ) (before lent : List ℕ)
    → (length before < page_size → length lent < page_size)
    → (page_size ≤ length before → (serial ≡ 0) ⊎ (max_serial < serial) → (page_size ≤ length lent) × ((other ≡ 0) ⊎ (max_serial < other)))
    → (page_size ≤ length before → 0 < serial → serial ≤ max_serial → (page_size ≤ length lent) × (0 < other) × (other ≤ max_serial))
    → Alike (page_call s us c serial before) (page_call s us c other lent)
calls_alike s us c serial other before lent f g h =
    by_answer s us c serial before (λ p. Alike p (page_call s us c other lent))
    (λ l. rw (short_refused s us c other lent (f l)) (refl, refl))
    (λ room q. let w = g room q in rw (bad_refused s us c other lent w.0 w.1) (refl, refl))
    (λ room some most q. let w = h room some most in rw (walk_refused s us c other lent w.0 w.1 w.2 q) (refl, refl))
    (λ room some most q. let w = h room some most in rw (unrefused_filled s us c other lent w.0 w.1 w.2 q) (refl, refl))

-- the answer and the checkpoint are the same for all serials that are not bad
pub serials_alike : (s : List ℕ) (us : List Assumption) (c : Checkpoint) (serial other : ℕ) (before : List ℕ) → 0 < serial → serial ≤ max_serial → 0 < other → other ≤ max_serial
    → Alike (page_call s us c serial before) (page_call s us c other before)
serials_alike s us c serial other before a b d e =
    calls_alike s us c serial other before before (λ l. l) (λ room q. serial_clash q a b) (λ room some most. (room, d, e))

-- what was lent says nothing of the answer and of the checkpoint, if it is not short;
pub lent_alike : (s : List ℕ) (us : List Assumption) (c : Checkpoint) (serial : ℕ) (before other : List ℕ) → page_size ≤ length before → page_size ≤ length other
    → Alike (page_call s us c serial before) (page_call s us c serial other)
lent_alike s us c serial before other l k =
    calls_alike s us c serial serial before other (λ h. absurd (omega arith)) (λ room q. (k, q)) (λ room some most. (k, some, most))

-- and if it is just 3,000 bytes, the lines are all of it
pub lent_whole : (s : List ℕ) (us : List Assumption) (c : Checkpoint) (serial : ℕ) (before : List ℕ) → length before ≡ page_size → (page_call s us c serial before).answer.number ≡ 0
    → (page_call s us c serial before).page ≡ joined (line_of_page s us c serial) page_lines
lent_whole s us c serial before l h =
    let w = numberless_filled s us c serial before h in
    sym (take_all page_size (page_call s us c serial before).page (omega (arith, call_length s us c serial before)))
    ∙ ap (λ (p : PageCall). take page_size p.page) w.1
    ∙ filled_lines s us c serial w.0 before
