-- Pages one after the other on an accepted input: each is written, and holds the results of its 50 calls out of those of all.
use Prim.Native.Nat.{ℕ, suc, ◌+◌, ◌*◌, ◌-◌, ◌≤◌, ◌<◌}
use mathlib.Core.List.{List, [], ◌∷◌, ◌++◌}
use mathlib.Core.Path.{◌≡◌, refl, sym, ap, ap₂, ◌∙◌}
use native.Mathlib.Omega.{arith}
use lib.ListN.{length, take, drop, get_or, length-take, length-drop}
use lib.Seq.{length-take-le, split_at}
use Rattle.lists.specs.Every.{Every}
use Rattle.lists.proofs.EveryLaws.{every_split}
use Rattle.assumptions.specs.declared.Assumption.{Assumption}
use Rattle.matched.specs.Acceptance.{acceptance}
use Rattle.walk.specs.Task.{Task, Posed}
use Rattle.walk.specs.Checkpoints.{Checkpoint}
use Rattle.walk.specs.PlainMachine.{Has}
use Rattle.walk.specs.Results.{Result}
use Rattle.walk.specs.WalkCall.{walk_call}
use Rattle.walk.specs.InnerLocate.{task_call}
use Rattle.page.specs.PageLines.{page_lines, line_size, page_size}
use Rattle.page.specs.Pages.{next_results, next_checkpoint, line_at, PageCall, accepted_variables, accepted_visible, max_serial, filling_page, page_call, page_calls}
use Rattle.page.proofs.LineAtLaws.{line_drop, line_take}
use Rattle.page.proofs.NextLaws.{checkpoint_zero, checkpoint_append}
use Rattle.page.proofs.NextModelLaws.{nexts, one_unrefused, next_part}
use Rattle.page.proofs.PageCallLaws.{filled_line, unrefused_filled}

-- one page for each buffer
pub pages-length : (s : List ℕ) (us : List Assumption) (bs : List (List ℕ)) (c : Checkpoint) (serial : ℕ) → length (page_calls s us c serial bs) ≡ length bs
unfolding page_calls
pages-length s us [] c serial = refl
pages-length s us (b ∷ bs) c serial = ap suc (pages-length s us bs (page_call s us c serial b).checkpoint (serial + page_lines))

module _ (s : List ℕ) (us : List Assumption) (T : Task) (P : Posed T) (walks : (c : Checkpoint) (b : ℕ) → walk_call s us c b ≡ task_call T c b) where
  -- what is asked of n pages from c: the walk has c, and no serial is bad
  pub record Begins (c : Checkpoint) (serial n : ℕ) : Type 0 where
    pub has : Has T c
    pub some : 0 < serial
    pub most : (j : ℕ) → j < n → serial + page_lines * j ≤ max_serial

  -- a page behind j others, of n
  pub record Behind (c : Checkpoint) (serial n j : ℕ) (p : PageCall) : Type 0 where
    pub among : j < n
    pub most : serial + page_lines * j ≤ max_serial
    pub before : List ℕ
    pub filled : p ≡ filling_page s us (next_checkpoint s us c (page_lines * j)) (serial + page_lines * j) before

  -- the first page is written,
  first_filled : (c : Checkpoint) (serial n : ℕ) → Begins c serial (suc n) → (b : List ℕ) → page_size ≤ length b → page_call s us c serial b ≡ filling_page s us c serial b
  first_filled c serial n g b room =
      unrefused_filled s us c serial b room g.some (omega (arith, g.most 0 (omega arith))) (one_unrefused s us T P walks c g.has)

  -- and the others begin behind it
  begins_next : (c : Checkpoint) (serial n : ℕ) → Begins c serial (suc n) → (b : List ℕ) → page_size ≤ length b
      → Begins (page_call s us c serial b).checkpoint (serial + page_lines) n
  begins_next c serial n g b room = record {
    has = rw (first_filled c serial n g b room) (nexts s us T P walks page_lines c g.has).has;
    some = let h = g.some in omega arith;
    most = λ j l. omega (arith, g.most (suc j) (omega arith));
  }

  -- so a page behind these is behind one more
  behind_next : (c : Checkpoint) (serial n j : ℕ) → Begins c serial (suc n) → (b : List ℕ) → page_size ≤ length b → (p : PageCall)
      → Behind (page_call s us c serial b).checkpoint (serial + page_lines) n j p → Behind c serial (suc n) (suc j) p
  behind_next c serial n j g b room p x =
      let a : page_lines + page_lines * j ≡ page_lines * suc j = omega arith in
      let k : serial + page_lines + page_lines * j ≡ serial + page_lines * suc j = omega arith in
      let d : next_checkpoint s us (page_call s us c serial b).checkpoint (page_lines * j) ≡ next_checkpoint s us c (page_lines * suc j) =
      ap (λ (q : PageCall). next_checkpoint s us q.checkpoint (page_lines * j)) (first_filled c serial n g b room)
      ∙ sym (checkpoint_append s us c page_lines (page_lines * j)) ∙ ap (next_checkpoint s us c) a in
      record {
        among = omega (arith, x.among);
        most = omega (arith, x.most);
        before = x.before;
        filled = x.filled ∙ ap₂ (λ (y : Checkpoint) (z : ℕ). filling_page s us y z x.before) d k;
      }

  -- every page stands behind those before it
  page_among : (bs : List (List ℕ)) (c : Checkpoint) (serial : ℕ) → Begins c serial (length bs) → Every (λ b. page_size ≤ length b) bs
      → (ps qs : List PageCall) (p : PageCall) → page_calls s us c serial bs ≡ ps ++ (p ∷ qs) → Behind c serial (length bs) (length ps) p
  unfolding page_calls
  page_among [] c serial g room [] qs p e = let z : ◌≡◌ {A = ℕ} 0 1 = cc in absurd (omega arith)
  page_among [] c serial g room (q ∷ ps) qs p e = let z : ◌≡◌ {A = ℕ} 0 1 = cc in absurd (omega arith)
  page_among (b ∷ bs) c serial g room [] qs p e =
      let q : page_call s us c serial b ≡ p = cc in
      let z : serial + page_lines * 0 ≡ serial = omega arith in
      record {
        among = omega arith;
        most = g.most 0 (omega arith);
        before = b;
        filled = sym q ∙ first_filled c serial (length bs) g b room.0
            ∙ ap (λ (d : Checkpoint). filling_page s us d serial b) (sym (checkpoint_zero s us c))
            ∙ ap (λ (k : ℕ). filling_page s us (next_checkpoint s us c 0) k b) (sym z);
      }
  page_among (b ∷ bs) c serial g room (q ∷ ps) qs p e =
      behind_next c serial (length bs) (length ps) g b room.0 p
      (page_among bs (page_call s us c serial b).checkpoint (serial + page_lines) (begins_next c serial (length bs) g b room.0) room.1 ps qs p (cc))

  module _ (bs : List (List ℕ)) (c : Checkpoint) (serial : ℕ) (g : Begins c serial (length bs)) (room : Every (λ b. page_size ≤ length b) bs) where
    -- no page is refused
    pub pages_written : Every (λ p. p.answer.number ≡ 0) (page_calls s us c serial bs)
    pages_written =
        every_split (λ p. p.answer.number ≡ 0) (page_calls s us c serial bs)
        (λ ps qs p e. ap (λ (x : PageCall). x.answer.number) (page_among bs c serial g room ps qs p e).filled)

    module _ (ps qs : List PageCall) (p : PageCall) (e : page_calls s us c serial bs ≡ ps ++ (p ∷ qs)) where
      -- the results of a page's calls, out of those of all
      part : take page_lines (drop (page_lines * length ps) (next_results s us c (page_lines * length bs)))
          ≡ next_results s us (next_checkpoint s us c (page_lines * length ps)) page_lines
      part =
          let h = (page_among bs c serial g room ps qs p e).among in
          next_part s us T P walks c g.has (page_lines * length ps) page_lines (page_lines * length bs) (omega arith)

      -- its lines are those of these results,
      pub behind_line : (i : ℕ) → i < page_lines
          → take line_size (drop (line_size * i) p.page)
          ≡ line_at (accepted_variables (acceptance s us)) (accepted_visible (acceptance s us)) serial (next_results s us c (page_lines * length bs)) (page_lines * length ps + i)
      behind_line i l =
          let n = accepted_variables (acceptance s us) in
          let m = accepted_visible (acceptance s us) in
          let j = page_lines * length ps in
          let x = page_among bs c serial g room ps qs p e in
          ap (λ (q : PageCall). take line_size (drop (line_size * i) q.page)) x.filled
          ∙ filled_line s us (next_checkpoint s us c j) (serial + j) x.most x.before i l
          ∙ ap (λ (rs : List Result). line_at n m (serial + j) rs i) (sym part)
          ∙ line_take n m page_lines (serial + j) (drop j (next_results s us c (page_lines * length bs))) i l
          ∙ sym (line_drop n m j serial (next_results s us c (page_lines * length bs)) i)

      -- so many are filled,
      pub behind_count : p.answer.lines ≡ length (take page_lines (drop (page_lines * length ps) (next_results s us c (page_lines * length bs))))
      behind_count = ap (λ (q : PageCall). q.answer.lines) (page_among bs c serial g room ps qs p e).filled ∙ ap length (sym part)

      -- and its checkpoint is that behind them
      pub behind_checkpoint : p.checkpoint ≡ next_checkpoint s us c (page_lines * (length ps + 1))
      behind_checkpoint =
          let j = page_lines * length ps in
          let q : j + page_lines ≡ page_lines * (length ps + 1) = omega arith in
          ap (λ (x : PageCall). x.checkpoint) (page_among bs c serial g room ps qs p e).filled
          ∙ sym (checkpoint_append s us c j page_lines)
          ∙ ap (next_checkpoint s us c) q

    -- if fewer results come than the pages have lines, the last page has fewer than 50
    pub last_fewer : length (next_results s us c (page_lines * length bs)) < page_lines * length bs
        → (ps : List PageCall) × (p : PageCall) × (qs : List PageCall) × (page_calls s us c serial bs ≡ ps ++ (p ∷ qs)) × (p.answer.lines < page_lines)
    last_fewer h =
        let j = length bs - 1 in
        let l = page_calls s us c serial bs in
        let many = pages-length s us bs c serial in
        let d = page_call s us c serial [] in
        let e = split_at l j d (omega arith) in
        let k = length-take-le j l (omega arith) in
        let few = behind_count (take j l) (drop (suc j) l) (get_or l j d) e in (
          take j l,
          get_or l j d,
          drop (suc j) l,
          e,
          omega (
            arith,
            few,
            k,
            length-take page_lines (drop (page_lines * length (take j l)) (next_results s us c (page_lines * length bs))),
            length-drop (page_lines * length (take j l)) (next_results s us c (page_lines * length bs)),
          ),
        )
