-- Line i of a page: that of result i, or blank; of results behind others; its length.
use Prim.Native.Nat.{ℕ, zero, suc, ◌+◌, ◌≤◌, ◌<◌}
use mathlib.Core.List.{List, [], ◌∷◌, ◌++◌, map}
use mathlib.Core.Path.{◌≡◌, refl, ap, ◌∙◌}
use native.Mathlib.Omega.{arith}
use lib.ListN.{length, get_or, take, drop}
use Rattle.limits.specs.Limits.{max_variables}
use Rattle.lists.specs.Every.{Every}
use Rattle.walk.specs.Results.{Result}
use Rattle.page.specs.PageLines.{line_size, page_line, blank_line}
use Rattle.page.specs.Pages.{line_at}
use Rattle.page.proofs.LineLaws.{page_line-length, blank-length}

module _ (n mask : ℕ) where
  -- line i is that of result i
  pub line_told : (serial : ℕ) (rs : List Result) (i : ℕ) → i < length rs
      → line_at n mask serial rs i ≡ page_line (serial + i) n mask (get_or (map (λ r. r.model) rs) i 0) (get_or (map (λ r. r.steps) rs) i 0)
  line_told serial [] i h = absurd (omega arith)
  line_told serial (r ∷ rs) zero h = let e : serial ≡ serial + 0 = omega arith in ap (λ (k : ℕ). page_line k n mask r.model r.steps) e
  line_told serial (r ∷ rs) (suc i) h =
      let e : suc serial + i ≡ serial + suc i = omega arith in
      line_told (suc serial) rs i (omega arith)
      ∙ ap (λ (k : ℕ). page_line k n mask (get_or (map (λ r. r.model) rs) i 0) (get_or (map (λ r. r.steps) rs) i 0)) e

  -- or blank, if there is no such result
  pub line-none : (serial : ℕ) (rs : List Result) (i : ℕ) → length rs ≤ i → line_at n mask serial rs i ≡ blank_line
  line-none serial [] i h = refl
  line-none serial (r ∷ rs) zero h = absurd (omega arith)
  line-none serial (r ∷ rs) (suc i) h = line-none (suc serial) rs i (omega arith)

  -- the line of the result behind the results xs
  pub line_behind : (serial : ℕ) (xs ys : List Result) (r : Result)
      → line_at n mask serial (xs ++ (r ∷ ys)) (length xs) ≡ page_line (serial + length xs) n mask r.model r.steps
  line_behind serial [] ys r = let e : serial ≡ serial + 0 = omega arith in ap (λ (k : ℕ). page_line k n mask r.model r.steps) e
  line_behind serial (x ∷ xs) ys r =
      let e : suc serial + length xs ≡ serial + suc (length xs) = omega arith in
      line_behind (suc serial) xs ys r ∙ ap (λ (k : ℕ). page_line k n mask r.model r.steps) e

  -- the results behind the first k
  pub line_drop : (k serial : ℕ) (rs : List Result) (i : ℕ) → line_at n mask serial rs (k + i) ≡ line_at n mask (serial + k) (drop k rs) i
  line_drop zero serial rs i = let e : 0 + i ≡ i = omega arith in let q : serial + 0 ≡ serial = omega arith in rw (e, q)
  line_drop (suc k) serial [] i = refl
  line_drop (suc k) serial (r ∷ rs) i =
      let e : suc k + i ≡ suc (k + i) = omega arith in
      let q : serial + suc k ≡ suc serial + k = omega arith in
      rw (e, q) (line_drop k (suc serial) rs i)

  -- the first k results
  pub line_take : (k serial : ℕ) (rs : List Result) (i : ℕ) → i < k → line_at n mask serial (take k rs) i ≡ line_at n mask serial rs i
  line_take zero serial rs i h = absurd (omega arith)
  line_take (suc k) serial [] i h = refl
  line_take (suc k) serial (r ∷ rs) zero h = refl
  line_take (suc k) serial (r ∷ rs) (suc i) h = line_take k (suc serial) rs i (omega arith)

  -- a line has 60 bytes
  pub line_length : n ≤ max_variables → (serial : ℕ) (rs : List Result) → Every (λ r. r.steps < 1000) rs → (i : ℕ) → serial + i < 1000000
      → length (line_at n mask serial rs i) ≡ line_size
  line_length m serial [] few i h = blank-length
  line_length m serial (r ∷ rs) few zero h = page_line-length serial n mask r.model r.steps (omega arith) m few.0
  line_length m serial (r ∷ rs) few (suc i) h = line_length m (suc serial) rs few.1 i (omega arith)
