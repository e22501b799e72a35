-- S19.1: every line of a page has 60 bytes, and is the part that was lent for it.
use Prim.Native.Nat.{ℕ, ◌+◌, ◌*◌, ◌-◌, ◌≤◌, ◌<◌}
use mathlib.Core.List.{List, [], ◌∷◌, ◌++◌}
use mathlib.Core.Path.{◌≡◌, ap, ◌∙◌}
use native.Mathlib.Omega.{arith}
use lib.ListN.{length, get_or, take, drop, length-append, get_or-append}
use Rattle.limits.specs.Limits.{max_variables}
use Rattle.lists.proofs.TabulatedLaws.{length_tabulated}
use Rattle.writing.specs.Placed.{placed}
use Rattle.writing.specs.Text.{line_feed, decimal, column, columns, line_of, blanks, right}
use Rattle.writing.proofs.BlankLaws.{blanks-length, right-length}
use Rattle.writing.proofs.DecimalLaws.{decimal-length}
use Rattle.writing.proofs.PlacedLaws.{placed_part}
use Rattle.page.specs.PageLines.{line_size, serial_width, steps_width, page_columns, page_line, blank_line}

-- the words of a line are as wide as their columns
pub serial_length : (serial : ℕ) → serial < 1000000 → length (right serial_width (decimal serial)) ≡ serial_width
serial_length serial h = right-length serial_width (decimal serial) (decimal-length 5 serial h)

columns_length : (n mask a : ℕ) → n ≤ max_variables → length (page_columns n mask a) ≡ max_variables
columns_length n mask a h =
    let d = length_tabulated (column mask a) n in
    let b = blanks-length (max_variables - n) in
    length-append (columns n mask a) (blanks (max_variables - n)) ∙ omega arith

-- the columns of the variables come first
pub columns-front : (n mask a v : ℕ) → v < n → get_or (page_columns n mask a) v 0 ≡ get_or (columns n mask a) v 0
columns-front n mask a v h =
    get_or-append (columns n mask a) (blanks (max_variables - n)) 0 v (let l = length_tabulated (column mask a) n in omega arith)

pub steps_length : (steps : ℕ) → steps < 1000 → length (right steps_width (decimal steps)) ≡ steps_width
steps_length steps h = right-length steps_width (decimal steps) (decimal-length 2 steps h)

-- three words, and a blank or a line feed behind each
words_length : (u v w : List ℕ) → length (line_of (u ∷ v ∷ w ∷ [])) ≡ length u + length v + length w + 3
words_length u v w = simp length-append (omega arith)

-- the line of a model
pub page_line-length : (serial n mask a steps : ℕ) → serial < 1000000 → n ≤ max_variables → steps < 1000 → length (page_line serial n mask a steps) ≡ line_size
unfolding page_line
page_line-length serial n mask a steps hs hn ht =
    let u = serial_length serial hs in
    let v = columns_length n mask a hn in
    let w = steps_length steps ht in
    words_length (right serial_width (decimal serial)) (page_columns n mask a) (right steps_width (decimal steps)) ∙ omega arith

-- a line without one
pub blank-length : length blank_line ≡ line_size
unfolding blank_line
blank-length = length-append (blanks (line_size - 1)) (line_feed ∷ []) ∙ (let b = blanks-length (line_size - 1) in omega arith)

-- the part of a page that is lent for line i, and comes back as t
pub line_lent : (i : ℕ) (page t line : List ℕ) → t ≡ line → length line ≡ line_size
    → (let from = line_size * i in take from page ++ (t ++ drop (from + line_size - from) (drop from page)) ≡ placed from line page)
line_lent i page t line e l =
    let from = line_size * i in
    let k : length t ≡ from + line_size - from = ap length e ∙ l ∙ omega arith in
    placed_part from (from + line_size - from) t page k ∙ ap (λ (x : List ℕ). placed from x page) e
