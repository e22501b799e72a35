-- Text as lists of ASCII bytes: numbers in decimal, the columns of an assignment, lines of words, blanks and words that are right-aligned.
use Rattle.std.specs.Prelude.{ℕ, zero, suc, ◌+◌, ◌-◌, ◌/◌, ◌%◌, cond, List, [], ◌∷◌, ◌++◌, ltb, length, replicate}
use Rattle.lists.specs.Tabulated.{tabulated}
use Rattle.masks.specs.Mask.{bit}

-- the characters 0, 1, dash, line feed and blank
abbrev pub digit_zero : ℕ
digit_zero = 48

abbrev pub digit_one : ℕ
digit_one = 49

abbrev pub dash : ℕ
dash = 45

abbrev pub line_feed : ℕ
line_feed = 10

abbrev pub blank : ℕ
blank = 32

-- The digits of x, of which there are at most k: x itself if it is one digit, else the digits of x / 10 and then the last one.
unfoldable pub decimal_within : ℕ → ℕ → List ℕ
decimal_within zero x = []
decimal_within (suc k) x = cond (ltb x 10) ((digit_zero + x) ∷ []) (decimal_within k (x / 10) ++ ((digit_zero + (x % 10)) ∷ []))

-- a number in decimal, without leading zeros: x has at most x + 1 digits
unfoldable pub decimal : ℕ → List ℕ
decimal x = decimal_within (suc x) x

-- 1 if bit i of the mask a is set, else 0
abbrev pub digit : ℕ → ℕ → ℕ
digit a i = cond (bit a i) digit_one digit_zero

-- S23.3: the column of variable i in the assignment a: its digit where the mask `visible` has i, else a dash
abbrev pub column : ℕ → ℕ → ℕ → ℕ
column visible a i = cond (bit visible i) (digit a i) dash

-- S12.1, S23.3: the columns of the first n variables, from variable 0 on
abbrev pub columns : ℕ → ℕ → ℕ → List ℕ
columns n visible a = tabulated (column visible a) n

-- S12.1: a line of words: a blank between two, and a line feed at the end
abbrev pub line_of : List (List ℕ) → List ℕ
line_of [] = line_feed ∷ []
line_of (w ∷ []) = w ++ (line_feed ∷ [])
line_of (w ∷ v ∷ ws) = w ++ (blank ∷ line_of (v ∷ ws))

-- S19.1: so many blanks
unfoldable pub blanks : ℕ → List ℕ
blanks k = replicate k blank

-- S19.1: a word, w wide, right-aligned: blanks before it
abbrev pub right : ℕ → List ℕ → List ℕ
right w xs = blanks (w - length xs) ++ xs
