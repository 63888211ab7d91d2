-- Document 01, "Request record", the program's line: a word, its numbers and a newline.
use Rattle.std.specs.Prelude.{ℕ, ◌+◌, ◌*◌, List, [], ◌∷◌, ◌++◌, length}
use Rattle.text.specs.Ascii.{codes}
use Rattle.text.specs.Decimal.{decimal}

-- each number with a space before it
unfoldable pub spaced : List ℕ → List ℕ
spaced [] = []
spaced (n ∷ ns) = (codes " " ++ decimal n) ++ spaced ns

unfoldable pub line_of : List ℕ → List ℕ → List ℕ
line_of word ns = word ++ (spaced ns ++ codes "\n")

-- the longest that a line of u32s can be: a space and ten digits for each
abbrev pub longest : List ℕ → List ℕ → ℕ
longest word ns = length word + 11 * length ns + 1

-- how many quantities the line of a plan has, and the most bytes of that line and of a refusal's
abbrev pub QUANTITIES : ℕ
QUANTITIES = 14

abbrev pub LINE : ℕ
LINE = 157

abbrev pub NOLINE : ℕ
NOLINE = 14

-- `ok` and the numbers of a plan
abbrev pub ok_line : List ℕ → List ℕ
ok_line ns = line_of (codes "ok") ns

-- `no` and the number of a refusal
abbrev pub no_line : ℕ → List ℕ
no_line number = line_of (codes "no") (number ∷ [])
