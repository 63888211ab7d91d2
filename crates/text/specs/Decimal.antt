-- A number in decimal: its digits in ASCII, the most significant first, no zero before them.
use Rattle.std.specs.Prelude.{ℕ, zero, suc, ◌+◌, ◌/◌, ◌%◌, Bool, true, false, List, [], ◌∷◌, ◌++◌, ltb}
use Prim.Native.Char.{code}

-- a digit
abbrev pub glyph : ℕ → ℕ
glyph d = code "0" + d

-- the digits of n, at most f of them; small says whether n is below 10
unfoldable pub digits_in : ℕ → Bool → ℕ → List ℕ
digits_in zero small n = []
digits_in (suc f) true n = glyph n ∷ []
digits_in (suc f) false n = digits_in f (ltb (n / 10) 10) (n / 10) ++ (glyph (n % 10) ∷ [])

-- all of its digits: there are no more than n + 1
unfoldable pub decimal : ℕ → List ℕ
decimal n = digits_in (suc n) (ltb n 10) n
