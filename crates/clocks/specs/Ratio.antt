-- Document 01, "Derived clocks": the f32 ratio of two whole numbers, over whole numbers alone.
use Rattle.std.specs.Prelude.{ℕ, ◌+◌, ◌-◌, ◌*◌, ◌/◌, ◌^◌}
use Rattle.std.specs.Float.Ieee.{size}
use Rattle.std.specs.Float.Ieee.Nearest.{closest}

-- `size n` is how many binary digits n has; `closest a b` is a / b to the nearest whole number, a tie to the even one

-- how many binary digits the whole part of n / d has past 24
abbrev pub extra : ℕ → ℕ → ℕ
extra n d = size (n / d) - 24

-- n / d rounded to 24 binary digits, to the nearest, a tie to the even one: a multiple of 2 ^ extra.
-- So it is where the whole part of n / d has the 24 digits, or n / d is whole
abbrev pub digits24 : ℕ → ℕ → ℕ
digits24 n d = closest n (d * 2 ^ extra n d) * 2 ^ extra n d

-- a whole number rounded to f32
unfoldable pub round24 : ℕ → ℕ
round24 x = digits24 x 1

-- a / b rounded once, in units of 2 ^ -149, the smallest f32
abbrev pub quotient24 : ℕ → ℕ → ℕ
quotient24 a b = digits24 (a * 2 ^ 149) b

-- n / d taken up to a whole number
abbrev pub up : ℕ → ℕ → ℕ
up n d = (n + (d - 1)) / d

-- the two numbers, each first rounded to f32; the quotient rounded once; taken up to a whole number
unfoldable pub ratio_up : ℕ → ℕ → ℕ
ratio_up num den = up (quotient24 (round24 num) (round24 den)) (2 ^ 149)
