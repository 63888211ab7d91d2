-- How the code cuts the walk short. No promise names these: they say what the private functions compute.
use Rattle.std.specs.Prelude.{ℕ, ◌+◌, ◌-◌, ◌*◌, ◌/◌, min, max, cond, List, [], ◌∷◌, leb, ltb, Option, Some, None}
use Rattle.pll.specs.Fixed.{recip_of}
use Rattle.pll.specs.Walk.{p_dividers, q_dividers}
use Rattle.kinds.specs.declared.Divider.{Divider}
use Rattle.pll.specs.declared.Window.{Window}
use Rattle.pll.specs.declared.Side.{Side}
use Rattle.pll.specs.declared.Side.TheVariants.{P, Q}

-- what the VCO is made of beside N, and the VCO by it
unfoldable pub unit_of : ℕ → ℕ → ℕ
unit_of f m = f / 16 * recip_of m

unfoldable pub vco_by : ℕ → ℕ → ℕ
vco_by u n = 16 * (n * u / 1073741824)

-- the dividers of an output
abbrev pub dividers_of : Side → List ℕ
dividers_of P = p_dividers
dividers_of Q = q_dividers

-- the first divider of a list that does not put v below lo, or 0
unfoldable pub highest : List ℕ → ℕ → ℕ → ℕ
highest [] lo v = 0
highest (d ∷ ds) lo v = cond (leb (lo * d) v) d (highest ds lo v)

-- divider d, unless it puts v above hi
unfoldable pub fit : ℕ → ℕ → ℕ → Option (Option Divider)
fit hi d v = cond (ltb v ((hi + 1) * d)) (Some (Some (record { 0 = d }))) None

-- each VCO up to v that fits the window is below this
unfoldable pub end : List ℕ → Option Window → ℕ → ℕ
end ds None v = 432000001
end ds (Some w) v = (w.hi.0 + 1) * highest ds w.lo.0 v

-- the same of both windows and VCOs up to 432 MHz; below 50 MHz the walk leaves the M
unfoldable pub target : Option Window → Option Window → ℕ → ℕ
target p q v =
    max 50000000 (min 432000001 (min (end p_dividers p (min v 432000000)) (end q_dividers q (min v 432000000))))

-- the greatest N below n whose VCO is below t, or 49
unfoldable pub jump : ℕ → ℕ → ℕ → ℕ
jump u n t = max 49 (min (n - 1) (((t + 15) / 16 * 1073741824 - 1) / u))
