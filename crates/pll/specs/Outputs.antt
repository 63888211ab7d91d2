-- Document 01, "Fixed point": what the settings of a configuration give as they stand.
use Rattle.std.specs.Prelude.{ℕ, ◌*◌, ◌/◌}
use Rattle.kinds.specs.Config.{input_of}
use Rattle.kinds.specs.Codes.{p_divider_of}
use Rattle.kinds.specs.declared.CFGR.{CFGR}
use Rattle.pll.specs.Fixed.{vco_of, out_of}

-- planning uses 16 × b, with b = floor(f/16)
unfoldable pub base_of : ℕ → ℕ
base_of f = 16 * (f / 16)

-- the ends of the Q window
abbrev pub q_low : ℕ
q_low = 47880000

abbrev pub q_high : ℕ
q_high = 48120000

-- what the present M, N, P derive: the P output
unfoldable pub p_output_of : CFGR → ℕ
p_output_of c = out_of (vco_of (input_of c.sources.hse) c.pll.n.0 c.pll.m.0) (p_divider_of c.pll.p)
