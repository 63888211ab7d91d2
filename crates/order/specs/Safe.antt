-- Demand 3: what a file holds from the switch to HSI on, and when the PLL's fields change. d is the configuration as planned, y its field codes.
use Rattle.std.specs.Prelude.{ℕ, ◌≡◌, true, List, get_or}
use Rattle.kinds.specs.Codes.{pllp_code}
use Rattle.kinds.specs.declared.CFGR.{CFGR}
use Rattle.clocks.specs.declared.InternalRCCConfig.{InternalRCCConfig}
use Rattle.order.specs.Places.{PLLON, SW, PPRE1, PPRE2, HPRE, PLLM, PLLN, PLLP, PLLQ, PLLSRC, VOS, ODEN, ODSWEN, LATENCY}
use Rattle.order.specs.Order.{src_of, sw_of, pll_stored}
use Rattle.order.specs.Fields.{fields_of, Holds}

-- wait states and prescalers
pub record BusSet (y : InternalRCCConfig) (f : List ℕ) : Type 0 where
  pub latency : get_or f LATENCY 0 ≡ y.flash_waitstates
  pub hpre : get_or f HPRE 0 ≡ y.hpre
  pub ppre1 : get_or f PPRE1 0 ≡ y.ppre1
  pub ppre2 : get_or f PPRE2 0 ≡ y.ppre2

-- the PLL's five fields, the PLL itself and the voltage scale
pub record PllSet (d : CFGR) (y : InternalRCCConfig) (f : List ℕ) : Type 0 where
  pub m : get_or f PLLM 0 ≡ d.pll.m.0
  pub n : get_or f PLLN 0 ≡ d.pll.n.0
  pub p : get_or f PLLP 0 ≡ pllp_code d.pll.p
  pub q : get_or f PLLQ 0 ≡ d.pll.q.0
  pub src : get_or f PLLSRC 0 ≡ src_of d.sources.hse
  pub on : get_or f PLLON 0 ≡ 1
  pub vos : get_or f VOS 0 ≡ y.vos_scale

pub record OverSet (f : List ℕ) : Type 0 where
  pub oden : get_or f ODEN 0 ≡ 1
  pub odswen : get_or f ODSWEN 0 ≡ 1

-- SW names the plan's own source, and every field that the plan stores is at the plan's value: wait states, prescalers,
-- the PLL, the voltage and over-drive are spelt out
pub record Settled (d : CFGR) (y : InternalRCCConfig) (f : List ℕ) : Type 0 where
  pub source : get_or f SW 0 ≡ sw_of d.sources.hse d.pll
  pub bus : BusSet y f
  pub pll : pll_stored d.pll ≡ true → PllSet d y f
  pub over : pll_stored d.pll ≡ true → y.overdrive ≡ true → OverSet f
  pub all : Holds (fields_of d y) f

-- SW names HSI, or the plan's own source with what it stands on
pub data Safe (d : CFGR) (y : InternalRCCConfig) (f : List ℕ) : Type 0 where
  hsi : get_or f SW 0 ≡ 0 → Safe d y f
  own : Settled d y f → Safe d y f

-- the PLL's five fields are in g as they are in f
pub record SamePll (f g : List ℕ) : Type 0 where
  pub m : get_or g PLLM 0 ≡ get_or f PLLM 0
  pub n : get_or g PLLN 0 ≡ get_or f PLLN 0
  pub p : get_or g PLLP 0 ≡ get_or f PLLP 0
  pub q : get_or g PLLQ 0 ≡ get_or f PLLQ 0
  pub src : get_or g PLLSRC 0 ≡ get_or f PLLSRC 0

-- from the file f to the file g: the PLL is off in f, or its five fields stay
pub data Still (f g : List ℕ) : Type 0 where
  off : get_or f PLLON 0 ≡ 0 → Still f g
  same : SamePll f g → Still f g
