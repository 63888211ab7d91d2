-- A configuration as 30 numbers, group by group.
use Rattle.std.specs.Prelude.{ℕ, List, [], ◌∷◌, None, Option, Some}
use Rattle.kinds.specs.Codes.{flag_of, asked_hertz, pllp_code, mco1_code, mco2_code, mcopre_code}
use Rattle.kinds.specs.declared.CFGR.{CFGR}
use Rattle.kinds.specs.declared.HSEClock.{HSEClock}
use Rattle.kinds.specs.declared.HSEClock.TheVariants.{Oscillator, Bypass}
use Rattle.kinds.specs.declared.LSEClockMode.{LSEClockMode}
use Rattle.kinds.specs.declared.LSEClockMode.TheVariants.{Oscillator as LseOscillator, Bypass as LseBypass}
use Rattle.kinds.specs.declared.PLL48CLK.{PLL48CLK}
use Rattle.kinds.specs.declared.PLL48CLK.TheVariants.{Pllq, Pllsai}
use Rattle.kinds.specs.declared.Hertz.{Hertz}

-- how many numbers a configuration is
abbrev pub CONFIG : ℕ
CONFIG = 30

abbrev pub hse_kind : Option HSEClock → ℕ
hse_kind None = 0
hse_kind (Some (Oscillator f)) = 1
hse_kind (Some (Bypass f)) = 2

abbrev pub hse_hertz : Option HSEClock → ℕ
hse_hertz None = 0
hse_hertz (Some (Oscillator f)) = f.0
hse_hertz (Some (Bypass f)) = f.0

abbrev pub lse_kind : Option LSEClockMode → ℕ
lse_kind None = 0
lse_kind (Some LseOscillator) = 1
lse_kind (Some LseBypass) = 2

abbrev pub asked_of : Option Hertz → ℕ
asked_of None = 0
asked_of (Some f) = 1

abbrev pub choice_kind : Option PLL48CLK → ℕ
choice_kind None = 0
choice_kind (Some Pllq) = 1
choice_kind (Some Pllsai) = 2

unfoldable pub config_numbers : CFGR → List ℕ
config_numbers c =
    hse_kind c.sources.hse ∷ hse_hertz c.sources.hse ∷ lse_kind c.sources.lse ∷ flag_of c.sources.lsi
    ∷ asked_of c.requests.hclk ∷ asked_hertz c.requests.hclk
    ∷ asked_of c.requests.sysclk ∷ asked_hertz c.requests.sysclk
    ∷ asked_of c.requests.pclk1 ∷ asked_hertz c.requests.pclk1
    ∷ asked_of c.requests.pclk2 ∷ asked_hertz c.requests.pclk2
    ∷ flag_of c.pll.use_pll ∷ choice_kind c.pll.pll48clk ∷ c.pll.m.0 ∷ c.pll.n.0 ∷ pllp_code c.pll.p ∷ c.pll.q.0
    ∷ flag_of c.sai.use_pllsai ∷ c.sai.n.0 ∷ pllp_code c.sai.p ∷ c.sai.q.0
    ∷ flag_of c.i2s.use_plli2s ∷ c.i2s.n.0 ∷ c.i2s.r.0 ∷ c.i2s.q.0
    ∷ mco1_code c.mco.mco1 ∷ mcopre_code c.mco.mco1pre ∷ mco2_code c.mco.mco2 ∷ mcopre_code c.mco.mco2pre
    ∷ []
