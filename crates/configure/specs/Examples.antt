-- Document 01's examples marked P as far as they say whether the PLL is used, and three of ours: each as what is asked for and what pll_configure answers.
use Rattle.std.specs.Prelude.{ℕ, Bool, true, false, List, [], ◌∷◌, Option, Some, None, Result, Ok, Err}
use Rattle.kinds.specs.Config.{defaults}
use Rattle.kinds.specs.Codes.{flag_of, p_divider_of}
use Rattle.kinds.specs.Refusals.{number_of}
use Rattle.kinds.specs.declared.CFGR.{CFGR}
use Rattle.kinds.specs.declared.Pll.{Pll}
use Rattle.kinds.specs.declared.HSEClock.{HSEClock}
use Rattle.kinds.specs.declared.HSEClock.TheVariants.{Oscillator, Bypass}
use Rattle.kinds.specs.declared.Hertz.{Hertz}
use Rattle.kinds.specs.declared.PLL48CLK.{PLL48CLK}
use Rattle.kinds.specs.declared.PLL48CLK.TheVariants.{Pllq}
use Rattle.kinds.specs.declared.PLLP.TheVariants.{Div2}
use Rattle.configure.specs.declared.Configured.{Configured}
use Rattle.configure.specs.declared.Unplanned.{Unplanned}

-- the main PLL's settings: use_pll, M, N, P, Q, and then what else is shown
abbrev pub settings : Pll → List ℕ → List ℕ
settings l more = flag_of l.use_pll ∷ l.m.0 ∷ l.n.0 ∷ p_divider_of l.p ∷ l.q.0 ∷ more

-- a refusal: its number and passes. A configuration as planned: 0 and passes, and the main PLL's settings
abbrev pub shown : Result Configured Unplanned → List ℕ
shown (Ok r) = 0 ∷ r.passes ∷ settings r.cfgr.pll []
shown (Err u) = number_of u.refusal ∷ u.passes ∷ []

-- the Rust's defaults, with what an example asks for: HSE, SYSCLK, HCLK, PCLK1, `use_pll`, 48 MHz choice
abbrev pub asks : Option HSEClock → Option Hertz → Option Hertz → Option Hertz → Bool → Option PLL48CLK → CFGR
asks hse sysclk hclk pclk1 on choice =
    record {
      sources = record { hse = hse; lse = None; lsi = false };
      requests = record { hclk = hclk; sysclk = sysclk; pclk1 = pclk1; pclk2 = None };
      pll = record { use_pll = on; pll48clk = choice; m = record { 0 = 2 }; n = record { 0 = 50 }; p = Div2; q = record { 0 = 2 } };
      sai = defaults.sai;
      i2s = defaults.i2s;
      mco = defaults.mco;
    }

abbrev pub hz : ℕ → Option Hertz
hz x = Some (record { 0 = x })

abbrev pub oscillator : ℕ → Option HSEClock
oscillator x = Some (Oscillator (record { 0 = x }))

abbrev pub bypass : ℕ → Option HSEClock
bypass x = Some (Bypass (record { 0 = x }))

pub record Example : Type 0 where
  pub config : CFGR
  pub answer : List ℕ

abbrev pub example : CFGR → List ℕ → Example
example c l = record { config = c; answer = l }

abbrev main : Option HSEClock → Option Hertz → Bool → Option PLL48CLK → CFGR
main hse sysclk on choice = asks hse sysclk None None on choice

abbrev pub examples : List Example
examples =
    -- HSI, request 200 MHz without `use_pll`: defaults fit, and nothing changes
    example (main None (hz 200000000) false None) (0 ∷ 0 ∷ 0 ∷ 2 ∷ 50 ∷ 2 ∷ 2 ∷ [])
    -- with it
    ∷ example (main None (hz 200000000) true None) (0 ∷ 0 ∷ 1 ∷ 2 ∷ 50 ∷ 2 ∷ 2 ∷ [])
    -- bypass HSE 2 MHz, 216 MHz: 2, 432, 2, in 1
    ∷ example (main (bypass 2000000) (hz 216000000) false None) (0 ∷ 1 ∷ 1 ∷ 2 ∷ 432 ∷ 2 ∷ 2 ∷ [])
    -- bypass HSE 1,999,999, 216 MHz: refused 7 after 1 pass
    ∷ example (main (bypass 1999999) (hz 216000000) false None) (7 ∷ 1 ∷ [])
    -- ours: with no window `use_pll` becomes false
    ∷ example (main None None true None) (0 ∷ 0 ∷ 0 ∷ 2 ∷ 50 ∷ 2 ∷ 2 ∷ [])
    -- a search for Q alone leaves it as it was, off or on
    ∷ example (main (bypass 2268000) None false (Some Pllq)) (0 ∷ 53 ∷ 0 ∷ 2 ∷ 380 ∷ 2 ∷ 9 ∷ [])
    ∷ example (main (bypass 2268000) None true (Some Pllq)) (0 ∷ 53 ∷ 1 ∷ 2 ∷ 380 ∷ 2 ∷ 9 ∷ [])
    ∷ []
