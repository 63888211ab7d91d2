-- Document 01's examples marked P, its default record, and one of ours, a Q search whose clock is not valid: each as what is asked for and what plan answers.
use Rattle.std.specs.Prelude.{ℕ, true, false, List, [], ◌∷◌, Some, None, Result, Ok, Err}
use Rattle.kinds.specs.Config.{input_of}
use Rattle.kinds.specs.Codes.{flag_of}
use Rattle.kinds.specs.Refusals.{number_of}
use Rattle.kinds.specs.declared.CFGR.{CFGR}
use Rattle.kinds.specs.declared.PLL48CLK.TheVariants.{Pllq}
use Rattle.pll.specs.Fixed.{vco_of, out_of}
use Rattle.configure.specs.Examples.{settings, asks, hz, oscillator, bypass, Example, example}
use Rattle.configure.specs.declared.Unplanned.{Unplanned}
use Rattle.clocks.specs.declared.Clocks.{Clocks}
use Rattle.clocks.specs.declared.InternalRCCConfig.{InternalRCCConfig}
use Rattle.plan.specs.declared.Planned.{Planned}

-- a refusal: its number and passes. A plan: 0 and passes; use_pll, M, N, P, Q and PLLQ's output;
-- SYSCLK, HCLK, PCLK1, PCLK2, both timers; HPRE, PPRE1, PPRE2, wait states, scale, over-drive, 48 MHz valid
abbrev told : CFGR → ℕ → Clocks → InternalRCCConfig → List ℕ
told c k x y =
    0 ∷ k
    ∷ settings c.pll
    (out_of (vco_of (input_of c.sources.hse) c.pll.n.0 c.pll.m.0) c.pll.q.0
    ∷ x.sysclk.0 ∷ x.hclk.0 ∷ x.pclk1.0 ∷ x.pclk2.0 ∷ x.timclk1.0 ∷ x.timclk2.0
    ∷ y.hpre ∷ y.ppre1 ∷ y.ppre2 ∷ y.flash_waitstates ∷ y.vos_scale ∷ flag_of y.overdrive ∷ flag_of x.pll48clk_valid
    ∷ [])

abbrev pub shown : Result Planned Unplanned → List ℕ
shown (Ok p) = told p.cfgr p.passes p.derived.clocks p.derived.config
shown (Err u) = number_of u.refusal ∷ u.passes ∷ []

abbrev pub examples : List Example
examples =
    -- the defaults: 16 MHz throughout
    example (asks None None None None false None)
    (0 ∷ 0 ∷ 0 ∷ 2 ∷ 50 ∷ 2 ∷ 2 ∷ 200000000 ∷ 16000000 ∷ 16000000 ∷ 16000000 ∷ 16000000 ∷ 16000000 ∷ 16000000 ∷ 0 ∷ 0 ∷ 0 ∷ 0 ∷ 3 ∷ 0 ∷ 0 ∷ [])
    -- HSI, 216 MHz, Q sought: M 8, N 216, P 2, Q 9, 223 passes; its 48 MHz output derives as 47,999,984, valid
    ∷ example (asks None (hz 216000000) None None false (Some Pllq))
    (0 ∷ 223 ∷ 1 ∷ 8 ∷ 216 ∷ 2 ∷ 9 ∷ 47999984 ∷ 216000000 ∷ 216000000 ∷ 54000000 ∷ 108000000 ∷ 108000000 ∷ 216000000 ∷ 0 ∷ 5 ∷ 4 ∷ 7 ∷ 1 ∷ 1 ∷ 1 ∷ [])
    -- HSE 25 MHz, 216 MHz: 25, 432, 2, in 4,620 passes
    ∷ example (asks (oscillator 25000000) (hz 216000000) None None false None)
    (0 ∷ 4620 ∷ 1 ∷ 25 ∷ 432 ∷ 2 ∷ 2 ∷ 216000000 ∷ 216000000 ∷ 216000000 ∷ 54000000 ∷ 108000000 ∷ 108000000 ∷ 216000000 ∷ 0 ∷ 5 ∷ 4 ∷ 7 ∷ 1 ∷ 1 ∷ 0 ∷ [])
    -- bypass HSE 2 MHz, 216 MHz: 2, 432, 2, in 1
    ∷ example (asks (bypass 2000000) (hz 216000000) None None false None)
    (0 ∷ 1 ∷ 1 ∷ 2 ∷ 432 ∷ 2 ∷ 2 ∷ 216000000 ∷ 216000000 ∷ 216000000 ∷ 54000000 ∷ 108000000 ∷ 108000000 ∷ 216000000 ∷ 0 ∷ 5 ∷ 4 ∷ 7 ∷ 1 ∷ 1 ∷ 0 ∷ [])
    -- bypass HSE 1,999,999, 216 MHz: refused 7 after 1 pass
    ∷ example (asks (bypass 1999999) (hz 216000000) None None false None)
    (7 ∷ 1 ∷ [])
    -- HSI, request 200 MHz without `use_pll`: defaults fit, so SYSCLK stays 16 MHz
    ∷ example (asks None (hz 200000000) None None false None)
    (0 ∷ 0 ∷ 0 ∷ 2 ∷ 50 ∷ 2 ∷ 2 ∷ 200000000 ∷ 16000000 ∷ 16000000 ∷ 16000000 ∷ 16000000 ∷ 16000000 ∷ 16000000 ∷ 0 ∷ 0 ∷ 0 ∷ 0 ∷ 3 ∷ 0 ∷ 0 ∷ [])
    -- with it: 200 MHz, PCLK1 50, PCLK2 100, 6 wait states
    ∷ example (asks None (hz 200000000) None None true None)
    (0 ∷ 0 ∷ 1 ∷ 2 ∷ 50 ∷ 2 ∷ 2 ∷ 200000000 ∷ 200000000 ∷ 200000000 ∷ 50000000 ∷ 100000000 ∷ 100000000 ∷ 200000000 ∷ 0 ∷ 5 ∷ 4 ∷ 6 ∷ 1 ∷ 1 ∷ 0 ∷ [])
    -- SYSCLK 216 MHz: HCLK request 215,999,999 gets 216,000,000
    ∷ example (asks None (hz 216000000) (hz 215999999) None false None)
    (0 ∷ 223 ∷ 1 ∷ 8 ∷ 216 ∷ 2 ∷ 2 ∷ 216000000 ∷ 216000000 ∷ 216000000 ∷ 54000000 ∷ 108000000 ∷ 108000000 ∷ 216000000 ∷ 0 ∷ 5 ∷ 4 ∷ 7 ∷ 1 ∷ 1 ∷ 0 ∷ [])
    -- request 43,200,000 (ratio 5) gets 54,000,000
    ∷ example (asks None (hz 216000000) (hz 43200000) None false None)
    (0 ∷ 223 ∷ 1 ∷ 8 ∷ 216 ∷ 2 ∷ 2 ∷ 216000000 ∷ 216000000 ∷ 54000000 ∷ 54000000 ∷ 54000000 ∷ 54000000 ∷ 54000000 ∷ 9 ∷ 0 ∷ 0 ∷ 7 ∷ 1 ∷ 1 ∷ 0 ∷ [])
    -- request 0: code 15
    ∷ example (asks None (hz 216000000) (hz 0) None false None)
    (0 ∷ 223 ∷ 1 ∷ 8 ∷ 216 ∷ 2 ∷ 2 ∷ 216000000 ∷ 216000000 ∷ 421875 ∷ 421875 ∷ 421875 ∷ 421875 ∷ 421875 ∷ 15 ∷ 0 ∷ 0 ∷ 7 ∷ 1 ∷ 1 ∷ 0 ∷ [])
    -- HCLK 216 MHz, PCLK1 request 36 MHz (ratio 6): 54 MHz
    ∷ example (asks None (hz 216000000) None (hz 36000000) false None)
    (0 ∷ 223 ∷ 1 ∷ 8 ∷ 216 ∷ 2 ∷ 2 ∷ 216000000 ∷ 216000000 ∷ 216000000 ∷ 54000000 ∷ 108000000 ∷ 108000000 ∷ 216000000 ∷ 0 ∷ 5 ∷ 4 ∷ 7 ∷ 1 ∷ 1 ∷ 0 ∷ [])
    -- request 12.5 MHz: 13.5 MHz
    ∷ example (asks None (hz 216000000) None (hz 12500000) false None)
    (0 ∷ 223 ∷ 1 ∷ 8 ∷ 216 ∷ 2 ∷ 2 ∷ 216000000 ∷ 216000000 ∷ 216000000 ∷ 13500000 ∷ 108000000 ∷ 27000000 ∷ 216000000 ∷ 0 ∷ 7 ∷ 4 ∷ 7 ∷ 1 ∷ 1 ∷ 0 ∷ [])
    -- ours: bypass 2,268,000 with Q sought: the search finds M 2, N 380, Q 9 after 53 passes; its 48 MHz output derives as 47,879,984, not valid
    ∷ example (asks (bypass 2268000) None None None false (Some Pllq))
    (0 ∷ 53 ∷ 0 ∷ 2 ∷ 380 ∷ 2 ∷ 9 ∷ 47879984 ∷ 2268000 ∷ 2268000 ∷ 2268000 ∷ 2268000 ∷ 2268000 ∷ 2268000 ∷ 0 ∷ 0 ∷ 0 ∷ 0 ∷ 3 ∷ 0 ∷ 0 ∷ [])
    ∷ []
