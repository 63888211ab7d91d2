-- Settings as they stand and what derive answers: where an exact ceiling and the f32 ratio part, and where a 48 MHz output is just in or out of its window.
use Rattle.std.specs.Prelude.{ℕ, Bool, true, false, List, [], ◌∷◌, Option, None, Some, Result, Ok, Err}
use Rattle.kinds.specs.Config.{defaults}
use Rattle.kinds.specs.Codes.{flag_of}
use Rattle.kinds.specs.Refusals.{number_of}
use Rattle.kinds.specs.declared.refusals.Refusal.{Refusal}
use Rattle.kinds.specs.declared.CFGR.{CFGR}
use Rattle.kinds.specs.declared.HSEClock.{HSEClock}
use Rattle.kinds.specs.declared.HSEClock.TheVariants.{Bypass}
use Rattle.kinds.specs.declared.Hertz.{Hertz}
use Rattle.kinds.specs.declared.PLL48CLK.{PLL48CLK}
use Rattle.kinds.specs.declared.PLL48CLK.TheVariants.{Pllq}
use Rattle.kinds.specs.declared.PLLP.TheVariants.{Div2}
use Rattle.clocks.specs.declared.Derived.{Derived}

-- a refusal: its number. Clocks: 0, SYSCLK, HCLK, HPRE, 48 MHz valid
abbrev pub shown : Result Derived Refusal → List ℕ
shown (Err r) = number_of r ∷ []
shown (Ok d) = 0 ∷ d.clocks.sysclk.0 ∷ d.clocks.hclk.0 ∷ d.config.hpre ∷ flag_of d.clocks.pll48clk_valid ∷ []

-- the Rust's defaults with an HSE, an HCLK request, `use_pll`, a 48 MHz choice and M, N, Q
abbrev pub stands : Option HSEClock → Option Hertz → Bool → Option PLL48CLK → ℕ → ℕ → ℕ → CFGR
stands hse hclk on choice m n q =
    record {
      sources = record { hse = hse; lse = None; lsi = false };
      requests = record { hclk = hclk; sysclk = None; pclk1 = None; pclk2 = None };
      pll = record { use_pll = on; pll48clk = choice; m = record { 0 = m }; n = record { 0 = n }; p = Div2; q = record { 0 = q } };
      sai = defaults.sai;
      i2s = defaults.i2s;
      mco = defaults.mco;
    }

abbrev hz : ℕ → Option Hertz
hz x = Some (record { 0 = x })

abbrev bypass : ℕ → Option HSEClock
bypass x = Some (Bypass (record { 0 = x }))

pub record Example : Type 0 where
  pub config : CFGR
  pub answer : List ℕ

abbrev example : CFGR → List ℕ → Example
example c l = record { config = c; answer = l }

abbrev pub examples : List Example
examples =
    -- SYSCLK 216 MHz: HCLK request 215,999,999 gets 216,000,000, document 01's; the exact ceiling is 2
    example (stands None (hz 215999999) true None 8 216 2) (0 ∷ 216000000 ∷ 216000000 ∷ 0 ∷ 0 ∷ [])
    -- the ends of HPRE's rows 128 and 256: ratio 191 where the exact ceiling is 192, and 383 where it is 384
    ∷ example (stands (bypass 25102176) (hz 131425) false None 2 50 2) (0 ∷ 25102176 ∷ 196110 ∷ 13 ∷ 0 ∷ [])
    ∷ example (stands (bypass 25100672) (hz 65537) false None 2 50 2) (0 ∷ 25100672 ∷ 98049 ∷ 14 ∷ 0 ∷ [])
    -- PLLQ derives 47,999,984: valid, document 01's
    ∷ example (stands None None false (Some Pllq) 8 216 9) (0 ∷ 16000000 ∷ 16000000 ∷ 0 ∷ 1 ∷ [])
    -- PLLQ derives 47,879,984, of settings that a search for Q finds: not valid
    ∷ example (stands (bypass 2268000) None false (Some Pllq) 2 380 9) (0 ∷ 2268000 ∷ 2268000 ∷ 0 ∷ 0 ∷ [])
    ∷ []
