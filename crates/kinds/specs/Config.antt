-- The Rust's defaults (document 01, "Request record") and the input of the PLLs ("Fixed point").
use Rattle.std.specs.Prelude.{ℕ, false, None, Option, Some}
use Rattle.kinds.specs.declared.CFGR.{CFGR}
use Rattle.kinds.specs.declared.PLLP.TheVariants.{Div2}
use Rattle.kinds.specs.declared.HSEClock.{HSEClock}
use Rattle.kinds.specs.declared.HSEClock.TheVariants.{Oscillator, Bypass}
use Rattle.kinds.specs.declared.MCO1.TheVariants.{Hsi}
use Rattle.kinds.specs.declared.MCO2.TheVariants.{Sysclk}
use Rattle.kinds.specs.declared.MCOPRE.TheVariants.{Div1}

-- what the Rust starts with
abbrev pub defaults : CFGR
defaults = record {
  sources = record { hse = None; lse = None; lsi = false };
  requests = record { hclk = None; sysclk = None; pclk1 = None; pclk2 = None };
  pll = record { use_pll = false; pll48clk = None; m = record { 0 = 2 }; n = record { 0 = 50 }; p = Div2; q = record { 0 = 2 } };
  sai = record { use_pllsai = false; n = record { 0 = 192 }; p = Div2; q = record { 0 = 2 } };
  i2s = record { use_plli2s = false; n = record { 0 = 192 }; r = record { 0 = 2 }; q = record { 0 = 2 } };
  mco = record { mco1 = Hsi; mco1pre = Div1; mco2 = Sysclk; mco2pre = Div1 };
}

-- the input is HSE if given, else HSI, 16,000,000
unfoldable pub input_of : Option HSEClock → ℕ
input_of None = 16000000
input_of (Some (Oscillator f)) = f.0
input_of (Some (Bypass f)) = f.0
