-- Document 01, "Request record": the configuration that the bytes hold, group by group.
use Rattle.std.specs.Prelude.{ℕ, Bool, true, false, cond, List, get_or, eqb, None, Option, Some, Result, Ok, Err}
use Rattle.record.specs.Numbers.{u16_at, u32_at, flag_at}
use Rattle.record.specs.Places.{hse_flag, hse_bypass_flag, hclk_flag, sysclk_flag, pclk1_flag, pclk2_flag, lse_flag, lse_bypass_flag, lsi_flag, use_pll_flag, choice48_flag, choice_pllsai_flag, pllsai_flag, plli2s_flag}
use Rattle.record.specs.Places.{m_at, p_at, q_at, pllsai_p_at, pllsai_q_at, plli2s_r_at, plli2s_q_at, mco1_at, mco1pre_at, mco2_at, mco2pre_at, n_at, pllsai_n_at, plli2s_n_at, hse_at, hclk_at, sysclk_at, pclk1_at, pclk2_at}
use Rattle.kinds.specs.declared.codes.UnknownCode.{UnknownCode}
use Rattle.kinds.specs.declared.CFGR.{CFGR}
use Rattle.kinds.specs.declared.Sources.{Sources}
use Rattle.kinds.specs.declared.Requests.{Requests}
use Rattle.kinds.specs.declared.Pll.{Pll}
use Rattle.kinds.specs.declared.Sai.{Sai}
use Rattle.kinds.specs.declared.I2s.{I2s}
use Rattle.kinds.specs.declared.Mco.{Mco}
use Rattle.kinds.specs.declared.Divider.{Divider}
use Rattle.kinds.specs.declared.Factor.{Factor}
use Rattle.kinds.specs.declared.Hertz.{Hertz}
use Rattle.kinds.specs.declared.PLLP.{PLLP}
use Rattle.kinds.specs.declared.PLLP.TheVariants.{Div2 as PDiv2, Div4 as PDiv4, Div6, Div8}
use Rattle.kinds.specs.declared.MCO1.{MCO1}
use Rattle.kinds.specs.declared.MCO1.TheVariants.{Hsi, Lse, Hse as Mco1Hse, Pll as Mco1Pll}
use Rattle.kinds.specs.declared.MCO2.{MCO2}
use Rattle.kinds.specs.declared.MCO2.TheVariants.{Sysclk, Plli2s, Hse as Mco2Hse, Pll as Mco2Pll}
use Rattle.kinds.specs.declared.MCOPRE.{MCOPRE}
use Rattle.kinds.specs.declared.MCOPRE.TheVariants.{Div1, Div2, Div3, Div4, Div5}
use Rattle.kinds.specs.declared.HSEClock.{HSEClock}
use Rattle.kinds.specs.declared.HSEClock.TheVariants.{Oscillator as HseOscillator, Bypass as HseBypass}
use Rattle.kinds.specs.declared.LSEClockMode.{LSEClockMode}
use Rattle.kinds.specs.declared.LSEClockMode.TheVariants.{Oscillator as LseOscillator, Bypass as LseBypass}
use Rattle.kinds.specs.declared.PLL48CLK.{PLL48CLK}
use Rattle.kinds.specs.declared.PLL48CLK.TheVariants.{Pllq, Pllsai}

-- a divider is a byte, a factor a u16, a frequency a u32
unfoldable pub divider_at : List ℕ → ℕ → Divider
divider_at b at = record { 0 = get_or b at 0 }

unfoldable pub factor_at : List ℕ → ℕ → Factor
factor_at b at = record { 0 = u16_at b at }

unfoldable pub hertz_at : List ℕ → ℕ → Hertz
hertz_at b at = record { 0 = u32_at b at }

-- codes from 0, in the Rust's order; none past the last is in a record that keeps the layout
unfoldable pub p_of : ℕ → PLLP
p_of k = cond (eqb k 0) PDiv2 (cond (eqb k 1) PDiv4 (cond (eqb k 2) Div6 Div8))

unfoldable pub mco1_of : ℕ → MCO1
mco1_of k = cond (eqb k 0) Hsi (cond (eqb k 1) Lse (cond (eqb k 2) Mco1Hse Mco1Pll))

unfoldable pub mco2_of : ℕ → MCO2
mco2_of k = cond (eqb k 0) Sysclk (cond (eqb k 1) Plli2s (cond (eqb k 2) Mco2Hse Mco2Pll))

unfoldable pub mcopre_of : ℕ → MCOPRE
mcopre_of k = cond (eqb k 0) Div1 (cond (eqb k 1) Div2 (cond (eqb k 2) Div3 (cond (eqb k 3) Div4 Div5)))

-- what is read by a law of codes: the value that it gives, or the last where it gives none
pub data Coded {T : Type 0} (gives : ℕ → Result T UnknownCode → Type 0) (n : ℕ) (last : T) : T → Type 0 where
  read : {x : T} → gives n (Ok x) → Coded gives n last x
  unread : {e : UnknownCode} → gives n (Err e) → Coded gives n last last

-- what is present by its flag, and which by the second flag
abbrev pub chosen : {T : Type 0} → Bool → Bool → T → T → Option T
chosen true true on off = Some on
chosen true false on off = Some off
chosen false second on off = None

abbrev pub hse_from : Bool → Bool → Hertz → Option HSEClock
hse_from present bypass f = chosen present bypass (HseBypass f) (HseOscillator f)

abbrev pub lse_from : Bool → Bool → Option LSEClockMode
lse_from present bypass = chosen present bypass LseBypass LseOscillator

abbrev pub choice_of : Bool → Bool → Option PLL48CLK
choice_of present pllsai = chosen present pllsai Pllsai Pllq

unfoldable pub request_at : List ℕ → ℕ → ℕ → Option Hertz
request_at b flag at = cond (flag_at b flag) (Some (hertz_at b at)) None

unfoldable pub sources_of : List ℕ → Sources
sources_of b = record {
  hse = hse_from (flag_at b hse_flag) (flag_at b hse_bypass_flag) (hertz_at b hse_at);
  lse = lse_from (flag_at b lse_flag) (flag_at b lse_bypass_flag);
  lsi = flag_at b lsi_flag;
}

unfoldable pub requests_of : List ℕ → Requests
requests_of b = record {
  hclk = request_at b hclk_flag hclk_at;
  sysclk = request_at b sysclk_flag sysclk_at;
  pclk1 = request_at b pclk1_flag pclk1_at;
  pclk2 = request_at b pclk2_flag pclk2_at;
}

unfoldable pub pll_of : List ℕ → Pll
pll_of b = record {
  use_pll = flag_at b use_pll_flag;
  pll48clk = choice_of (flag_at b choice48_flag) (flag_at b choice_pllsai_flag);
  m = divider_at b m_at;
  n = factor_at b n_at;
  p = p_of (get_or b p_at 0);
  q = divider_at b q_at;
}

unfoldable pub sai_of : List ℕ → Sai
sai_of b = record {
  use_pllsai = flag_at b pllsai_flag;
  n = factor_at b pllsai_n_at;
  p = p_of (get_or b pllsai_p_at 0);
  q = divider_at b pllsai_q_at;
}

unfoldable pub i2s_of : List ℕ → I2s
i2s_of b = record {
  use_plli2s = flag_at b plli2s_flag;
  n = factor_at b plli2s_n_at;
  r = divider_at b plli2s_r_at;
  q = divider_at b plli2s_q_at;
}

unfoldable pub mco_of : List ℕ → Mco
mco_of b = record {
  mco1 = mco1_of (get_or b mco1_at 0);
  mco1pre = mcopre_of (get_or b mco1pre_at 0);
  mco2 = mco2_of (get_or b mco2_at 0);
  mco2pre = mcopre_of (get_or b mco2pre_at 0);
}

unfoldable pub cfgr_of : List ℕ → CFGR
cfgr_of b = record {
  sources = sources_of b;
  requests = requests_of b;
  pll = pll_of b;
  sai = sai_of b;
  i2s = i2s_of b;
  mco = mco_of b;
}
