-- Document 01, "Start-up": flags and enums as numbers, in the Rust's order from 0, and what a number is read as; "Search": P as the
-- divider that it is; a request's hertz.
use Rattle.std.specs.Prelude.{ℕ, Bool, true, false, Result, MatchResult, ◌≡◌, ◌≢◌, None, Option, Some}
use Rattle.kinds.specs.declared.Hertz.{Hertz}
use Rattle.kinds.specs.declared.codes.UnknownCode.{UnknownCode}
use Rattle.kinds.specs.declared.HSEClockMode.{HSEClockMode}
use Rattle.kinds.specs.declared.HSEClockMode.TheVariants.{Oscillator, Bypass}
use Rattle.kinds.specs.declared.LSEClockMode.{LSEClockMode}
use Rattle.kinds.specs.declared.LSEClockMode.TheVariants.{Oscillator as LseOscillator, Bypass as LseBypass}
use Rattle.kinds.specs.declared.PLL48CLK.{PLL48CLK}
use Rattle.kinds.specs.declared.PLL48CLK.TheVariants.{Pllq, Pllsai}
use Rattle.kinds.specs.declared.PLLP.{PLLP}
use Rattle.kinds.specs.declared.PLLP.TheVariants.{Div2, Div4, Div6, Div8}
use Rattle.kinds.specs.declared.MCO1.{MCO1}
use Rattle.kinds.specs.declared.MCO1.TheVariants.{Hsi, Lse, Hse, Pll}
use Rattle.kinds.specs.declared.MCO2.{MCO2}
use Rattle.kinds.specs.declared.MCO2.TheVariants.{Sysclk, Plli2s, Hse as Hse2, Pll as Pll2}
use Rattle.kinds.specs.declared.MCOPRE.{MCOPRE}
use Rattle.kinds.specs.declared.MCOPRE.TheVariants.{Div1, Div2 as By2, Div3, Div4 as By4, Div5}

abbrev pub flag_of : Bool → ℕ
flag_of true = 1
flag_of false = 0

-- 0 where nothing is asked for
abbrev pub asked_hertz : Option Hertz → ℕ
asked_hertz None = 0
asked_hertz (Some f) = f.0

-- a number read: the value whose code it is, or an error that holds the number where no value has it
abbrev pub Decodes : {T : Type 0} → (T → ℕ) → ℕ → Result T UnknownCode → Type 0
Decodes {T} code n r = MatchResult r (λ x. code x ≡ n) (λ e. (e.0 ≡ n) × ((x : T) → code x ≢ n))

abbrev pub hse_mode_code : HSEClockMode → ℕ
hse_mode_code Oscillator = 0
hse_mode_code Bypass = 1

abbrev pub lse_mode_code : LSEClockMode → ℕ
lse_mode_code LseOscillator = 0
lse_mode_code LseBypass = 1

abbrev pub pll48clk_code : PLL48CLK → ℕ
pll48clk_code Pllq = 0
pll48clk_code Pllsai = 1

abbrev pub pllp_code : PLLP → ℕ
pllp_code Div2 = 0
pllp_code Div4 = 1
pllp_code Div6 = 2
pllp_code Div8 = 3

abbrev pub p_divider_of : PLLP → ℕ
p_divider_of Div2 = 2
p_divider_of Div4 = 4
p_divider_of Div6 = 6
p_divider_of Div8 = 8

abbrev pub mco1_code : MCO1 → ℕ
mco1_code Hsi = 0
mco1_code Lse = 1
mco1_code Hse = 2
mco1_code Pll = 3

abbrev pub mco2_code : MCO2 → ℕ
mco2_code Sysclk = 0
mco2_code Plli2s = 1
mco2_code Hse2 = 2
mco2_code Pll2 = 3

abbrev pub mcopre_code : MCOPRE → ℕ
mcopre_code Div1 = 0
mcopre_code By2 = 1
mcopre_code Div3 = 2
mcopre_code By4 = 3
mcopre_code Div5 = 4
