-- A setter call by its number and its arguments as numbers: the setters in this order, from 0; each code in the Rust's order.
use Rattle.std.specs.Prelude.{ℕ, Bool, true, false, List, [], ◌∷◌, get_or, Option, Some, None}
use Rattle.calls.specs.declared.Setter.{Setter}
use Rattle.calls.specs.declared.Setter.TheVariants.{Hse, Hclk, Sysclk, Pclk1, Pclk2, Lse, Lsi, UsePll, UsePll48clk, Pllm, Plln, Pllp, Pllq, UsePllsai, Pllsain, Pllsaip, Pllsaiq, UsePlli2s, Plli2sn, Plli2sq, Plli2sr, Mco1, Mco1pre, Mco2, Mco2pre, SetDefaults}
use Rattle.kinds.specs.declared.HSEClockMode.TheVariants.{Oscillator, Bypass}
use Rattle.kinds.specs.declared.LSEClockMode.TheVariants.{Oscillator as LseOscillator, Bypass as LseBypass}
use Rattle.kinds.specs.declared.PLL48CLK.TheVariants.{Pllq as FromPllq, Pllsai as FromPllsai}
use Rattle.kinds.specs.declared.PLLP.{PLLP}
use Rattle.kinds.specs.declared.PLLP.TheVariants.{Div2, Div4, Div6, Div8}
use Rattle.kinds.specs.declared.MCO1.TheVariants.{Hsi, Lse as LseOut, Hse as HseOut, Pll as PllOut}
use Rattle.kinds.specs.declared.MCO2.TheVariants.{Sysclk as SysclkOut, Plli2s as Plli2sOut, Hse as HseOut2, Pll as PllOut2}
use Rattle.kinds.specs.declared.MCOPRE.{MCOPRE}
use Rattle.kinds.specs.declared.MCOPRE.TheVariants.{Div1, Div2 as By2, Div3 as By3, Div4 as By4, Div5 as By5}

-- the call at a number of a list; past its end, none
unfoldable pub nth : List (Option Setter) → ℕ → Option Setter
nth l i = get_or l i None

abbrev pub hse : ℕ → ℕ → Option Setter
hse f code = nth (Some (Hse (record { 0 = f }) Oscillator) ∷ Some (Hse (record { 0 = f }) Bypass) ∷ []) code

abbrev pub lse : ℕ → Option Setter
lse code = nth (Some (Lse LseOscillator) ∷ Some (Lse LseBypass) ∷ []) code

abbrev pub choice : ℕ → Option Setter
choice code = nth (Some (UsePll48clk FromPllq) ∷ Some (UsePll48clk FromPllsai) ∷ []) code

abbrev pub pllp_call : Bool → PLLP → Option Setter
pllp_call true x = Some (Pllsaip x)
pllp_call false x = Some (Pllp x)

abbrev pub pllp : Bool → ℕ → Option Setter
pllp sai code = nth (pllp_call sai Div2 ∷ pllp_call sai Div4 ∷ pllp_call sai Div6 ∷ pllp_call sai Div8 ∷ []) code

abbrev pub mco1 : ℕ → Option Setter
mco1 code = nth (Some (Mco1 Hsi) ∷ Some (Mco1 LseOut) ∷ Some (Mco1 HseOut) ∷ Some (Mco1 PllOut) ∷ []) code

abbrev pub mco2 : ℕ → Option Setter
mco2 code = nth (Some (Mco2 SysclkOut) ∷ Some (Mco2 Plli2sOut) ∷ Some (Mco2 HseOut2) ∷ Some (Mco2 PllOut2) ∷ []) code

abbrev pub mcopre_call : Bool → MCOPRE → Option Setter
mcopre_call true x = Some (Mco2pre x)
mcopre_call false x = Some (Mco1pre x)

abbrev pub mcopre : Bool → ℕ → Option Setter
mcopre two code = nth (mcopre_call two Div1 ∷ mcopre_call two By2 ∷ mcopre_call two By3 ∷ mcopre_call two By4 ∷ mcopre_call two By5 ∷ []) code

abbrev pub calls : ℕ → ℕ → List (Option Setter)
calls a b =
    hse a b
    ∷ Some (Hclk (record { 0 = a }))
    ∷ Some (Sysclk (record { 0 = a }))
    ∷ Some (Pclk1 (record { 0 = a }))
    ∷ Some (Pclk2 (record { 0 = a }))
    ∷ lse a
    ∷ Some Lsi
    ∷ Some UsePll
    ∷ choice a
    ∷ Some (Pllm (record { 0 = a }))
    ∷ Some (Plln (record { 0 = a }))
    ∷ pllp false a
    ∷ Some (Pllq (record { 0 = a }))
    ∷ Some UsePllsai
    ∷ Some (Pllsain (record { 0 = a }))
    ∷ pllp true a
    ∷ Some (Pllsaiq (record { 0 = a }))
    ∷ Some UsePlli2s
    ∷ Some (Plli2sn (record { 0 = a }))
    ∷ Some (Plli2sq (record { 0 = a }))
    ∷ Some (Plli2sr (record { 0 = a }))
    ∷ mco1 a
    ∷ mcopre false a
    ∷ mco2 a
    ∷ mcopre true a
    ∷ Some SetDefaults
    ∷ []

-- arguments that a setter does not have are passed over
abbrev pub named_of : ℕ → ℕ → ℕ → Option Setter
named_of setter a b = nth (calls a b) setter
