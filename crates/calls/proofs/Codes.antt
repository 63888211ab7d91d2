-- The setter that a number and a code name is that of the value which has this code: the codes are those that kinds gives.
use Prim.Native.Nat.{ℕ}
use mathlib.Core.Path.{◌≡◌, refl}
use mathlib.Core.Bool.{Bool, true, false, cond}
use Rattle.kinds.specs.Codes.{pllp_code, mco1_code, mco2_code, mcopre_code}
use Rattle.kinds.specs.declared.HSEClockMode.TheVariants.{Oscillator, Bypass}
use Rattle.kinds.specs.declared.LSEClockMode.TheVariants.{Oscillator as LseOscillator, Bypass as LseBypass}
use Rattle.kinds.specs.declared.PLL48CLK.TheVariants.{Pllq as FromPllq, Pllsai as FromPllsai}
use Rattle.kinds.specs.declared.PLLP.{PLLP}
use Rattle.kinds.specs.declared.PLLP.TheVariants.{Div2, Div4, Div6, Div8}
use Rattle.kinds.specs.declared.MCO1.{MCO1}
use Rattle.kinds.specs.declared.MCO1.TheVariants.{Hsi, Lse as LseOut, Hse as HseOut, Pll}
use Rattle.kinds.specs.declared.MCO2.{MCO2}
use Rattle.kinds.specs.declared.MCO2.TheVariants.{Sysclk, Plli2s, Hse as Hse2, Pll as Pll2}
use Rattle.kinds.specs.declared.MCOPRE.{MCOPRE}
use Rattle.kinds.specs.declared.MCOPRE.TheVariants.{Div1, Div2 as By2, Div3, Div4 as By4, Div5}
use Rattle.calls.specs.Named.{nth, pllp_call, pllp, mcopre_call, mcopre, named_of}
use Rattle.calls.specs.declared.Setter.TheVariants.{Hse, Lse, UsePll48clk, Pllp, Pllsaip, Mco1, Mco1pre, Mco2, Mco2pre}
use Rattle.std.specs.Prelude.{Some}

-- P of either PLL, and the prescaler of either MCO
pllp_coded : (sai : Bool) (x : PLLP) → pllp sai (pllp_code x) ≡ pllp_call sai x
unfolding nth
pllp_coded sai Div2 = refl
pllp_coded sai Div4 = refl
pllp_coded sai Div6 = refl
pllp_coded sai Div8 = refl

mcopre_coded : (two : Bool) (x : MCOPRE) → mcopre two (mcopre_code x) ≡ mcopre_call two x
unfolding nth
mcopre_coded two Div1 = refl
mcopre_coded two By2 = refl
mcopre_coded two Div3 = refl
mcopre_coded two By4 = refl
mcopre_coded two Div5 = refl

-- the setter pllp
pub named_p : (x : PLLP) (b : ℕ) → named_of 11 (pllp_code x) b ≡ Some (Pllp x)
unfolding nth
named_p x b = pllp_coded false x

-- the setter pllsaip
pub named_pllsaip : (x : PLLP) (b : ℕ) → named_of 15 (pllp_code x) b ≡ Some (Pllsaip x)
unfolding nth
named_pllsaip x b = pllp_coded true x

-- the setter mco1
pub named_mco1 : (x : MCO1) (b : ℕ) → named_of 21 (mco1_code x) b ≡ Some (Mco1 x)
unfolding nth
named_mco1 Hsi b = refl
named_mco1 LseOut b = refl
named_mco1 HseOut b = refl
named_mco1 Pll b = refl

-- the setter mco1pre
pub named_mco1pre : (x : MCOPRE) (b : ℕ) → named_of 22 (mcopre_code x) b ≡ Some (Mco1pre x)
unfolding nth
named_mco1pre x b = mcopre_coded false x

-- the setter mco2
pub named_mco2 : (x : MCO2) (b : ℕ) → named_of 23 (mco2_code x) b ≡ Some (Mco2 x)
unfolding nth
named_mco2 Sysclk b = refl
named_mco2 Plli2s b = refl
named_mco2 Hse2 b = refl
named_mco2 Pll2 b = refl

-- the setter mco2pre
pub named_mco2pre : (x : MCOPRE) (b : ℕ) → named_of 24 (mcopre_code x) b ≡ Some (Mco2pre x)
unfolding nth
named_mco2pre x b = mcopre_coded true x

-- the setters hse and lse: 1 for bypass, as HSEBYP and LSEBYP have it
pub named_hse : (bypass : Bool) (f : ℕ) → named_of 0 f (cond bypass 1 0) ≡ Some (Hse (record { 0 = f }) (cond bypass Bypass Oscillator))
unfolding nth
named_hse true f = refl
named_hse false f = refl

pub named_lse : (bypass : Bool) (b : ℕ) → named_of 5 (cond bypass 1 0) b ≡ Some (Lse (cond bypass LseBypass LseOscillator))
unfolding nth
named_lse true b = refl
named_lse false b = refl

-- the setter use_pll48clk: 1 for PLLSAI, as CK48MSEL has it
pub named_choice : (pllsai : Bool) (b : ℕ) → named_of 8 (cond pllsai 1 0) b ≡ Some (UsePll48clk (cond pllsai FromPllsai FromPllq))
unfolding nth
named_choice true b = refl
named_choice false b = refl
