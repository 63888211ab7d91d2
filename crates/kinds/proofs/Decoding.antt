-- Writing an enum as a number and reading a number as an enum are inverse: by one law for every enum whose codes differ, and each one's do;
-- and a number that is read as no value is past the last code.
use Prim.Native.Nat.{ℕ, ◌≤◌}
use mathlib.Core.Path.{◌≡◌, refl, ap, sym, ◌∙◌}
use mathlib.Core.List.{List, [], ◌∷◌}
use native.Mathlib.Omega.{arith}
use Rattle.std.specs.Prelude.{Result, Ok, Err, Some, None, ◌≢◌, slice_get}
use Rattle.std.specs.Result.{result_ok}
use Rattle.kinds.specs.Codes.{Decodes, hse_mode_code, lse_mode_code, pll48clk_code, pllp_code, mco1_code, mco2_code, mcopre_code}
use Rattle.kinds.specs.declared.codes.UnknownCode.{UnknownCode}
use Rattle.kinds.specs.declared.HSEClockMode.{HSEClockMode}
use Rattle.kinds.specs.declared.HSEClockMode.TheVariants.{Oscillator, Bypass}
use Rattle.kinds.specs.declared.LSEClockMode.{LSEClockMode}
use Rattle.kinds.specs.declared.LSEClockMode.TheVariants.{Oscillator as LseOscillator, Bypass as LseBypass}
use Rattle.kinds.specs.declared.PLL48CLK.{PLL48CLK}
use Rattle.kinds.specs.declared.PLL48CLK.TheVariants.{Pllq, Pllsai}
use Rattle.kinds.specs.declared.PLLP.{PLLP}
use Rattle.kinds.specs.declared.PLLP.TheVariants.{Div2, Div4, Div6, Div8}
use Rattle.kinds.specs.declared.MCO1.{MCO1}
use Rattle.kinds.specs.declared.MCO1.TheVariants.{Hsi, Lse, Hse, Pll}
use Rattle.kinds.specs.declared.MCO2.{MCO2}
use Rattle.kinds.specs.declared.MCO2.TheVariants.{Sysclk, Plli2s, Hse as Hse2, Pll as Pll2}
use Rattle.kinds.specs.declared.MCOPRE.{MCOPRE}
use Rattle.kinds.specs.declared.MCOPRE.TheVariants.{Div1, Div2 as By2, Div3, Div4 as By4, Div5}

-- no two values have one code
abbrev pub Differ : {T : Type 0} → (T → ℕ) → Type 0
Differ {T} code = (x y : T) → code x ≡ code y → x ≡ y

-- a value's code is read as that value, and as nothing else
pub read_back : {T : Type 0} {code : T → ℕ} → Differ code → (x : T) (r : Result T UnknownCode) → Decodes code (code x) r → r ≡ Ok x
read_back differ x (Ok y) same = ap (λ z. Ok z) (differ y x same)
read_back differ x (Err e) none = absurd (none.1 x refl)

-- what a number is read as has that number as its code
pub written_back : {T : Type 0} (code : T → ℕ) (n : ℕ) (x : T) → Decodes code n (Ok x) → code x ≡ n
written_back code n x same = same

-- values that stand in a list at their codes differ in them
listed : {T : Type 0} (code : T → ℕ) (values : List T) → ((x : T) → slice_get values (code x) ≡ Some x) → Differ code
listed code values at x y same =
    let both : Some x ≡ Some y = sym (at x) ∙ ap (slice_get values) same ∙ at y in
    cc

pub hse_modes_differ : Differ hse_mode_code
hse_modes_differ = listed hse_mode_code (Oscillator ∷ Bypass ∷ []) (elim [ Oscillator ↦ refl | Bypass ↦ refl ])

pub lse_modes_differ : Differ lse_mode_code
lse_modes_differ = listed lse_mode_code (LseOscillator ∷ LseBypass ∷ []) (elim [ LseOscillator ↦ refl | LseBypass ↦ refl ])

pub pll48clks_differ : Differ pll48clk_code
pll48clks_differ = listed pll48clk_code (Pllq ∷ Pllsai ∷ []) (elim [ Pllq ↦ refl | Pllsai ↦ refl ])

pub pllps_differ : Differ pllp_code
pllps_differ = listed pllp_code (Div2 ∷ Div4 ∷ Div6 ∷ Div8 ∷ []) (elim [ Div2 ↦ refl | Div4 ↦ refl | Div6 ↦ refl | Div8 ↦ refl ])

pub mco1s_differ : Differ mco1_code
mco1s_differ = listed mco1_code (Hsi ∷ Lse ∷ Hse ∷ Pll ∷ []) (elim [ Hsi ↦ refl | Lse ↦ refl | Hse ↦ refl | Pll ↦ refl ])

pub mco2s_differ : Differ mco2_code
mco2s_differ = listed mco2_code (Sysclk ∷ Plli2s ∷ Hse2 ∷ Pll2 ∷ []) (elim [ Sysclk ↦ refl | Plli2s ↦ refl | Hse2 ↦ refl | Pll2 ↦ refl ])

pub mcopres_differ : Differ mcopre_code
mcopres_differ = listed mcopre_code (Div1 ∷ By2 ∷ Div3 ∷ By4 ∷ Div5 ∷ []) (elim [ Div1 ↦ refl | By2 ↦ refl | Div3 ↦ refl | By4 ↦ refl | Div5 ↦ refl ])

-- a number that is read as no value is no value's code
pub unread : {T : Type 0} (code : T → ℕ) {n : ℕ} (r : Result T UnknownCode) → Decodes code n r → result_ok r ≡ None → (x : T) → code x ≢ n
unread code (Ok y) same gone = absurd (cc gone)
unread code (Err e) none gone = none.1

pub hse_mode_past : {n : ℕ} → ((x : HSEClockMode) → hse_mode_code x ≢ n) → 2 ≤ n
hse_mode_past none = let a = none Oscillator in let b = none Bypass in omega arith

pub lse_mode_past : {n : ℕ} → ((x : LSEClockMode) → lse_mode_code x ≢ n) → 2 ≤ n
lse_mode_past none = let a = none LseOscillator in let b = none LseBypass in omega arith

pub pll48clk_past : {n : ℕ} → ((x : PLL48CLK) → pll48clk_code x ≢ n) → 2 ≤ n
pll48clk_past none = let a = none Pllq in let b = none Pllsai in omega arith

pub pllp_past : {n : ℕ} → ((x : PLLP) → pllp_code x ≢ n) → 4 ≤ n
pllp_past none = let a = none Div2 in let b = none Div4 in let c = none Div6 in let d = none Div8 in omega arith

pub mco1_past : {n : ℕ} → ((x : MCO1) → mco1_code x ≢ n) → 4 ≤ n
mco1_past none = let a = none Hsi in let b = none Lse in let c = none Hse in let d = none Pll in omega arith

pub mco2_past : {n : ℕ} → ((x : MCO2) → mco2_code x ≢ n) → 4 ≤ n
mco2_past none = let a = none Sysclk in let b = none Plli2s in let c = none Hse2 in let d = none Pll2 in omega arith

pub mcopre_past : {n : ℕ} → ((x : MCOPRE) → mcopre_code x ≢ n) → 5 ≤ n
mcopre_past none = let a = none Div1 in let b = none By2 in let c = none Div3 in let d = none By4 in let e = none Div5 in omega arith
