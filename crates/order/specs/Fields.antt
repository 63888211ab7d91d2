-- The fields that a plan stores, by kind of plan, each with the value that it ends at; every other place is never touched.
use Rattle.std.specs.Prelude.{ℕ, ◌≡◌, Bool, true, false, cond, List, [], ◌∷◌, ◌++◌, eqb, get_or, None, Option, Some}
use Rattle.kinds.specs.declared.CFGR.{CFGR}
use Rattle.kinds.specs.declared.HSEClock.{HSEClock}
use Rattle.kinds.specs.declared.HSEClock.TheVariants.{Oscillator, Bypass}
use Rattle.kinds.specs.declared.LSEClockMode.{LSEClockMode}
use Rattle.kinds.specs.declared.LSEClockMode.TheVariants.{Oscillator as LseOscillator, Bypass as LseBypass}
use Rattle.kinds.specs.declared.PLL48CLK.{PLL48CLK}
use Rattle.kinds.specs.declared.PLL48CLK.TheVariants.{Pllq, Pllsai}
use Rattle.kinds.specs.declared.Pll.{Pll}
use Rattle.kinds.specs.declared.Sai.{Sai}
use Rattle.kinds.specs.declared.I2s.{I2s}
use Rattle.kinds.specs.declared.Mco.{Mco}
use Rattle.clocks.specs.declared.InternalRCCConfig.{InternalRCCConfig}
use Rattle.order.specs.Places.{HSION, HSEBYP, HSEON, PLLON, PLLSAION, PLLI2SON, SW, PWREN, VOS, ODEN, ODSWEN, LSEBYP, LSEON, LSION, CK48MSEL}
use Rattle.order.specs.Order.{pllcfgr, pllsaicfgr, plli2scfgr, mco_fields, acr, prescalers, sw_of, pll_stored}

-- every plan: HSION
abbrev pub hsi_fields : List (ℕ × ℕ)
hsi_fields = (HSION, 1) ∷ []

-- with HSE
abbrev pub hse_fields : Option HSEClock → List (ℕ × ℕ)
hse_fields None = []
hse_fields (Some (Oscillator f)) = (HSEBYP, 0) ∷ (HSEON, 1) ∷ []
hse_fields (Some (Bypass f)) = (HSEBYP, 1) ∷ (HSEON, 1) ∷ []

-- with over-drive
abbrev pub over_fields : Bool → List (ℕ × ℕ)
over_fields b = cond b ((ODEN, 1) ∷ (ODSWEN, 1) ∷ []) []

-- with `use_pll` or a 48 MHz choice
abbrev pub pll_fields : Option HSEClock → Pll → InternalRCCConfig → List (ℕ × ℕ)
pll_fields h l y = cond (pll_stored l) (pllcfgr h l ++ (PWREN, 1) ∷ (VOS, y.vos_scale) ∷ (PLLON, 1) ∷ over_fields y.overdrive) []

-- with LSE
abbrev pub lse_fields : Option LSEClockMode → List (ℕ × ℕ)
lse_fields None = []
lse_fields (Some LseOscillator) = (LSEBYP, 0) ∷ (LSEON, 1) ∷ []
lse_fields (Some LseBypass) = (LSEBYP, 1) ∷ (LSEON, 1) ∷ []

-- with LSI
abbrev pub lsi_fields : Bool → List (ℕ × ℕ)
lsi_fields b = cond b ((LSION, 1) ∷ []) []

-- with PLLSAI
abbrev pub sai_fields : Sai → List (ℕ × ℕ)
sai_fields a = cond a.use_pllsai (pllsaicfgr a ++ (PLLSAION, 1) ∷ []) []

-- with a 48 MHz choice
abbrev pub choice_fields : Option PLL48CLK → List (ℕ × ℕ)
choice_fields None = []
choice_fields (Some Pllq) = (CK48MSEL, 0) ∷ []
choice_fields (Some Pllsai) = (CK48MSEL, 1) ∷ []

-- with PLLI2S
abbrev pub i2s_fields : I2s → List (ℕ × ℕ)
i2s_fields i = cond i.use_plli2s (plli2scfgr i ++ (PLLI2SON, 1) ∷ []) []

-- every plan: MCO, LATENCY and the other ACR bits, prescalers, SW
abbrev pub last_fields : Mco → InternalRCCConfig → ℕ → List (ℕ × ℕ)
last_fields o y sw = mco_fields o ++ acr y ++ prescalers y ++ (SW, sw) ∷ []

-- d is the configuration as planned, y its field codes
abbrev pub fields_of : CFGR → InternalRCCConfig → List (ℕ × ℕ)
fields_of d y =
    hsi_fields
    ++ (hse_fields d.sources.hse
    ++ (pll_fields d.sources.hse d.pll y
    ++ (lse_fields d.sources.lse
    ++ (lsi_fields d.sources.lsi
    ++ (sai_fields d.sai
    ++ (choice_fields d.pll.pll48clk
    ++ (i2s_fields d.i2s
    ++ last_fields d.mco y (sw_of d.sources.hse d.pll))))))))

-- whether the place q is among the fields
abbrev pub names : ℕ → List (ℕ × ℕ) → Bool
names q [] = false
names q (w ∷ ws) = cond (eqb q w.0) true (names q ws)

-- each of the fields is at its value
abbrev pub Holds : List (ℕ × ℕ) → List ℕ → Type 0
Holds [] f = Unit
Holds (w ∷ ws) f = (get_or f w.0 0 ≡ w.1) × Holds ws f
