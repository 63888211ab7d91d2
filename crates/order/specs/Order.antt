-- Document 01, "Start-up": the stores and waits of a plan, in its order. d is the configuration as planned, y its field codes.
use Rattle.std.specs.Prelude.{ℕ, zero, suc, Bool, true, false, cond, ◌||◌, List, [], ◌∷◌, ◌++◌, None, Option, Some}
use Rattle.kinds.specs.Codes.{pllp_code, mco1_code, mco2_code, mcopre_code}
use Rattle.kinds.specs.declared.CFGR.{CFGR}
use Rattle.kinds.specs.declared.HSEClock.{HSEClock}
use Rattle.kinds.specs.declared.HSEClock.TheVariants.{Oscillator, Bypass}
use Rattle.kinds.specs.declared.LSEClockMode.{LSEClockMode}
use Rattle.kinds.specs.declared.LSEClockMode.TheVariants.{Oscillator as LseOscillator, Bypass as LseBypass}
use Rattle.kinds.specs.declared.PLL48CLK.{PLL48CLK}
use Rattle.kinds.specs.declared.PLL48CLK.TheVariants.{Pllq, Pllsai}
use Rattle.kinds.specs.declared.Pll.{Pll}
use Rattle.kinds.specs.declared.Sai.{Sai}
use Rattle.kinds.specs.declared.I2s.{I2s}
use Rattle.kinds.specs.declared.Mco.{Mco}
use Rattle.clocks.specs.declared.InternalRCCConfig.{InternalRCCConfig}
use Rattle.order.specs.declared.wait.Awaited.{Awaited}
use Rattle.order.specs.declared.wait.Awaited.TheVariants.{Hsi, Hse, Pll as PllReady, Oden, Odswen, Lse, Lsi, Sw}
use Rattle.order.specs.Places.{HSION, HSEBYP, HSEON, PLLON, PLLSAION, PLLI2SON, SW, MCO1, MCO1PRE, MCO2, MCO2PRE, PPRE1, PPRE2, HPRE, PLLM, PLLN, PLLP, PLLQ, PLLSRC, PWREN, VOS, ODEN, ODSWEN, LSEBYP, LSEON, LSION, PLLSAIN, PLLSAIP, PLLSAIQ, CK48MSEL, PLLI2SN, PLLI2SR, PLLI2SQ, LATENCY, OTHER}

-- a store of the places that it names, or a wait; document 01's number of each wait is in Waits
pub data Op : Type 0 where
  put : List (ℕ × ℕ) → Op
  wait : Awaited → Op

abbrev pub one : ℕ → ℕ → Op
one place value = put ((place, value) ∷ [])

-- S HSION; W; S SW = HSI
abbrev pub hsi_ops : List Op
hsi_ops = one HSION 1 ∷ wait Hsi ∷ one SW 0 ∷ []

-- S bypass; S on; W: of HSE and of LSE
abbrev pub crystal_ops : ℕ → ℕ → Awaited → ℕ → List Op
crystal_ops byp on flag bypass = one byp bypass ∷ one on 1 ∷ wait flag ∷ []

-- HSE given: S HSEBYP (1 for bypass); S HSEON; W
abbrev pub hse_ops : Option HSEClock → List Op
hse_ops None = []
hse_ops (Some (Oscillator f)) = crystal_ops HSEBYP HSEON Hse 0
hse_ops (Some (Bypass f)) = crystal_ops HSEBYP HSEON Hse 1

-- 1 with HSE: PLLSRC, and the code of SW (HSI 0, HSE 1)
abbrev pub src_of : Option HSEClock → ℕ
src_of None = 0
src_of (Some h) = 1

-- the five PLL fields
abbrev pub pllcfgr : Option HSEClock → Pll → List (ℕ × ℕ)
pllcfgr h l = (PLLM, l.m.0) ∷ (PLLN, l.n.0) ∷ (PLLP, pllp_code l.p) ∷ (PLLQ, l.q.0) ∷ (PLLSRC, src_of h) ∷ []

-- S PLLON = 0; S the five PLL fields; S PWREN; S VOS; S PLLON = 1; W
abbrev pub pll_on : Option HSEClock → Pll → ℕ → List Op
pll_on h l vos = one PLLON 0 ∷ put (pllcfgr h l) ∷ one PWREN 1 ∷ one VOS vos ∷ one PLLON 1 ∷ wait PllReady ∷ []

-- with over-drive S ODEN; W; S ODSWEN; W
abbrev pub over_ops : Bool → List Op
over_ops b = cond b (one ODEN 1 ∷ wait Oden ∷ one ODSWEN 1 ∷ wait Odswen ∷ []) []

-- a 48 MHz choice
abbrev pub chosen : Option PLL48CLK → Bool
chosen None = false
chosen (Some k) = true

-- whether the plan stores the PLL's fields: `use_pll` or a 48 MHz choice
abbrev pub pll_stored : Pll → Bool
pll_stored l = l.use_pll || chosen l.pll48clk

abbrev pub pll_ops : Option HSEClock → Pll → InternalRCCConfig → List Op
pll_ops h l y = cond (pll_stored l) (pll_on h l y.vos_scale ++ over_ops y.overdrive) []

-- LSE: S LSEBYP (1 for bypass); S LSEON; W
abbrev pub lse_ops : Option LSEClockMode → List Op
lse_ops None = []
lse_ops (Some LseOscillator) = crystal_ops LSEBYP LSEON Lse 0
lse_ops (Some LseBypass) = crystal_ops LSEBYP LSEON Lse 1

-- LSI: S LSION; W
abbrev pub lsi_ops : Bool → List Op
lsi_ops b = cond b (one LSION 1 ∷ wait Lsi ∷ []) []

-- PLLSAI: S its three fields; S PLLSAION
abbrev pub pllsaicfgr : Sai → List (ℕ × ℕ)
pllsaicfgr a = (PLLSAIN, a.n.0) ∷ (PLLSAIP, pllp_code a.p) ∷ (PLLSAIQ, a.q.0) ∷ []

abbrev pub sai_ops : Sai → List Op
sai_ops a = cond a.use_pllsai (put (pllsaicfgr a) ∷ one PLLSAION 1 ∷ []) []

-- 48 MHz choice: S CK48MSEL (1 for PLLSAI)
abbrev pub choice_ops : Option PLL48CLK → List Op
choice_ops None = []
choice_ops (Some Pllq) = one CK48MSEL 0 ∷ []
choice_ops (Some Pllsai) = one CK48MSEL 1 ∷ []

-- PLLI2S: S its three fields; S PLLI2SON
abbrev pub plli2scfgr : I2s → List (ℕ × ℕ)
plli2scfgr i = (PLLI2SN, i.n.0) ∷ (PLLI2SR, i.r.0) ∷ (PLLI2SQ, i.q.0) ∷ []

abbrev pub i2s_ops : I2s → List Op
i2s_ops i = cond i.use_plli2s (put (plli2scfgr i) ∷ one PLLI2SON 1 ∷ []) []

-- the four MCO fields
abbrev pub mco_fields : Mco → List (ℕ × ℕ)
mco_fields o = (MCO1, mco1_code o.mco1) ∷ (MCO1PRE, mcopre_code o.mco1pre) ∷ (MCO2, mco2_code o.mco2) ∷ (MCO2PRE, mcopre_code o.mco2pre) ∷ []

-- LATENCY with other ACR bits to 0
abbrev pub acr : InternalRCCConfig → List (ℕ × ℕ)
acr y = (LATENCY, y.flash_waitstates) ∷ (OTHER, 0) ∷ []

abbrev pub prescalers : InternalRCCConfig → List (ℕ × ℕ)
prescalers y = (PPRE1, y.ppre1) ∷ (PPRE2, y.ppre2) ∷ (HPRE, y.hpre) ∷ []

-- SW: PLL (2) if `use_pll`, else HSE if given, else HSI
abbrev pub sw_of : Option HSEClock → Pll → ℕ
sw_of h l = cond l.use_pll 2 (src_of h)

-- then S the four MCO fields; S LATENCY with other ACR bits to 0; S PPRE1, PPRE2, HPRE; S SW; W
abbrev pub last_ops : Mco → InternalRCCConfig → ℕ → List Op
last_ops o y sw = put (mco_fields o) ∷ put (acr y) ∷ put (prescalers y) ∷ one SW sw ∷ wait Sw ∷ []

-- what follows the switch to HSI
abbrev pub rest_ops : CFGR → InternalRCCConfig → List Op
rest_ops d y =
    hse_ops d.sources.hse
    ++ (pll_ops d.sources.hse d.pll y
    ++ (lse_ops d.sources.lse
    ++ (lsi_ops d.sources.lsi
    ++ (sai_ops d.sai
    ++ (choice_ops d.pll.pll48clk
    ++ (i2s_ops d.i2s
    ++ last_ops d.mco y (sw_of d.sources.hse d.pll)))))))

abbrev pub ops_of : CFGR → InternalRCCConfig → List Op
ops_of d y = hsi_ops ++ rest_ops d y

-- the most stores and the most waits that a plan's list has; a wait's number is one of 1 to WAITS
abbrev pub STORES : ℕ
STORES = 23

abbrev pub WAITS : ℕ
WAITS = 8

-- the stores of a list, and how many waits it has
abbrev pub stores_of : List Op → List (List (ℕ × ℕ))
stores_of [] = []
stores_of (put ws ∷ os) = ws ∷ stores_of os
stores_of (wait k ∷ os) = stores_of os

abbrev pub waits : List Op → ℕ
waits [] = 0
waits (put ws ∷ os) = waits os
waits (wait k ∷ os) = suc (waits os)

-- its waits before a cut: those that come before the last of its first n stores
abbrev pub waits_by : List Op → ℕ → ℕ
waits_by [] n = 0
waits_by (put ws ∷ os) zero = 0
waits_by (put ws ∷ os) (suc n) = waits_by os n
waits_by (wait k ∷ os) zero = 0
waits_by (wait k ∷ os) (suc n) = suc (waits_by os (suc n))
