-- What is so of a section's stores and fields in each kind of plan is so of the section: its kinds, told apart once for every proof.
use Rattle.std.specs.Prelude.{None, Option, Some}
use Prim.Native.Nat.{ℕ}
use mathlib.Core.Bool.{Bool, true, false, cond}
use mathlib.Core.List.{List, [], ◌∷◌, ◌++◌}
use Rattle.kinds.specs.declared.CFGR.{CFGR}
use Rattle.kinds.specs.declared.HSEClock.{HSEClock}
use Rattle.kinds.specs.declared.HSEClock.TheVariants.{Oscillator, Bypass}
use Rattle.kinds.specs.declared.LSEClockMode.{LSEClockMode}
use Rattle.kinds.specs.declared.LSEClockMode.TheVariants.{Oscillator as LseOscillator, Bypass as LseBypass}
use Rattle.kinds.specs.declared.PLL48CLK.{PLL48CLK}
use Rattle.kinds.specs.declared.PLL48CLK.TheVariants.{Pllq, Pllsai}
use Rattle.kinds.specs.declared.Pll.{Pll}
use Rattle.kinds.specs.declared.Sai.{Sai}
use Rattle.kinds.specs.declared.I2s.{I2s}
use Rattle.clocks.specs.declared.InternalRCCConfig.{InternalRCCConfig}
use Rattle.order.specs.declared.wait.Awaited.TheVariants.{Hse, Lse, Lsi}
use Rattle.order.specs.Places.{HSEBYP, HSEON, PLLON, PLLSAION, PLLI2SON, PWREN, VOS, LSEBYP, LSEON, LSION, CK48MSEL}
use Rattle.order.specs.Order.{Op, put, wait, one, hsi_ops, crystal_ops, hse_ops, pllcfgr, pll_on, over_ops, pll_stored, pll_ops, lse_ops, lsi_ops, pllsaicfgr, sai_ops, choice_ops, plli2scfgr, i2s_ops, last_ops, sw_of, ops_of}
use Rattle.order.specs.Fields.{hse_fields, over_fields, pll_fields, lse_fields, lsi_fields, sai_fields, choice_fields, i2s_fields}

-- the PLL's fields where it is stored, with or without over-drive
abbrev pub pll_held : Option HSEClock → Pll → ℕ → Bool → List (ℕ × ℕ)
pll_held h l vos o = pllcfgr h l ++ (PWREN, 1) ∷ (VOS, vos) ∷ (PLLON, 1) ∷ over_fields o

module _ (P : List Op → List (ℕ × ℕ) → Type 0) (none : P [] []) where
  when : (b : Bool) (os : List Op) (F : List (ℕ × ℕ)) → P os F → P (cond b os []) (cond b F [])
  when true os F h = h
  when false os F h = none

  pub hse_kinds : ((v : ℕ) → P (crystal_ops HSEBYP HSEON Hse v) ((HSEBYP, v) ∷ (HSEON, 1) ∷ [])) → (h : Option HSEClock) → P (hse_ops h) (hse_fields h)
  hse_kinds on None = none
  hse_kinds on (Some (Oscillator f)) = on 0
  hse_kinds on (Some (Bypass f)) = on 1

  pub pll_kinds : (h : Option HSEClock) (l : Pll) (y : InternalRCCConfig) → ((o : Bool) → P (pll_on h l y.vos_scale ++ over_ops o) (pll_held h l y.vos_scale o))
      → P (pll_ops h l y) (pll_fields h l y)
  pll_kinds h l y on = when (pll_stored l) _ _ (on y.overdrive)

  pub lse_kinds : ((v : ℕ) → P (crystal_ops LSEBYP LSEON Lse v) ((LSEBYP, v) ∷ (LSEON, 1) ∷ [])) → (h : Option LSEClockMode) → P (lse_ops h) (lse_fields h)
  lse_kinds on None = none
  lse_kinds on (Some LseOscillator) = on 0
  lse_kinds on (Some LseBypass) = on 1

  pub lsi_kinds : P (one LSION 1 ∷ wait Lsi ∷ []) ((LSION, 1) ∷ []) → (b : Bool) → P (lsi_ops b) (lsi_fields b)
  lsi_kinds on b = when b _ _ on

  pub sai_kinds : (a : Sai) → P (put (pllsaicfgr a) ∷ one PLLSAION 1 ∷ []) (pllsaicfgr a ++ (PLLSAION, 1) ∷ []) → P (sai_ops a) (sai_fields a)
  sai_kinds a on = when a.use_pllsai _ _ on

  pub choice_kinds : ((v : ℕ) → P (one CK48MSEL v ∷ []) ((CK48MSEL, v) ∷ [])) → (k : Option PLL48CLK) → P (choice_ops k) (choice_fields k)
  choice_kinds at None = none
  choice_kinds at (Some Pllq) = at 0
  choice_kinds at (Some Pllsai) = at 1

  pub i2s_kinds : (i : I2s) → P (put (plli2scfgr i) ∷ one PLLI2SON 1 ∷ []) (plli2scfgr i ++ (PLLI2SON, 1) ∷ []) → P (i2s_ops i) (i2s_fields i)
  i2s_kinds i on = when i.use_plli2s _ _ on

-- what is so of each section of a plan's list, in each of its kinds
pub record Sections (Q : List Op → Type 0) (d : CFGR) (y : InternalRCCConfig) : Type 0 where
  pub hsi : Q hsi_ops
  pub hse : (v : ℕ) → Q (crystal_ops HSEBYP HSEON Hse v)
  pub pll : (o : Bool) → Q (pll_on d.sources.hse d.pll y.vos_scale ++ over_ops o)
  pub lse : (v : ℕ) → Q (crystal_ops LSEBYP LSEON Lse v)
  pub lsi : Q (one LSION 1 ∷ wait Lsi ∷ [])
  pub sai : Q (put (pllsaicfgr d.sai) ∷ one PLLSAION 1 ∷ [])
  pub choice : (v : ℕ) → Q (one CK48MSEL v ∷ [])
  pub i2s : Q (put (plli2scfgr d.i2s) ∷ one PLLI2SON 1 ∷ [])
  pub last : Q (last_ops d.mco y (sw_of d.sources.hse d.pll))

-- and of no store at all, and of two lists joined where it is so of both, is so of the whole list
module _ (Q : List Op → Type 0) (none : Q []) (join : (a b : List Op) → Q a → Q b → Q (a ++ b)) where
  abbrev part : List Op → List (ℕ × ℕ) → Type 0
  part os F = Q os

  pub list_by : (d : CFGR) (y : InternalRCCConfig) → Sections Q d y → Q (ops_of d y)
  list_by d y s =
      join hsi_ops _ s.hsi
      (join _ _ (hse_kinds part none s.hse d.sources.hse)
      (join _ _ (pll_kinds part none d.sources.hse d.pll y s.pll)
      (join _ _ (lse_kinds part none s.lse d.sources.lse)
      (join _ _ (lsi_kinds part none s.lsi d.sources.lsi)
      (join _ _ (sai_kinds part none d.sai s.sai)
      (join _ _ (choice_kinds part none s.choice d.pll.pll48clk)
      (join _ _ (i2s_kinds part none d.i2s s.i2s) s.last)))))))
