-- A plan's list leaves each field of the plan at its value and never touches another place: its nine sections, joined.
use Rattle.std.specs.Prelude.{Option}
use Prim.Native.Nat.{ℕ}
use mathlib.Core.Path.{◌≡◌, refl}
use mathlib.Core.Bool.{Bool, true, false}
use mathlib.Core.List.{List, ◌++◌}
use lib.ListN.{length, get_or, take}
use Rattle.kinds.specs.declared.CFGR.{CFGR}
use Rattle.kinds.specs.declared.HSEClock.{HSEClock}
use Rattle.kinds.specs.declared.LSEClockMode.{LSEClockMode}
use Rattle.kinds.specs.declared.PLL48CLK.{PLL48CLK}
use Rattle.kinds.specs.declared.Pll.{Pll}
use Rattle.kinds.specs.declared.Sai.{Sai}
use Rattle.kinds.specs.declared.I2s.{I2s}
use Rattle.kinds.specs.declared.Mco.{Mco}
use Rattle.clocks.specs.declared.InternalRCCConfig.{InternalRCCConfig}
use Rattle.order.specs.Places.{PLACES}
use Rattle.order.specs.Files.{applies}
use Rattle.order.specs.Order.{hse_ops, pll_on, over_ops, pll_ops, lse_ops, lsi_ops, sai_ops, choice_ops, i2s_ops, sw_of, last_ops, ops_of, stores_of}
use Rattle.order.specs.Fields.{hse_fields, pll_fields, lse_fields, lsi_fields, sai_fields, choice_fields, i2s_fields, last_fields, fields_of, names, Holds}
use Rattle.order.proofs.Restart.{applies_flat}
use Rattle.order.proofs.Looks.{written, quiet_cut}
use Rattle.order.proofs.ByKind.{pll_held, hse_kinds, pll_kinds, lse_kinds, lsi_kinds, sai_kinds, choice_kinds, i2s_kinds}
use Rattle.order.proofs.Homes.{hsi_places, hse_places, pll_places, lse_places, lsi_places, sai_places, choice_places, i2s_places, last_places, Section, Whole, empty, ends, then, begins, holds}

pub hse_section : (h : Option HSEClock) → Section hse_places (hse_ops h) (hse_fields h)
hse_section = hse_kinds (Section hse_places) empty (λ u. record { inside = refl; fields = refl; makes = λ v. refl; only = refl })

pub pll_section : (h : Option HSEClock) (l : Pll) (y : InternalRCCConfig) → Section pll_places (pll_ops h l y) (pll_fields h l y)
pll_section h l y = pll_kinds (Section pll_places) empty h l y stored where
  stored : (o : Bool) → Section pll_places (pll_on h l y.vos_scale ++ over_ops o) (pll_held h l y.vos_scale o)
  stored true = record { inside = refl; fields = refl; makes = λ v. refl; only = refl }
  stored false = record { inside = refl; fields = refl; makes = λ v. refl; only = refl }

pub lse_section : (h : Option LSEClockMode) → Section lse_places (lse_ops h) (lse_fields h)
lse_section = lse_kinds (Section lse_places) empty (λ u. record { inside = refl; fields = refl; makes = λ v. refl; only = refl })

pub lsi_section : (b : Bool) → Section lsi_places (lsi_ops b) (lsi_fields b)
lsi_section = lsi_kinds (Section lsi_places) empty (record { inside = refl; fields = refl; makes = λ v. refl; only = refl })

pub sai_section : (a : Sai) → Section sai_places (sai_ops a) (sai_fields a)
sai_section a = sai_kinds (Section sai_places) empty a (record { inside = refl; fields = refl; makes = λ v. refl; only = refl })

pub choice_section : (k : Option PLL48CLK) → Section choice_places (choice_ops k) (choice_fields k)
choice_section = choice_kinds (Section choice_places) empty (λ u. record { inside = refl; fields = refl; makes = λ v. refl; only = refl })

pub i2s_section : (i : I2s) → Section i2s_places (i2s_ops i) (i2s_fields i)
i2s_section i = i2s_kinds (Section i2s_places) empty i (record { inside = refl; fields = refl; makes = λ v. refl; only = refl })

last_section : (o : Mco) (y : InternalRCCConfig) (sw : ℕ) → Section last_places (last_ops o y sw) (last_fields o y sw)
last_section o y sw = record { inside = refl; fields = refl; makes = λ v. refl; only = refl }

-- the places that a plan can store
abbrev places : List ℕ
places = hsi_places ++ (hse_places ++ (pll_places ++ (lse_places ++ (lsi_places ++ (sai_places ++ (choice_places ++ (i2s_places ++ last_places)))))))

-- the whole list of a plan, and no kind of plan by itself
plan_fields : (d : CFGR) (y : InternalRCCConfig) → Whole places (ops_of d y) (fields_of d y)
plan_fields d y =
    let last = ends (last_section d.mco y (sw_of d.sources.hse d.pll)) refl in
    let i2s = then (i2s_section d.i2s) last refl in
    let choice = then (choice_section d.pll.pll48clk) i2s refl in
    let sai = then (sai_section d.sai) choice refl in
    let lsi = then (lsi_section d.sources.lsi) sai refl in
    let lse = then (lse_section d.sources.lse) lsi refl in
    let pll = then (pll_section d.sources.hse d.pll y) lse refl in
    let hse = then (hse_section d.sources.hse) pll refl in
    begins hse refl

pub list_holds : (d : CFGR) (y : InternalRCCConfig) (f : List ℕ) → length f ≡ PLACES → Holds (fields_of d y) (applies f (stores_of (ops_of d y)))
list_holds d y f l = rw (applies_flat f (stores_of (ops_of d y))) (holds places (written (ops_of d y)) (fields_of d y) f l refl (plan_fields d y).fields (plan_fields d y).makes)

pub list_keeps : (d : CFGR) (y : InternalRCCConfig) (q : ℕ) → names q (fields_of d y) ≡ false → (f : List ℕ) (n : ℕ) → get_or (applies f (take n (stores_of (ops_of d y)))) q 0 ≡ get_or f q 0
list_keeps d y q h f n = quiet_cut q f (stores_of (ops_of d y)) n ((plan_fields d y).only q h)
