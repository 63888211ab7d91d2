-- A plan's list has no fewer stores and waits than its first and last section, and no more than the list with everything in it.
use Rattle.std.specs.Prelude.{Option, Some}
use Prim.Native.Nat.{ℕ, suc, ◌+◌, ◌≤◌}
use native.Mathlib.Omega.{arith}
use native.Mathlib.Nat.{zero-add, suc-add}
use mathlib.Core.Path.{◌≡◌, sym, ◌∙◌, ap}
use mathlib.Core.Bool.{Bool, true, false}
use mathlib.Core.List.{List, [], ◌∷◌, ◌++◌}
use lib.ListN.{length, length-append}
use Rattle.kinds.specs.declared.CFGR.{CFGR}
use Rattle.kinds.specs.declared.HSEClock.{HSEClock}
use Rattle.kinds.specs.declared.LSEClockMode.{LSEClockMode}
use Rattle.kinds.specs.declared.LSEClockMode.TheVariants.{Oscillator}
use Rattle.kinds.specs.declared.PLL48CLK.{PLL48CLK}
use Rattle.kinds.specs.declared.PLL48CLK.TheVariants.{Pllq}
use Rattle.clocks.specs.declared.InternalRCCConfig.{InternalRCCConfig}
use Rattle.order.specs.declared.wait.Awaited.{Awaited}
use Rattle.order.specs.declared.wait.Awaited.TheVariants.{Hsi, Hse}
use Rattle.order.specs.Places.{HSEBYP, HSEON, PLLSAION, PLLI2SON}
use Rattle.order.specs.Order.{Op, put, wait, one, hsi_ops, crystal_ops, hse_ops, pll_on, over_ops, pll_ops, lse_ops, lsi_ops, pllsaicfgr, sai_ops, choice_ops, plli2scfgr, i2s_ops, sw_of, last_ops, ops_of, STORES, WAITS, stores_of, waits}
use Rattle.order.proofs.Looks.{stores_both}
use Rattle.order.proofs.ByKind.{hse_kinds, pll_kinds, lse_kinds, lsi_kinds, sai_kinds, choice_kinds, i2s_kinds}

-- no fewer stores and waits than the list a has, and no more than b
record Counts (a b os : List Op) : Type 0 where
  least_stores : length (stores_of a) ≤ length (stores_of os)
  most_stores : length (stores_of os) ≤ length (stores_of b)
  least_waits : waits a ≤ waits os
  most_waits : waits os ≤ waits b

-- of a section that is always there
always : (os : List Op) → Counts os os os
always os = record { least_stores = omega arith; most_stores = omega arith; least_waits = omega arith; most_waits = omega arith }

-- of one that may be absent, b being the section where it is there
abbrev AtMost : List Op → List Op → List (ℕ × ℕ) → Type 0
AtMost b os F = Counts [] b os

few : {b os : List Op} → length (stores_of os) ≤ length (stores_of b) → waits os ≤ waits b → Counts [] b os
few h k = record { least_stores = omega arith; most_stores = h; least_waits = omega arith; most_waits = k }

nothing : {b : List Op} → Counts [] b []
nothing = few (omega arith) (omega arith)

-- ---- two lists joined
stores_sum : (a b : List Op) → length (stores_of (a ++ b)) ≡ length (stores_of a) + length (stores_of b)
stores_sum a b = ap length (stores_both a b) ∙ length-append (stores_of a) (stores_of b)

pub waits_both : (a b : List Op) → waits (a ++ b) ≡ waits a + waits b
waits_both [] b = sym (zero-add (waits b))
waits_both (put ws ∷ a) b = waits_both a b
waits_both (wait k ∷ a) b = ap suc (waits_both a b) ∙ sym (suc-add (waits a) (waits b))

-- no less and no more, added up
sum_le : {a b c x y z : ℕ} → a ≡ b + c → x ≡ y + z → b ≤ y → c ≤ z → a ≤ x
sum_le e f h k = omega arith

◌also◌ : {a b os c e ps : List Op} → Counts a b os → Counts c e ps → Counts (a ++ c) (b ++ e) (os ++ ps)
◌also◌ {a} {b} {os} {c} {e} {ps} x y =
    record {
      least_stores = sum_le (stores_sum a c) (stores_sum os ps) x.least_stores y.least_stores;
      most_stores = sum_le (stores_sum os ps) (stores_sum b e) x.most_stores y.most_stores;
      least_waits = sum_le (waits_both a c) (waits_both os ps) x.least_waits y.least_waits;
      most_waits = sum_le (waits_both os ps) (waits_both b e) x.most_waits y.most_waits;
    }

-- ---- the sections
module _ (d : CFGR) (y : InternalRCCConfig) where
  abbrev last : List Op
  last = last_ops d.mco y (sw_of d.sources.hse d.pll)

  -- with everything in it: the sections that may be absent
  abbrev hse_most : List Op
  hse_most = crystal_ops HSEBYP HSEON Hse 0

  abbrev pll_most : List Op
  pll_most = pll_on d.sources.hse d.pll y.vos_scale ++ over_ops true

  abbrev sai_most : List Op
  sai_most = put (pllsaicfgr d.sai) ∷ one PLLSAION 1 ∷ []

  abbrev i2s_most : List Op
  i2s_most = put (plli2scfgr d.i2s) ∷ one PLLI2SON 1 ∷ []

  hse_few : (h : Option HSEClock) → Counts [] hse_most (hse_ops h)
  hse_few = hse_kinds (AtMost hse_most) nothing (λ v. few (omega arith) (omega arith))

  pll_few : Counts [] pll_most (pll_ops d.sources.hse d.pll y)
  pll_few = pll_kinds (AtMost pll_most) nothing d.sources.hse d.pll y stored
    where
      stored : (o : Bool) → Counts [] pll_most (pll_on d.sources.hse d.pll y.vos_scale ++ over_ops o)
      stored true = few (omega arith) (omega arith)
      stored false = few (omega arith) (omega arith)

  lse_few : (h : Option LSEClockMode) → Counts [] (lse_ops (Some Oscillator)) (lse_ops h)
  lse_few = lse_kinds (AtMost (lse_ops (Some Oscillator))) nothing (λ v. few (omega arith) (omega arith))

  lsi_few : (b : Bool) → Counts [] (lsi_ops true) (lsi_ops b)
  lsi_few = lsi_kinds (AtMost (lsi_ops true)) nothing (few (omega arith) (omega arith))

  sai_few : Counts [] sai_most (sai_ops d.sai)
  sai_few = sai_kinds (AtMost sai_most) nothing d.sai (few (omega arith) (omega arith))

  choice_few : (k : Option PLL48CLK) → Counts [] (choice_ops (Some Pllq)) (choice_ops k)
  choice_few = choice_kinds (AtMost (choice_ops (Some Pllq))) nothing (λ v. few (omega arith) (omega arith))

  i2s_few : Counts [] i2s_most (i2s_ops d.i2s)
  i2s_few = i2s_kinds (AtMost i2s_most) nothing d.i2s (few (omega arith) (omega arith))

  abbrev most : List Op
  most = hsi_ops ++ (hse_most ++ (pll_most ++ (lse_ops (Some Oscillator) ++ (lsi_ops true ++ (sai_most ++ (choice_ops (Some Pllq) ++ (i2s_most ++ last)))))))

  list_counts : Counts (hsi_ops ++ last) most (ops_of d y)
  list_counts =
      let i2s = ◌also◌ i2s_few (always last) in
      let choice = ◌also◌ (choice_few d.pll.pll48clk) i2s in
      let sai = ◌also◌ sai_few choice in
      let lsi = ◌also◌ (lsi_few d.sources.lsi) sai in
      let lse = ◌also◌ (lse_few d.sources.lse) lsi in
      let pll = ◌also◌ pll_few lse in
      let hse = ◌also◌ (hse_few d.sources.hse) pll in
      ◌also◌ (always hsi_ops) hse

  pub stores_few : length (stores_of (ops_of d y)) ≤ STORES
  stores_few = list_counts.most_stores

  pub waits_few : waits (ops_of d y) ≤ WAITS
  waits_few = list_counts.most_waits

  pub stores_least : 6 ≤ length (stores_of (ops_of d y))
  stores_least = list_counts.least_stores

  pub waits_least : 2 ≤ waits (ops_of d y)
  waits_least = list_counts.least_waits

-- HSION, HSI's wait, SW = HSI: so at least two stores come before any other wait
begins : (rest a b : List Op) (s t : List (ℕ × ℕ)) (k : Awaited) → put s ∷ wait Hsi ∷ put t ∷ rest ≡ a ++ wait k ∷ b → (k ≡ Hsi → ⊥) → 2 ≤ length (stores_of a)
begins rest [] b s t k e n = absurd (let q : ◌≡◌ {A = ℕ} 0 1 = cc in omega arith)
begins rest (o ∷ []) b s t k e n = absurd (n (let q : k ≡ Hsi = cc in q))
begins rest (o ∷ q ∷ []) b s t k e n = absurd (let z : ◌≡◌ {A = ℕ} 0 1 = cc in omega arith)
begins rest (o ∷ q ∷ u ∷ a) b s t k e n =
    let i : o ≡ put s = cc in
    let j : q ≡ wait Hsi = cc in
    let h : u ≡ put t = cc in
    rw (i, j, h) (omega arith)

pub two_before : (d : CFGR) (y : InternalRCCConfig) (a b : List Op) (k : Awaited) → ops_of d y ≡ a ++ wait k ∷ b → (k ≡ Hsi → ⊥) → 2 ≤ length (stores_of a)
two_before d y a b k e n = begins _ a b _ _ k e n
