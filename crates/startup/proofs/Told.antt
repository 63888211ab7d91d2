-- Answers that are one tell one plan: the clocks and field codes of an outcome, the parts of a plan, by the fields of the records in them.
use Prim.Native.Nat.{ℕ}
use mathlib.Core.Path.{◌≡◌, ap}
use Rattle.kinds.specs.declared.CFGR.{CFGR}
use Rattle.clocks.specs.declared.Clocks.{Clocks}
use Rattle.clocks.specs.declared.InternalRCCConfig.{InternalRCCConfig}
use Rattle.clocks.specs.declared.Derived.{Derived}
use Rattle.plan.specs.Plan.{ready}
use Rattle.plan.specs.declared.Planned.{Planned}
use Rattle.startup.specs.Start.{done_with, cut_with}

abbrev pub pair : Clocks → InternalRCCConfig → Derived
pair x y = record { clocks = x; config = y }

pub pair_told : {x z : Clocks} {y v : InternalRCCConfig} → pair x y ≡ pair z v → (x ≡ z) × (y ≡ v)
pair_told e = (ap (λ (d : Derived). d.clocks) e, ap (λ (d : Derived). d.config) e)

pub done_told : {x z : Clocks} {y v : InternalRCCConfig} → done_with x y ≡ done_with z v → (x ≡ z) × (y ≡ v)
done_told {x} {z} {y} {v} e = let q : pair x y ≡ pair z v = cc in pair_told q

pub cut_told : {x z : Clocks} {y v : InternalRCCConfig} → cut_with x y ≡ cut_with z v → (x ≡ z) × (y ≡ v)
cut_told {x} {z} {y} {v} e = let q : pair x y ≡ pair z v = cc in pair_told q

pub plan_told : {c d : CFGR} {j k : ℕ} {x z : Clocks} {y v : InternalRCCConfig} → ready c j x y ≡ ready d k z v → (c ≡ d) × (x ≡ z) × (y ≡ v)
plan_told {c} {d} {j} {k} {x} {z} {y} {v} e =
    let q : parts c j x y ≡ parts d k z v = cc in
    (ap (λ (p : Planned). p.cfgr) q, ap (λ (p : Planned). p.derived.clocks) q, ap (λ (p : Planned). p.derived.config) q)
  where
    parts : CFGR → ℕ → Clocks → InternalRCCConfig → Planned
    parts c j x y = record { cfgr = c; passes = j; derived = pair x y }
