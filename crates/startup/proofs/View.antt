-- How a start comes about: refused by its limit or by the plan, or walked over the plan's list.
use Prim.Native.Nat.{ℕ}
use mathlib.Core.Path.{◌≡◌, refl}
use native.Mathlib.Omega.{arith}
use mathlib.Core.Logic.{inl, inr}
use mathlib.Core.Bool.{cond}
use mathlib.Core.List.{List}
use lib.Dec.{eqb}
use Rattle.kinds.specs.Table.{Between, Outside}
use Rattle.std.specs.Prelude.{Result, Ok, Err}
use Rattle.kinds.specs.Refusals.{refusal_of}
use Rattle.kinds.specs.declared.refusals.Refusal.TheVariants.{PollLimit}
use Rattle.kinds.specs.declared.CFGR.{CFGR}
use Rattle.kinds.proofs.Check.{Told, inside, broken, outside_told}
use Rattle.clocks.specs.declared.Clocks.{Clocks}
use Rattle.clocks.specs.declared.InternalRCCConfig.{InternalRCCConfig}
use Rattle.plan.specs.Plan.{ready, plan_of}
use Rattle.plan.specs.declared.Planned.{Planned}
use Rattle.configure.specs.declared.Unplanned.{Unplanned}
use Rattle.order.specs.Order.{ops_of}
use Rattle.startup.specs.Start.{walk, started_of, refused_of, limit_of, planned_start, start_of}
use Rattle.startup.specs.declared.Started.{Started}

-- a limit is not both
pub apart : {n : ℕ} → Between 1 65535 n → Outside 1 65535 n → ⊥
apart b (inl h) = omega (arith, b.low)
apart b (inr h) = omega (arith, b.high)

module _ (c : CFGR) (f : List ℕ) (lim : ℕ) (xs : List ℕ) (cut : ℕ) where
  pub data StartView : Started → Type 0 where
    bad_limit : Outside 1 65535 lim → StartView (refused_of PollLimit f)
    not_planned : {u : Unplanned} → Between 1 65535 lim → plan_of c ≡ Err u → StartView (refused_of u.refusal f)
    ran : {d : CFGR} {k : ℕ} {x : Clocks} {y : InternalRCCConfig} → Between 1 65535 lim → plan_of c ≡ ready d k x y → StartView (started_of x y (walk lim (ops_of d y) cut xs f))

  pub start_view : StartView (start_of c f lim xs cut)
  unfolding start_of planned_start refusal_of
  start_view = by (limit_of lim) (outside_told 1 65535 13 lim)
    where
      from : Between 1 65535 lim → (p : Result Planned Unplanned) → plan_of c ≡ p → StartView (planned_start p f lim xs cut)
      from b (Err u) e = not_planned b e
      from b (Ok p) e = ran {d = p.cfgr} {k = p.passes} {x = p.derived.clocks} {y = p.derived.config} b e

      by : (n : ℕ) → Told (Between 1 65535 lim) (Outside 1 65535 lim) 13 n → StartView (cond (eqb n 0) (planned_start (plan_of c) f lim xs cut) (refused_of (refusal_of n) f))
      by n (inside b o) = from b (plan_of c) refl
      by n (broken o b) = bad_limit o
