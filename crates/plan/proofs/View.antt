-- How a plan comes about: refused by the check, by the search or by 9 to 11, or made; by the ways of pll_configure, whose SYSCLK derive never refuses.
use Prim.Native.Nat.{ℕ, ◌≤◌}
use mathlib.Core.Path.{◌≡◌, refl, sym, subst}
use mathlib.Core.Bool.{Bool, true, false, cond}
use lib.Dec.{eqb}
use native.Mathlib.Omega.{arith}
use Rattle.std.specs.Prelude.{Result, Ok, Err}
use borrow.Author.Tests.{eqb-true, eqb-false, eq-eqb}
use Rattle.kinds.specs.Config.{input_of}
use Rattle.kinds.specs.Limits.{check_of}
use Rattle.kinds.specs.Refusals.{refusal_of}
use Rattle.kinds.specs.declared.CFGR.{CFGR}
use Rattle.kinds.specs.declared.refusals.Refusal.{Refusal}
use Rattle.kinds.specs.declared.refusals.Refusal.TheVariants.{NoPair}
use Rattle.pll.specs.Outputs.{base_of, p_output_of}
use Rattle.configure.specs.Configure.{configured_of}
use Rattle.configure.specs.Ways.{Seeks, NoneGood, Settles, Ways, refused as check_refused, missed as search_missed}
use Rattle.configure.specs.declared.Configured.{Configured}
use Rattle.configure.specs.declared.Unplanned.{Unplanned}
use Rattle.configure.proofs.Configuring.{base_range}
use Rattle.configure.proofs.Going.{configured_way}
use Rattle.configure.proofs.Theorems.{refuses_with_7_exactly, planned_checked, planned_output}
use Rattle.clocks.specs.Derive.{sysclk_of, clocks_of, config_of, derived_of}
use Rattle.clocks.specs.declared.Derived.{Derived}
use Rattle.clocks.proofs.Theorems.{derive_gives}
use Rattle.plan.specs.Plan.{ready as plans, refuse, late_refusal, limited_of, clocked_of, planned_of, plan_of}
use Rattle.plan.specs.declared.Planned.{Planned}

-- SYSCLK of a configuration as planned is at most 216 MHz
planned_sysclk : (c d : CFGR) (k : ℕ) → Settles c d k → sysclk_of d ≤ 216000000
unfolding sysclk_of
planned_sysclk c d k e = from d.pll.use_pll refl
  where
    from : (t : Bool) → d.pll.use_pll ≡ t → cond t (p_output_of d) (base_of (input_of d.sources.hse)) ≤ 216000000
    from true a = planned_output c d k e a
    from false a = let i = base_range d (planned_checked c d k e) in omega (arith, i.high)

-- so derive answers with its clocks
pub planned_derived : (c d : CFGR) (k : ℕ) → Settles c d k → derived_of d ≡ Ok (record { clocks = clocks_of d; config = config_of d })
planned_derived c d k e = derive_gives d (planned_checked c d k e) (planned_sysclk c d k e)

pub data PlanView (c : CFGR) : Result Planned Unplanned → Type 0 where
  refused : (check_of c ≡ 0 → ⊥) → PlanView c (refuse (refusal_of (check_of c)) 0)
  missed : {k : ℕ} → Seeks c → NoneGood c → PlanView c (refuse NoPair k)
  limited : {d : CFGR} {k : ℕ} → Settles c d k → (late_refusal d ≡ 0 → ⊥) → PlanView c (refuse (refusal_of (late_refusal d)) k)
  ready : {d : CFGR} {k : ℕ} → Settles c d k → late_refusal d ≡ 0 → PlanView c (plans d k (clocks_of d) (config_of d))

module _ (c : CFGR) where
  clocked_view : (d : CFGR) (k : ℕ) → Settles c d k → PlanView c (clocked_of d k (derived_of d))
  unfolding clocked_of limited_of
  clocked_view d k e = subst (λ (z : Result Derived Refusal). PlanView c (clocked_of d k z)) (sym (planned_derived c d k e)) (at (eqb (late_refusal d) 0) refl)
    where
      at : (t : Bool) → eqb (late_refusal d) 0 ≡ t → PlanView c (cond t (plans d k (clocks_of d) (config_of d)) (refuse (refusal_of (late_refusal d)) k))
      at true a = ready e (eqb-true (late_refusal d) 0 a)
      at false a = limited e (eqb-false (late_refusal d) 0 a)

  refused_view : {u : Unplanned} → configured_of c ≡ Err u → Ways c (Err u) → PlanView c (Err u)
  refused_view e (check_refused a) = refused a
  refused_view e (search_missed s a) = missed s ((refuses_with_7_exactly c).0 (rw e)).1

  pub plan_view : PlanView c (plan_of c)
  unfolding plan_of planned_of
  plan_view = from (configured_of c) refl
    where
      from : (f : Result Configured Unplanned) → configured_of c ≡ f → PlanView c (planned_of f)
      from (Ok r) e = clocked_view r.cfgr r.passes e
      from (Err u) e = refused_view e (subst (λ (r : Result Configured Unplanned). Ways c r) e (configured_way c))

-- what a plan is made of
pub plan_of_lem : (c d : CFGR) (k : ℕ) → Settles c d k → late_refusal d ≡ 0 → plan_of c ≡ plans d k (clocks_of d) (config_of d)
unfolding plan_of planned_of clocked_of limited_of
plan_of_lem c d k e z = rw (e, planned_derived c d k e) (simp (eq-eqb _ _ z))
