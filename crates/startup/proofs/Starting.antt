-- What the code hands back is the start: refused as the plan is, or what its machine comes to over the plan's list.
use Prim.Native.Nat.{ℕ, ◌≤◌}
use mathlib.Core.Path.{◌≡◌, sym, ◌∙◌, ap}
use mathlib.Core.Bool.{Bool, true, false, cond}
use mathlib.Core.List.{List}
use lib.Dec.{eqb}
use native.Mathlib.Omega.{arith}
use borrow.Author.Tests.{eq-eqb}
use Rattle.std.specs.Prelude.{Result, Ok, Err}
use Rattle.kinds.specs.Refusals.{refusal_of, unless}
use Rattle.kinds.specs.declared.refusals.Refusal.{Refusal}
use Rattle.kinds.proofs.Check.{outside_zero}
use Rattle.kinds.proofs.Numbered.{passed_tells}
use Rattle.kinds.specs.declared.CFGR.{CFGR}
use Rattle.clocks.specs.declared.Clocks.{Clocks}
use Rattle.clocks.specs.declared.InternalRCCConfig.{InternalRCCConfig}
use Rattle.plan.specs.declared.Planned.{Planned}
use Rattle.configure.specs.declared.Unplanned.{Unplanned}
use Rattle.plan.specs.Plan.{ready, plan_of}
use Rattle.order.specs.Order.{ops_of}
use Rattle.startup.specs.Start.{refused_of, limit_of, planned_start, start_of}
use Rattle.startup.specs.Machine.{begin_of, ended_of, Ran}
use Rattle.startup.specs.declared.Started.{Started}
use Rattle.startup.specs.declared.machine.Machine.{Machine}
use Rattle.startup.proofs.Walking.{walks}

pub start_refused : {p q : Result Planned Unplanned} {f : List ℕ} (lim : ℕ) (xs : List ℕ) (cut : ℕ) {u : Unplanned} {r : Started} → q ≡ p → q ≡ Err u → r ≡ refused_of u.refusal f → r ≡ planned_start p f lim xs cut
unfolding planned_start
start_refused {f = f} lim xs cut e g h = h ∙ ap (λ (t : Result Planned Unplanned). planned_start t f lim xs cut) (sym g ∙ e)

pub start_ready : {p q : Result Planned Unplanned} {f : List ℕ} {lim : ℕ} {xs : List ℕ} {cut k : ℕ} {d : CFGR} {x : Clocks} {y : InternalRCCConfig} {m : Machine} {r : Started}
    → q ≡ p → q ≡ ready d k x y → Ran xs lim (begin_of f cut) (ops_of d y) m → r ≡ ended_of x y m → r ≡ planned_start p f lim xs cut
unfolding planned_start
start_ready {f = f} {lim = lim} {xs = xs} {cut = cut} {d = d} {x = x} {y = y} e g w h =
    h ∙ ap (ended_of x y) w.is ∙ walks xs lim x y (ops_of d y) f cut ∙ ap (λ (t : Result Planned Unplanned). planned_start t f lim xs cut) (sym g ∙ e)

-- a limit that is refused, and one that is kept
pub limit_refused : (c : CFGR) (f : List ℕ) (lim : ℕ) (xs : List ℕ) (cut : ℕ) {l : Result (Unit {0}) Refusal} {e : Refusal} {r : Started}
    → l ≡ unless (limit_of lim) tt → l ≡ Err e → r ≡ refused_of e f → r ≡ start_of c f lim xs cut
unfolding start_of unless
limit_refused c f lim xs cut {l} {e} {r} p q s = at (eqb (limit_of lim) 0) p
  where
    at : (t : Bool) → l ≡ cond t (Ok tt) (Err (refusal_of (limit_of lim))) → r ≡ cond t (planned_start (plan_of c) f lim xs cut) (refused_of (refusal_of (limit_of lim)) f)
    at true h = absurd (let z : ◌≡◌ {A = ℕ} 0 1 = cc in omega arith)
    at false h = cc

pub limit_within : (lim : ℕ) {l : Result (Unit {0}) Refusal} {u : Unit {0}} → l ≡ unless (limit_of lim) tt → l ≡ Ok u → lim ≤ 65535
limit_within lim p q = (outside_zero 1 65535 13 lim (omega arith) (passed_tells (limit_of lim) p q)).high

-- then the start is the plan's
pub limit_good : (c : CFGR) (f : List ℕ) (lim : ℕ) (xs : List ℕ) (cut : ℕ) {l : Result (Unit {0}) Refusal} {u : Unit {0}} {r : Started}
    → l ≡ unless (limit_of lim) tt → l ≡ Ok u → r ≡ planned_start (plan_of c) f lim xs cut → r ≡ start_of c f lim xs cut
unfolding start_of
limit_good c f lim xs cut p q s = simp (eq-eqb _ _ (passed_tells (limit_of lim) p q)) s
