-- What is promised of a plan, for every configuration; each is read off how a plan comes about.
use Prim.Native.Nat.{ℕ, ◌/◌, ◌≤◌, ◌<◌}
use mathlib.Core.Path.{◌≡◌, refl, sym, ◌∙◌, ap, subst}
use mathlib.Core.Logic.{◌⊎◌, inl, inr, ◌↔◌}
use mathlib.Core.Bool.{Bool, true, false, cond}
use mathlib.Core.List.{[], ◌∷◌}
use lib.Dec.{T, eqb}
use native.Mathlib.Omega.{arith}
use Rattle.std.specs.Prelude.{None, Result, Ok, Err}
use native.Mathlib.Nat.{div-le_of_le-mul}
use Rattle.kinds.specs.Limits.{check_of}
use Rattle.kinds.specs.Table.{Refused as Given, limit_numbers}
use Rattle.kinds.specs.Turns.{turn_of, First, none, first, OneOf}
use Rattle.kinds.proofs.Turns.{exactly, given_only, wider, ahead, in_order, none_is}
use Rattle.kinds.specs.Refusals.{refusal_of, number_of as number_of_refusal}
use Rattle.kinds.specs.declared.refusals.Refusal.{Refusal}
use Rattle.kinds.proofs.Numbered.{numbered, check_numbered}
use Rattle.kinds.proofs.Check.{kept_none, check_first, limit_number}
use Rattle.kinds.specs.declared.CFGR.{CFGR}
use Rattle.pll.proofs.Dividers.{split}
use Rattle.pll.specs.Outputs.{p_output_of}
use Rattle.configure.specs.Configure.{base_in, wanted_in, p_window_in, configured_of, number_of as configured_number, passes_of as configured_passes}
use Rattle.configure.specs.Ways.{Seeks, Settles, Near, Keeps}
use Rattle.configure.specs.declared.Configured.{Configured}
use Rattle.configure.specs.declared.Unplanned.{Unplanned}
use Rattle.configure.proofs.Theorems.{refuses_with_7_exactly, planned_from, planned_checked, planned_keeps, planned_again, planned_near}
use Rattle.clocks.specs.Derive.{sysclk_of, clocks_of, config_of, derived_of}
use Rattle.clocks.specs.declared.Clocks.{Clocks}
use Rattle.clocks.specs.declared.InternalRCCConfig.{InternalRCCConfig}
use Rattle.clocks.specs.declared.Derived.{Derived}
use Rattle.plan.specs.Plan.{ready as plans, refuse, late_refusal, limited_of, clocked_of, planned_of, plan_of, number_of, passes_of}
use Rattle.plan.specs.Refusals.{rough_in, Late, i2s_vco, late_numbers, PlanRefused, limit, search, late, plan_numbers}
use Rattle.plan.specs.declared.Planned.{Planned}
use Rattle.plan.proofs.Late.{late_number, late_first}
use Rattle.plan.proofs.View.{PlanView, refused, missed, limited, ready, planned_derived, plan_view, plan_of_lem}

-- ---- which number it is
-- a configuration that is planned kept every limit, and its search has an answer: 9 to 11 alone are left
planned_only : (c d : CFGR) (k : ℕ) → Settles c d k → (n : ℕ) → PlanRefused c n → Late d n
planned_only c d k e n (limit r) = absurd (kept_none c (planned_from c d k e) n r)
planned_only c d k e n (search s g) =
    absurd (let h = (refuses_with_7_exactly c).1 (s, g) in let z : ◌≡◌ {A = ℕ} 0 7 = sym (ap (λ (r : Result Configured Unplanned). configured_number r) e) ∙ h in omega arith)
planned_only c d k e n (late {d = f} {k = j} y l) =
    let g : ◌≡◌ {A = Configured} (record { cfgr = f; passes = j }) (record { cfgr = d; passes = k }) = cc in
    subst (λ (z : Configured). Late z.cfgr n) g l

-- a number of 9 to 11 is that of the refusal that it names
late_numbered : (d : CFGR) → (late_refusal d ≡ 0 → ⊥) → number_of_refusal (refusal_of (late_refusal d)) ≡ late_refusal d
unfolding refusal_of
late_numbered d z = from (given_only (late_first d))
  where
    from : (late_refusal d ≡ 0) ⊎ Late d (late_refusal d) → number_of_refusal (refusal_of (late_refusal d)) ≡ late_refusal d
    from (inl e) = absurd (z e)
    from (inr l) = numbered late_numbers tt (late_refusal d) (late_number d (late_refusal d) l)

-- 7 comes after the numbers of the check, and before 9 to 11
limits_ahead : T (ahead limit_numbers (7 ∷ late_numbers))
unfolding turn_of
limits_ahead = tt

search_ahead : T (ahead (7 ∷ []) late_numbers)
unfolding turn_of
search_ahead = tt

-- the number is the first in turn of those that the table gives for plan, and 0 exactly where it gives none
pub plan_first : (c : CFGR) → First (PlanRefused c) (number_of (plan_of c))
plan_first c = from (plan_of c) (plan_view c)
  where
    before : (a : ℕ) → Given c a → ((k : ℕ) → Given c k → turn_of a ≤ turn_of k) → (k : ℕ) → PlanRefused c k → turn_of a ≤ turn_of k
    before a r f k (limit s) = f k s
    before a r f k (search s g) = in_order limit_numbers (7 ∷ late_numbers) limits_ahead a 7 (limit_number c a r) tt
    before a r f k (late {d = d} y x) =
        in_order limit_numbers (7 ∷ late_numbers) limits_ahead a k (limit_number c a r) (wider late_numbers (7 ∷ late_numbers) tt k (late_number d k x))

    limits : (a : ℕ) → First (Given c) a → (a ≡ 0 → ⊥) → First (PlanRefused c) a
    limits a (none f) n = absurd (n refl)
    limits a (first r f) n = first (limit r) (before a r f)

    unfound : Seeks c → (k : ℕ) → PlanRefused c k → turn_of 7 ≤ turn_of k
    unfound s k (limit r) = absurd (kept_none c s.checked k r)
    unfound s k (search t g) = omega arith
    unfound s k (late {d = d} y x) = in_order (7 ∷ []) late_numbers search_ahead 7 k tt (late_number d k x)

    lates : (d : CFGR) (k : ℕ) → Settles c d k → (a : ℕ) → First (Late d) a → First (PlanRefused c) a
    lates d k e a (none f) = none (λ n r. f n (planned_only c d k e n r))
    lates d k e a (first x f) = first (late e x) (λ n r. f n (planned_only c d k e n r))

    from : (p : Result Planned Unplanned) → PlanView c p → First (PlanRefused c) (number_of p)
    from p (refused z) = rw (check_numbered c z) (limits (check_of c) (check_first c) z)
    from p (missed s g) = first (search s g) (unfound s)
    from p (limited {d = d} {k = k} e z) = rw (late_numbered d z) (lates d k e (late_refusal d) (late_first d))
    from p (ready {d = d} {k = k} e z) = lates d k e 0 (subst (λ (n : ℕ). First (Late d) n) z (late_first d))

-- so it is n exactly if n is the first in turn of those given
pub plan_refuses_exactly : (c : CFGR) (n : ℕ) → (number_of (plan_of c) ≡ n) ↔ First (PlanRefused c) n
plan_refuses_exactly c n = exactly (plan_first c)

-- where 9 to 11 come to 0, none of them is given
unlimited : (d : CFGR) (a : ℕ) → First (Late d) a → a ≡ 0 → (n : ℕ) → Late d n → ⊥
unlimited d a (none f) z n l = f n l
unlimited d a (first x f) z n l = none_is 0 late_numbers tt a (late_number d a x) z

-- it accepts exactly if pll_configure settles the main PLL and none of 9 to 11 is given; a plan is handed back then, and only then
pub plan_accepts_exactly : (c : CFGR) → (number_of (plan_of c) ≡ 0) ↔ ((d : CFGR) × (k : ℕ) × Settles c d k × ((n : ℕ) → Late d n → ⊥))
plan_accepts_exactly c = (λ e. forth (plan_of c) (plan_view c) e, λ w. back w.0 w.1 w.2 w.3)
  where
    zero : (d : CFGR) (a : ℕ) → First (Late d) a → ((n : ℕ) → Late d n → ⊥) → a ≡ 0
    zero d a (none f) g = refl
    zero d a (first l f) g = absurd (g a l)

    forth : (p : Result Planned Unplanned) → PlanView c p → number_of p ≡ 0 → (d : CFGR) × (k : ℕ) × Settles c d k × ((n : ℕ) → Late d n → ⊥)
    forth p (refused z) e = absurd (z (sym (check_numbered c z) ∙ e))
    forth p (missed s g) e = absurd (omega arith)
    forth p (limited {d = d} a z) e = absurd (z (sym (late_numbered d z) ∙ e))
    forth p (ready {d = d} {k = k} a z) e = (d, k, a, unlimited d (late_refusal d) (late_first d) z)

    back : (d : CFGR) (k : ℕ) → Settles c d k → ((n : ℕ) → Late d n → ⊥) → number_of (plan_of c) ≡ 0
    back d k a f = ap (λ (p : Result Planned Unplanned). number_of p) (plan_of_lem c d k a (zero d (late_refusal d) (late_first d) f))

-- a refusal has a number that is not 0
pub refused_is_not_0 : (c : CFGR) (r : Refusal) (k : ℕ) → plan_of c ≡ refuse r k → number_of_refusal r ≡ 0 → ⊥
refused_is_not_0 c r k e z = from (plan_of c) (plan_view c) e
  where
    number : {p : Result Planned Unplanned} → p ≡ refuse r k → number_of p ≡ number_of_refusal r
    number h = ap (λ (q : Result Planned Unplanned). number_of q) h

    from : (p : Result Planned Unplanned) → PlanView c p → p ≡ refuse r k → ⊥
    from p (refused a) h = a (sym (check_numbered c a) ∙ number h ∙ z)
    from p (missed s g) h = let y = number h in omega arith
    from p (limited {d = d} a b) h = b (sym (late_numbered d b) ∙ number h ∙ z)
    from p (ready a b) h = let y : ◌≡◌ {A = ℕ} 0 1 = cc in omega arith

-- the table gives no number for plan but those of its list
pub plan_number_lem : (c : CFGR) (n : ℕ) → PlanRefused c n → OneOf plan_numbers n
plan_number_lem c n (limit r) = wider limit_numbers plan_numbers tt n (limit_number c n r)
plan_number_lem c n (search s g) = tt
plan_number_lem c n (late {d = d} e x) = wider late_numbers plan_numbers tt n (late_number d n x)

-- so plan gives no other but 0
pub plan_gives_only : (c : CFGR) → OneOf (0 ∷ plan_numbers) (number_of (plan_of c))
plan_gives_only c = from (number_of (plan_of c)) (given_only (plan_first c))
  where
    from : (n : ℕ) → (n ≡ 0) ⊎ PlanRefused c n → OneOf (0 ∷ plan_numbers) n
    from n (inl e) = rw e tt
    from n (inr r) = wider plan_numbers (0 ∷ plan_numbers) tt n (plan_number_lem c n r)

-- a plan never gives 8
pub never_8 : (c : CFGR) → number_of (plan_of c) ≡ 8 → ⊥
never_8 c e = none_is 8 (0 ∷ plan_numbers) tt (number_of (plan_of c)) (plan_gives_only c) e

-- the passes are those of pll_configure, whatever the plan answers
pub passes_are_configure's : (c : CFGR) → passes_of (plan_of c) ≡ configured_passes (configured_of c)
unfolding plan_of planned_of clocked_of limited_of
passes_are_configure's c = from (configured_of c)
  where
    by : (t : Bool) (d : CFGR) (n k : ℕ) (x : Clocks) (y : InternalRCCConfig) → passes_of (cond t (plans d k x y) (refuse (refusal_of n) k)) ≡ k
    by true d n k x y = refl
    by false d n k x y = refl

    at : (d : CFGR) (k : ℕ) (z : Result Derived Refusal) → passes_of (clocked_of d k z) ≡ k
    at d k (Ok x) = by (eqb (late_refusal d) 0) d (late_refusal d) k x.clocks x.config
    at d k (Err r) = refl

    from : (f : Result Configured Unplanned) → passes_of (planned_of f) ≡ configured_passes f
    from (Ok r) = at r.cfgr r.passes (derived_of r.cfgr)
    from (Err u) = refl

-- ---- a plan that is made
-- derive's answer, of clocks and codes
abbrev derives : Clocks → InternalRCCConfig → Result Derived Refusal
derives x y = Ok (record { clocks = x; config = y })

-- what a plan is made of
record MadeOf (c d : CFGR) (k : ℕ) (x : Clocks) (y : InternalRCCConfig) : Type 0 where
  plans : Settles c d k
  unlimited : late_refusal d ≡ 0
  clocks : clocks_of d ≡ x
  config : config_of d ≡ y

module _ (c d : CFGR) (k : ℕ) (x : Clocks) (y : InternalRCCConfig) (e : plan_of c ≡ plans d k x y) where
  made : MadeOf c d k x y
  made = from (plan_of c) (plan_view c) e
    where
      of_it : Planned → Type 0
      of_it p = MadeOf c p.cfgr p.passes p.derived.clocks p.derived.config

      one : {p q : Planned} → ◌≡◌ {A = Result Planned Unplanned} (Ok p) (Ok q) → p ≡ q
      one h = cc

      from : (p : Result Planned Unplanned) → PlanView c p → p ≡ plans d k x y → MadeOf c d k x y
      from p (refused z) h = absurd (let z : ◌≡◌ {A = ℕ} 0 1 = cc in omega arith)
      from p (missed s g) h = absurd (let z : ◌≡◌ {A = ℕ} 0 1 = cc in omega arith)
      from p (limited a z) h = absurd (let z : ◌≡◌ {A = ℕ} 0 1 = cc in omega arith)
      from p (ready a z) h = subst of_it (one h) (record { plans = a; unlimited = z; clocks = refl; config = refl })

  -- its configuration is pll_configure's, and nothing but the main PLL's settings has changed
  pub plan_is_configured : Settles c d k × Keeps c d
  plan_is_configured = (made.plans, planned_keeps c d k made.plans)

  -- its clocks and codes are what derive gives for it, so that what is promised of derive is promised of a plan
  pub plan_is_derived : derived_of d ≡ derives x y
  plan_is_derived = planned_derived c d k made.plans ∙ both made.clocks made.config
    where
      both : {a b : Clocks} {m n : InternalRCCConfig} → a ≡ b → m ≡ n → derives a m ≡ derives b n
      both p q = rw (p, q)

  -- planned again, it is the same plan; its passes are the same where its own search runs, else 0
  pub plan_again : (Seeks d → plan_of d ≡ plans d k x y) × ((Seeks d → ⊥) → plan_of d ≡ plans d 0 x y)
  plan_again = (λ s. same k (again.0 s), λ s. same 0 (again.1 s))
    where
      again : (Seeks d → Settles d d k) × ((Seeks d → ⊥) → Settles d d 0)
      again = planned_again c d k made.plans

      both : {a b : Clocks} {m n : InternalRCCConfig} (j : ℕ) → a ≡ b → m ≡ n → plans d j a m ≡ plans d j b n
      both j p q = rw (p, q)

      same : (j : ℕ) → Settles d d j → plan_of d ≡ plans d j x y
      same j p = plan_of_lem d d j p made.unlimited ∙ both j made.clocks made.config

  -- ---- SYSCLK
  sysclk_is : x.sysclk.0 ≡ cond d.pll.use_pll (p_output_of d) (base_in d)
  unfolding base_in clocks_of sysclk_of
  sysclk_is = ap (λ (z : Clocks). z.sysclk.0) (sym made.clocks)

  -- without `use_pll` it is 16 × b
  pub sysclk_without_pll : d.pll.use_pll ≡ false → x.sysclk.0 ≡ base_in d
  sysclk_without_pll u = sysclk_is ∙ rw u

  -- with it, it is the P output
  pub sysclk_with_pll : d.pll.use_pll ≡ true → x.sysclk.0 ≡ p_output_of d
  sysclk_with_pll u = sysclk_is ∙ rw u

  -- planned by a P window, it is at most 1 Hz above what was wanted and at most 15 Hz below
  pub sysclk_near : d.pll.use_pll ≡ true → (p_window_in c ≡ None → ⊥) → Near (wanted_in c) x.sysclk.0
  sysclk_near u w = rw (sysclk_with_pll u) (planned_near c d k made.plans u w)

  -- ---- PLLI2S after 11: its outputs with R and Q are at most 216 MHz, so that the Rust's asserts on them can't fail
  i2s_high : d.i2s.use_plli2s ≡ true → rough_in d d.i2s.n.0 ≤ 432000000
  i2s_high u = from (split 432000000 (rough_in d d.i2s.n.0))
    where
      from : (432000000 < rough_in d d.i2s.n.0) ⊎ (rough_in d d.i2s.n.0 ≤ 432000000) → rough_in d d.i2s.n.0 ≤ 432000000
      from (inl h) = absurd (unlimited d (late_refusal d) (late_first d) made.unlimited 11 (i2s_vco (u, inr h)))
      from (inr h) = h

  pub i2s_outputs : d.i2s.use_plli2s ≡ true → (rough_in d d.i2s.n.0 / d.i2s.r.0 ≤ 216000000) × (rough_in d d.i2s.n.0 / d.i2s.q.0 ≤ 216000000)
  i2s_outputs u =
      let h = (planned_checked c d k made.plans).i2s in
      let v = i2s_high u in
      (div-le_of_le-mul d.i2s.r.0 (omega (arith, h.r.low)), div-le_of_le-mul d.i2s.q.0 (omega (arith, h.q.low)))
