-- Which number a start answers with, and that a refusal but 12 stores nothing: read off how a start comes about and off the plan's own theorems.
use Prim.Native.Nat.{ℕ}
use native.Mathlib.Omega.{arith}
use mathlib.Core.Path.{◌≡◌, refl, sym, ◌∙◌, ap, subst}
use mathlib.Core.Logic.{◌⊎◌, inl, inr, ◌↔◌}
use mathlib.Core.List.{List, ◌∷◌}
use Rattle.kinds.specs.Table.{Between, Outside}
use Rattle.kinds.specs.Turns.{First, OneOf}
use Rattle.kinds.proofs.Turns.{wider, none_is}
use Rattle.std.specs.Prelude.{Result, Err}
use Rattle.kinds.specs.Refusals.{number_of as number_of_refusal}
use Rattle.kinds.specs.declared.CFGR.{CFGR}
use Rattle.clocks.specs.declared.Clocks.{Clocks}
use Rattle.clocks.specs.declared.InternalRCCConfig.{InternalRCCConfig}
use Rattle.plan.specs.Plan.{ready, plan_of, number_of as plan_number}
use Rattle.plan.specs.Refusals.{PlanRefused, plan_numbers}
use Rattle.plan.specs.declared.Planned.{Planned}
use Rattle.configure.specs.declared.Unplanned.{Unplanned}
use Rattle.plan.proofs.Theorems.{plan_refuses_exactly, plan_gives_only}
use Rattle.order.specs.declared.wait.Awaited.{Awaited}
use Rattle.order.specs.Waits.{wait_number}
use Rattle.order.specs.Order.{WAITS, ops_of}
use Rattle.startup.specs.Start.{Ending, at_end, at_cut, at_wait, walk, outcome_of, start_of, start_numbers, number_of}
use Rattle.startup.specs.Cuts.{Leaves, before, Silent}
use Rattle.startup.specs.declared.Outcome.TheVariants.{Unanswered}
use Rattle.startup.specs.declared.Started.{Started}
use Rattle.order.proofs.Numbered.{wait_named_lem}
use Rattle.startup.proofs.Leaving.{leaves}
use Rattle.startup.proofs.Silent.{silent_exactly}
use Rattle.startup.proofs.Told.{plan_told}
use Rattle.startup.proofs.View.{apart, StartView, bad_limit, not_planned, ran, start_view}

-- a walk is refused with 12 alone
walk_number : (x : Clocks) (y : InternalRCCConfig) (e : Ending) → (number_of (outcome_of x y e) ≡ 0) ⊎ (number_of (outcome_of x y e) ≡ 12)
walk_number x y at_end = inl refl
walk_number x y at_cut = inl refl
walk_number x y (at_wait k) = inr refl

-- a refusal of the plan has one of its numbers
plan_gives : (c : CFGR) (u : Unplanned) → plan_of c ≡ Err u → OneOf (0 ∷ plan_numbers) (number_of_refusal u.refusal)
plan_gives c u e = subst (λ (z : ℕ). OneOf (0 ∷ plan_numbers) z) (ap (λ (p : Result Planned Unplanned). plan_number p) e) (plan_gives_only c)

module _ (c : CFGR) (f : List ℕ) (lim : ℕ) (xs : List ℕ) (cut : ℕ) where
  -- 13 comes first: exactly if the poll limit lies outside 1..65,535
  pub thirteen_exactly : (number_of (start_of c f lim xs cut).outcome ≡ 13) ↔ Outside 1 65535 lim
  thirteen_exactly = (λ e. forth (start_of c f lim xs cut) (start_view c f lim xs cut) e, λ o. back (start_of c f lim xs cut) (start_view c f lim xs cut) o)
    where
      walked : (x : Clocks) (y : InternalRCCConfig) (e : Ending) → number_of (outcome_of x y e) ≡ 13 → ⊥
      walked x y e h = not (walk_number x y e)
        where
          not : (number_of (outcome_of x y e) ≡ 0) ⊎ (number_of (outcome_of x y e) ≡ 12) → ⊥
          not (inl g) = omega arith
          not (inr g) = omega arith

      forth : (r : Started) → StartView c f lim xs cut r → number_of r.outcome ≡ 13 → Outside 1 65535 lim
      forth r (bad_limit o) e = o
      forth r (not_planned {u = u} b p) e = absurd (none_is 13 (0 ∷ plan_numbers) tt (number_of_refusal u.refusal) (plan_gives c u p) e)
      forth r (ran {d = d} {x = x} {y = y} b p) e = absurd (walked x y (walk lim (ops_of d y) cut xs f).ending e)

      back : (r : Started) → StartView c f lim xs cut r → Outside 1 65535 lim → number_of r.outcome ≡ 13
      back r (bad_limit p) o = refl
      back r (not_planned b p) o = absurd (apart b o)
      back r (ran b p) o = absurd (apart b o)

  -- then the plan's: a number but 0, 12 and 13 exactly if the limit is good and it is the first in turn that the table gives for plan
  pub plan's_exactly : (n : ℕ) → (n ≡ 0 → ⊥) → (n ≡ 12 → ⊥) → (n ≡ 13 → ⊥)
      → (number_of (start_of c f lim xs cut).outcome ≡ n) ↔ (Between 1 65535 lim × First (PlanRefused c) n)
  plan's_exactly n z w t = (λ e. forth (start_of c f lim xs cut) (start_view c f lim xs cut) e, λ h. back (start_of c f lim xs cut) (start_view c f lim xs cut) h.0 ((plan_refuses_exactly c n).1 h.1))
    where
      walked : (x : Clocks) (y : InternalRCCConfig) (e : Ending) → number_of (outcome_of x y e) ≡ n → ⊥
      walked x y e h = from (walk_number x y e)
        where
          from : (number_of (outcome_of x y e) ≡ 0) ⊎ (number_of (outcome_of x y e) ≡ 12) → ⊥
          from (inl g) = z (sym h ∙ g)
          from (inr g) = w (sym h ∙ g)

      forth : (r : Started) → StartView c f lim xs cut r → number_of r.outcome ≡ n → Between 1 65535 lim × First (PlanRefused c) n
      forth r (bad_limit o) e = absurd (t (sym e))
      forth r (not_planned b p) e = (b, (plan_refuses_exactly c n).0 (ap (λ (q : Result Planned Unplanned). plan_number q) p ∙ e))
      forth r (ran {d = d} {x = x} {y = y} b p) e = absurd (walked x y (walk lim (ops_of d y) cut xs f).ending e)

      back : (r : Started) → StartView c f lim xs cut r → Between 1 65535 lim → plan_number (plan_of c) ≡ n → number_of r.outcome ≡ n
      back r (bad_limit o) b e = absurd (apart b o)
      back r (not_planned h p) b e = sym (ap (λ (q : Result Planned Unplanned). plan_number q) p) ∙ e
      back r (ran h p) b e = absurd (z (sym e ∙ ap (λ (q : Result Planned Unplanned). plan_number q) p))

  -- and no other number: 14 is the record's
  pub start_gives_only : OneOf (0 ∷ start_numbers) (number_of (start_of c f lim xs cut).outcome)
  start_gives_only = from (start_of c f lim xs cut) (start_view c f lim xs cut)
    where
      walked : (x : Clocks) (y : InternalRCCConfig) (e : Ending) → OneOf (0 ∷ start_numbers) (number_of (outcome_of x y e))
      walked x y at_end = tt
      walked x y at_cut = tt
      walked x y (at_wait k) = tt

      from : (r : Started) → StartView c f lim xs cut r → OneOf (0 ∷ start_numbers) (number_of r.outcome)
      from r (bad_limit o) = tt
      from r (not_planned {u = u} b p) = wider (0 ∷ plan_numbers) (0 ∷ start_numbers) tt (number_of_refusal u.refusal) (plan_gives c u p)
      from r (ran {d = d} {x = x} {y = y} b p) = walked x y (walk lim (ops_of d y) cut xs f).ending

  -- refused otherwise than by 12: the file as it came, and no poll
  pub refused_stores_nothing : (number_of (start_of c f lim xs cut).outcome ≡ 0 → ⊥) → (number_of (start_of c f lim xs cut).outcome ≡ 12 → ⊥)
      → ((start_of c f lim xs cut).file ≡ f) × ((start_of c f lim xs cut).polls ≡ 0)
  refused_stores_nothing = from (start_of c f lim xs cut) (start_view c f lim xs cut)
    where
      walked : (x : Clocks) (y : InternalRCCConfig) (e : Ending) → (number_of (outcome_of x y e) ≡ 0 → ⊥) → (number_of (outcome_of x y e) ≡ 12 → ⊥) → ⊥
      walked x y at_end z w = z refl
      walked x y at_cut z w = z refl
      walked x y (at_wait k) z w = w refl

      from : (r : Started) → StartView c f lim xs cut r → (number_of r.outcome ≡ 0 → ⊥) → (number_of r.outcome ≡ 12 → ⊥) → (r.file ≡ f) × (r.polls ≡ 0)
      from r (bad_limit o) z w = (refl, refl)
      from r (not_planned b p) z w = (refl, refl)
      from r (ran {d = d} {x = x} {y = y} b p) z w = absurd (walked x y (walk lim (ops_of d y) cut xs f).ending z w)

  -- 12 names a wait of the list's
  pub unanswered_named : (k : Awaited) → (start_of c f lim xs cut).outcome ≡ Unanswered k → Between 1 WAITS (wait_number k)
  unanswered_named k = from (start_of c f lim xs cut) (start_view c f lim xs cut)
    where
      walked : (d : CFGR) (x : Clocks) (y : InternalRCCConfig) (e : Ending) (g : List ℕ) → Leaves (ops_of d y) cut f e g → outcome_of x y e ≡ Unanswered k → Between 1 WAITS (wait_number k)
      walked d x y at_end g l h = absurd (let q : ◌≡◌ {A = ℕ} 0 1 = cc in omega arith)
      walked d x y at_cut g l h = absurd (let q : ◌≡◌ {A = ℕ} 0 1 = cc in omega arith)
      walked d x y (at_wait j) g (before a b u i) h = let q : j ≡ k = cc in subst (λ (i : Awaited). Between 1 WAITS (wait_number i)) q (wait_named_lem d y a b j u)

      from : (r : Started) → StartView c f lim xs cut r → r.outcome ≡ Unanswered k → Between 1 WAITS (wait_number k)
      from r (bad_limit o) h = absurd (let q : ◌≡◌ {A = ℕ} 0 1 = cc in omega arith)
      from r (not_planned b p) h = absurd (let q : ◌≡◌ {A = ℕ} 0 1 = cc in omega arith)
      from r (ran {d = d} {x = x} {y = y} b p) h = walked d x y (walk lim (ops_of d y) cut xs f).ending (walk lim (ops_of d y) cut xs f).file (leaves lim (ops_of d y) cut xs f) h

  -- 12 with the wait k exactly if the limit is good, the plan accepted, and k is the wait that is not answered
  pub unanswered_exactly : (k : Awaited) → ((start_of c f lim xs cut).outcome ≡ Unanswered k)
      ↔ (Between 1 65535 lim × ((d : CFGR) × (j : ℕ) × (x : Clocks) × (y : InternalRCCConfig) × (plan_of c ≡ ready d j x y) × Silent lim (ops_of d y) cut xs k))
  unanswered_exactly k = (forth (start_of c f lim xs cut) (start_view c f lim xs cut), λ h. back (start_of c f lim xs cut) (start_view c f lim xs cut) h.0 h.1)
    where
      Is : Type 0
      Is = (d : CFGR) × (j : ℕ) × (x : Clocks) × (y : InternalRCCConfig) × (plan_of c ≡ ready d j x y) × Silent lim (ops_of d y) cut xs k

      ended : (x : Clocks) (y : InternalRCCConfig) (e : Ending) → outcome_of x y e ≡ Unanswered k → e ≡ at_wait k
      ended x y at_end h = absurd (let q : ◌≡◌ {A = ℕ} 0 1 = cc in omega arith)
      ended x y at_cut h = absurd (let q : ◌≡◌ {A = ℕ} 0 1 = cc in omega arith)
      ended x y (at_wait j) h = let q : j ≡ k = cc in ap at_wait q

      forth : (r : Started) → StartView c f lim xs cut r → r.outcome ≡ Unanswered k → Between 1 65535 lim × Is
      forth r (bad_limit o) h = absurd (let q : ◌≡◌ {A = ℕ} 0 1 = cc in omega arith)
      forth r (not_planned b p) h = absurd (let q : ◌≡◌ {A = ℕ} 0 1 = cc in omega arith)
      forth r (ran {d = d} {k = j} {x = x} {y = y} b p) h =
          (b, (d, j, x, y, p, (silent_exactly lim (ops_of d y) cut xs f k).0 (ended x y (walk lim (ops_of d y) cut xs f).ending h)))

      same : (a d : CFGR) (t : Clocks) (v y : InternalRCCConfig) → a ≡ d → v ≡ y → Silent lim (ops_of d y) cut xs k → outcome_of t v (walk lim (ops_of a v) cut xs f).ending ≡ Unanswered k
      same a d t v y e h s =
          ap (λ (i : CFGR). outcome_of t v (walk lim (ops_of i v) cut xs f).ending) e
          ∙ ap (λ (i : InternalRCCConfig). outcome_of t v (walk lim (ops_of d i) cut xs f).ending) h
          ∙ ap (outcome_of t v) ((silent_exactly lim (ops_of d y) cut xs f k).1 s)

      back : (r : Started) → StartView c f lim xs cut r → Between 1 65535 lim → Is → r.outcome ≡ Unanswered k
      back r (bad_limit o) b i = absurd (apart b o)
      back r (not_planned h p) b (d, j, x, y, q, s) = absurd (let z : ◌≡◌ {A = ℕ} 0 1 = cc in omega arith)
      back r (ran {d = a} {x = t} {y = v} h p) b (d, j, x, y, q, s) = let z = plan_told (sym p ∙ q) in same a d t v y z.0 z.2 s
