-- Document 01, "Start-up": what a start answers: the list walked from its first store on, up to the cut or a wait that is not answered.
use Rattle.std.specs.Prelude.{ℕ, zero, suc, ◌+◌, Bool, true, false, cond, List, [], ◌∷◌, eqb, Result, Ok, Err}
use Rattle.kinds.specs.Limits.{outside_of}
use Rattle.kinds.specs.Refusals.{refusal_of, number_of as number_of_refusal}
use Rattle.kinds.specs.declared.CFGR.{CFGR}
use Rattle.clocks.specs.declared.Clocks.{Clocks}
use Rattle.clocks.specs.declared.InternalRCCConfig.{InternalRCCConfig}
use Rattle.plan.specs.Plan.{plan_of}
use Rattle.plan.specs.Refusals.{plan_numbers}
use Rattle.plan.specs.declared.Planned.{Planned}
use Rattle.configure.specs.declared.Unplanned.{Unplanned}
use Rattle.kinds.specs.declared.refusals.Refusal.{Refusal}
use Rattle.order.specs.Files.{writes}
use Rattle.order.specs.declared.wait.Awaited.{Awaited}
use Rattle.order.specs.Waits.{wait_number}
use Rattle.order.specs.Order.{Op, put, wait, ops_of}
use Rattle.startup.specs.declared.Outcome.{Outcome}
use Rattle.startup.specs.declared.Outcome.TheVariants.{Done, Cut, Refused, Unanswered}
use Rattle.startup.specs.declared.Started.{Started}

-- what a wait makes of the answers: whether it was answered, its polls, and the answers left
pub record Polled : Type 0 where
  pub ready : Bool
  pub polls : ℕ
  pub rest : List ℕ

-- one poll more, which was not ready
abbrev pub again : Polled → Polled
again p = record { ready = p.ready; polls = suc p.polls; rest = p.rest }

-- each poll takes one byte: 1 is ready, any other byte is not. A poll past the end takes nothing, isn't ready and counts
abbrev pub polled_of : ℕ → List ℕ → Polled
polled_of zero xs = record { ready = false; polls = 0; rest = xs }
polled_of (suc n) [] = again (polled_of n [])
polled_of (suc n) (x ∷ xs) = cond (eqb x 1) (record { ready = true; polls = 1; rest = xs }) (again (polled_of n xs))

-- how a walk ends: at its own end, at the cut, or at a wait that is not answered
pub data Ending : Type 0 where
  at_end : Ending
  at_cut : Ending
  at_wait : Awaited → Ending

pub record Walked : Type 0 where
  pub ending : Ending
  pub file : List ℕ
  pub polls : ℕ

-- a walk after some polls
abbrev pub after : ℕ → Walked → Walked
after k w = record { ending = w.ending; file = w.file; polls = k + w.polls }

-- the cut is reached
abbrev pub stopped : List ℕ → Walked
stopped f = record { ending = at_cut; file = f; polls = 0 }

-- limit, list, stores left before the cut, answers left, file. It ends right after the last store that the cut allows;
-- a wait that is not answered within the limit ends it with the file as the stores so far made it
abbrev pub walk : ℕ → List Op → ℕ → List ℕ → List ℕ → Walked
walk lim [] zero xs f = stopped f
walk lim [] (suc n) xs f = record { ending = at_end; file = f; polls = 0 }
walk lim (put ws ∷ os) zero xs f = stopped f
walk lim (put ws ∷ os) (suc n) xs f = walk lim os n xs (writes f ws)
walk lim (wait k ∷ os) zero xs f = stopped f
walk lim (wait k ∷ os) (suc n) xs f =
    cond (polled_of lim xs).ready
    (after (polled_of lim xs).polls (walk lim os (suc n) (polled_of lim xs).rest f))
    (record { ending = at_wait k; file = f; polls = (polled_of lim xs).polls })

-- the clocks and field codes of the plan go with an answer that is no refusal
abbrev pub done_with : Clocks → InternalRCCConfig → Outcome
done_with x y = Done (record { clocks = x; config = y })

abbrev pub cut_with : Clocks → InternalRCCConfig → Outcome
cut_with x y = Cut (record { clocks = x; config = y })

abbrev pub outcome_of : Clocks → InternalRCCConfig → Ending → Outcome
outcome_of x y at_end = done_with x y
outcome_of x y at_cut = cut_with x y
outcome_of x y (at_wait k) = Unanswered k

abbrev pub started_of : Clocks → InternalRCCConfig → Walked → Started
started_of x y w = record { outcome = outcome_of x y w.ending; polls = w.polls; file = w.file }

-- a refusal other than 12 hands back the file as it came, and 0 polls
abbrev pub refused_of : Refusal → List ℕ → Started
refused_of r f = record { outcome = Refused r; polls = 0; file = f }

-- the plan's refusals, or its list
unfoldable pub planned_start : Result Planned Unplanned → List ℕ → ℕ → List ℕ → ℕ → Started
planned_start (Err u) f lim xs cut = refused_of u.refusal f
planned_start (Ok p) f lim xs cut = started_of p.derived.clocks p.derived.config (walk lim (ops_of p.cfgr p.derived.config) cut xs f)

-- 13: poll limit outside 1..65,535
abbrev pub limit_of : ℕ → ℕ
limit_of lim = outside_of 1 65535 13 lim

-- configuration, file, poll limit, answers, cut. 13 comes first; a start plans for itself
unfoldable pub start_of : CFGR → List ℕ → ℕ → List ℕ → ℕ → Started
start_of c f lim xs cut = cond (eqb (limit_of lim) 0) (planned_start (plan_of c) f lim xs cut) (refused_of (refusal_of (limit_of lim)) f)

-- the numbers that a start can be refused with: the plan's, 13, and 12
abbrev pub start_numbers : List ℕ
start_numbers = 12 ∷ 13 ∷ plan_numbers

-- document 01's number of an outcome, and the number of the wait that 12 names
abbrev pub number_of : Outcome → ℕ
number_of (Done d) = 0
number_of (Cut d) = 0
number_of (Refused r) = number_of_refusal r
number_of (Unanswered k) = 12

abbrev pub wait_named : Outcome → ℕ
wait_named (Done d) = 0
wait_named (Cut d) = 0
wait_named (Refused r) = 0
wait_named (Unanswered k) = wait_number k
