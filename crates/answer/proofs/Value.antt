-- What the value says of the bytes that it answers, and that their line tells it: by the cases of what they are read as and planned as.
use Prim.Native.Nat.{ℕ, zero, suc}
use mathlib.Core.Path.{◌≡◌, refl, sym, ap, ◌∙◌}
use mathlib.Core.Bool.{Bool, true, false, cond, true≢false}
use mathlib.Core.List.{List, [], ◌∷◌}
use mathlib.Core.Logic.{◌↔◌}
use native.Mathlib.Omega.{arith}
use lib.Dec.{eqb}
use lib.ListN.{length, replicate, take, get_or}
use borrow.Author.Tests.{eq-eqb, ne_eqb, eqb-true}
use Rattle.std.specs.Prelude.{None, Result, Ok, Err}
use Rattle.kinds.specs.Limits.{check_of}
use Rattle.kinds.specs.declared.CFGR.{CFGR}
use Rattle.kinds.specs.declared.refusals.Refusal.TheVariants.{Malformed}
use Rattle.kinds.proofs.Check.{told_check}
use Rattle.pll.specs.Numbers.{passes_of as search_passes}
use Rattle.configure.specs.Ways.{search_in, Seeks}
use Rattle.configure.proofs.Theorems.{passes_are_the_search's, no_search_no_pass}
use Rattle.configure.specs.declared.Unplanned.{Unplanned}
use Rattle.plan.specs.Plan.{plan_of, passes_of}
use Rattle.plan.specs.declared.Planned.{Planned}
use Rattle.plan.proofs.Theorems.{refused_is_not_0, passes_are_configure's}
use Rattle.record.specs.Config.{cfgr_of}
use Rattle.record.specs.Reading.{read_of}
use Rattle.record.specs.WellFormed.{WellFormed}
use Rattle.record.proofs.Exactly.{reads_exactly, else_malformed}
use Rattle.text.specs.Ascii.{codes}
use Rattle.text.specs.Back.{numbers_in}
use Rattle.text.specs.Line.{QUANTITIES, line_of, ok_line, no_line}
use Rattle.text.proofs.Reading.{ok_line_reads_back, no_line_reads_back}
use Rattle.answer.specs.Answer.{Answer, number_in, offset_in, passes_in, quantities_in, quantities_of, refused_answer, planned_answer, read_answer, answer_of, line_of_answer, answer_line, Granted}
use Rattle.record.specs.declared.Fault.{Fault}

-- ---- what its line tells
-- its number is 0 exactly if its line begins with `ok`
pub accepted_exactly : (bytes : List ℕ) → (number_in (answer_of bytes) ≡ 0) ↔ (take 2 (answer_line bytes) ≡ codes "ok")
unfolding answer_line line_of_answer line_of
accepted_exactly bytes = by (answer_of bytes) (eqb (number_in (answer_of bytes)) 0) refl
  where
    by : (a : Answer) (t : Bool) → eqb (number_in a) 0 ≡ t → (number_in a ≡ 0) ↔ (take 2 (cond t (ok_line (quantities_in a)) (no_line (number_in a))) ≡ codes "ok")
    by a true e = (λ g. refl, λ g. eqb-true (number_in a) 0 e)
    by a false e = (
      λ g. absurd (true≢false (sym (eq-eqb (number_in a) 0 g) ∙ e)),
      λ g. absurd (let z : ◌≡◌ {A = ℕ} 110 111 = ap (λ (l : List ℕ). get_or l 0 0) g in omega arith),
    )

-- accepted, the numbers read back from its line are its quantities
pub quantities_read_back : (bytes : List ℕ) → number_in (answer_of bytes) ≡ 0 → numbers_in (answer_line bytes) ≡ quantities_in (answer_of bytes)
unfolding answer_line line_of_answer
quantities_read_back bytes e = rw (eq-eqb (number_in (answer_of bytes)) 0 e) (ok_line_reads_back (quantities_in (answer_of bytes)))

-- refused, its number alone
pub number_reads_back : (bytes : List ℕ) → (number_in (answer_of bytes) ≡ 0 → ⊥) → numbers_in (answer_line bytes) ≡ number_in (answer_of bytes) ∷ []
unfolding answer_line line_of_answer
number_reads_back bytes n = rw (ne_eqb (number_in (answer_of bytes)) 0 n) (no_line_reads_back (number_in (answer_of bytes)))

-- ---- what it says of the bytes
-- a well-formed record has the answer of its plan, any other bytes that of their fault
pub planned_answer_lem : (bytes : List ℕ) → WellFormed bytes → answer_of bytes ≡ planned_answer (plan_of (cfgr_of bytes))
unfolding answer_of read_answer
planned_answer_lem bytes w = ap read_answer ((reads_exactly bytes).1 w)

pub malformed_answer : (bytes : List ℕ) → (WellFormed bytes → ⊥) → answer_of bytes ≡ refused_answer Malformed None 0
unfolding answer_of read_answer
malformed_answer bytes n = rw ((else_malformed bytes n).1)

-- so its number is 14, and it names no offset and has no pass
pub malformed_told : (bytes : List ℕ) → (WellFormed bytes → ⊥) → (number_in (answer_of bytes) ≡ 14) × (offset_in (answer_of bytes) ≡ 0) × (passes_in (answer_of bytes) ≡ 0)
unfolding refused_answer
malformed_told bytes n = rw (malformed_answer bytes n) (refl, refl, refl)

-- 0 is given where there is a plan, and only there
granted : (c : CFGR) (y : Result Planned Unplanned) → plan_of c ≡ y → number_in (planned_answer y) ≡ 0 → Granted c (planned_answer y)
unfolding planned_answer refused_answer
granted c (Err u) h e = absurd (refused_is_not_0 c u.refusal u.passes h e)
granted c (Ok p) h e = record { cfgr = p.cfgr; passes = p.passes; clocks = p.derived.clocks; config = p.derived.config; plan = h; same_passes = refl; same_quantities = refl }

pub accepted_planned : (bytes : List ℕ) → WellFormed bytes → number_in (answer_of bytes) ≡ 0 → Granted (cfgr_of bytes) (answer_of bytes)
accepted_planned bytes w e =
    let p = planned_answer_lem bytes w in
    rw p (granted (cfgr_of bytes) (plan_of (cfgr_of bytes)) refl (rw p at e))

-- there are fourteen quantities, and refused each is 0
abbrev Fourteen : Answer → Type 0
Fourteen a = (length (quantities_in a) ≡ QUANTITIES) × ((number_in a ≡ 0 → ⊥) → quantities_in a ≡ replicate QUANTITIES 0)

planned_fourteen : (y : Result Planned Unplanned) → Fourteen (planned_answer y)
unfolding planned_answer refused_answer quantities_of
planned_fourteen (Err u) = (refl, λ n. refl)
planned_fourteen (Ok p) = (refl, λ n. absurd (n refl))

read_fourteen : (x : Result CFGR Fault) → Fourteen (read_answer x)
unfolding read_answer refused_answer
read_fourteen (Err fault) = (refl, λ n. refl)
read_fourteen (Ok c) = planned_fourteen (plan_of c)

pub fourteen : (bytes : List ℕ) → length (quantities_in (answer_of bytes)) ≡ QUANTITIES
unfolding answer_of
fourteen bytes = (read_fourteen (read_of bytes)).0

pub refused_tells_none : (bytes : List ℕ) → (number_in (answer_of bytes) ≡ 0 → ⊥) → quantities_in (answer_of bytes) ≡ replicate QUANTITIES 0
unfolding answer_of
refused_tells_none bytes = (read_fourteen (read_of bytes)).1

-- ---- its passes
planned_passes : (y : Result Planned Unplanned) → passes_in (planned_answer y) ≡ passes_of y
unfolding planned_answer refused_answer
planned_passes (Err u) = refl
planned_passes (Ok p) = refl

passes_are_the_plan's : (bytes : List ℕ) → WellFormed bytes → passes_in (answer_of bytes) ≡ passes_of (plan_of (cfgr_of bytes))
passes_are_the_plan's bytes w = ap passes_in (planned_answer_lem bytes w) ∙ planned_passes (plan_of (cfgr_of bytes))

-- those of the search wherever one ran, whatever the answer
pub passes_told : (bytes : List ℕ) → WellFormed bytes → Seeks (cfgr_of bytes) → passes_in (answer_of bytes) ≡ search_passes (search_in (cfgr_of bytes))
passes_told bytes w s = passes_are_the_plan's bytes w ∙ passes_are_configure's (cfgr_of bytes) ∙ passes_are_the_search's (cfgr_of bytes) s

stable : (n : ℕ) → ((n ≡ 0 → ⊥) → ⊥) → n ≡ 0
stable zero h = refl
stable (suc n) h = absurd (h (λ e. omega arith))

-- else 0
pub unsearched : (bytes : List ℕ) → (WellFormed bytes → Seeks (cfgr_of bytes) → ⊥) → passes_in (answer_of bytes) ≡ 0
unsearched bytes f = stable (passes_in (answer_of bytes)) (λ n. n (malformed_told bytes (λ w. n (of_plan w))).2)
  where
    of_plan : WellFormed bytes → passes_in (answer_of bytes) ≡ 0
    of_plan w = passes_are_the_plan's bytes w ∙ passes_are_configure's (cfgr_of bytes) ∙ no_search_no_pass (cfgr_of bytes) (f w)

-- so with a refusal of 1 to 6
pub limits_no_pass : (bytes : List ℕ) → (check_of (cfgr_of bytes) ≡ 0 → ⊥) → passes_in (answer_of bytes) ≡ 0
limits_no_pass bytes n = unsearched bytes (λ w s. n (told_check (cfgr_of bytes) s.checked))
