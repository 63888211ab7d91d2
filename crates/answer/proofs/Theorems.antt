-- What a line tells of the bytes that it answers: by the cases of what they are read as and planned as.
use Prim.Native.Nat.{ℕ}
use mathlib.Core.Path.{◌≡◌, sym, ap, ◌∙◌, refl}
use mathlib.Core.Bool.{Bool, true, false, cond}
use mathlib.Core.List.{List, [], ◌∷◌}
use mathlib.Core.Logic.{◌↔◌}
use native.Mathlib.Omega.{arith}
use lib.Dec.{eqb}
use lib.ListN.{get_or}
use borrow.Author.Tests.{eqb-true, eqb-false}
use Rattle.std.specs.Prelude.{Result, Ok, Err}
use Rattle.kinds.proofs.Turns.{none_is}
use Rattle.kinds.specs.declared.CFGR.{CFGR}
use Rattle.clocks.specs.declared.Clocks.{Clocks}
use Rattle.clocks.specs.declared.InternalRCCConfig.{InternalRCCConfig}
use Rattle.configure.specs.declared.Unplanned.{Unplanned}
use Rattle.plan.specs.Plan.{ready, plan_of, number_of as plan_number}
use Rattle.plan.specs.Refusals.{plan_numbers}
use Rattle.plan.specs.declared.Planned.{Planned}
use Rattle.plan.proofs.Theorems.{plan_gives_only}
use Rattle.record.specs.Config.{cfgr_of}
use Rattle.record.specs.Reading.{read_of}
use Rattle.record.specs.WellFormed.{WellFormed}
use Rattle.record.proofs.Exactly.{reads_exactly, else_malformed, malformed_14}
use Rattle.text.specs.Back.{numbers_in}
use Rattle.text.specs.Line.{line_of, ok_line, no_line}
use Rattle.text.proofs.Reading.{ok_line_reads_back, no_line_reads_back}
use Rattle.answer.specs.Answer.{Answer, number_in, quantities_in, quantities_of, refused_answer, planned_answer, read_answer, answer_of, line_of_answer, planned_line, answer_line, refusal_of}
use Rattle.record.specs.declared.Fault.{Fault}

-- two refusals with one line have one number, and no plan has a refusal's line
one_number : {m n : ℕ} → no_line m ≡ no_line n → m ≡ n
one_number {m} {n} e =
    let l : m ∷ [] ≡ n ∷ [] = sym (no_line_reads_back m) ∙ ap numbers_in e ∙ no_line_reads_back n in
    cc

apart : (ns : List ℕ) (n : ℕ) → ok_line ns ≡ no_line n → ⊥
unfolding line_of
apart ns n e =
    let z : ◌≡◌ {A = ℕ} 111 110 = ap (λ (l : List ℕ). get_or l 0 0) e in
    omega arith

-- the number decides which line it is
line_exactly : (a : Answer) (n : ℕ) → (n ≡ 0 → ⊥) → (line_of_answer a ≡ no_line n) ↔ (number_in a ≡ n)
unfolding line_of_answer
line_exactly a n z = by (eqb (number_in a) 0) refl
  where
    by : (t : Bool) → eqb (number_in a) 0 ≡ t → (cond t (ok_line (quantities_in a)) (no_line (number_in a)) ≡ no_line n) ↔ (number_in a ≡ n)
    by true e = (λ g. absurd (apart _ n g), λ g. absurd (z (sym g ∙ eqb-true (number_in a) 0 e)))
    by false e = (λ g. one_number g, λ g. ap no_line g)

planned_number : (y : Result Planned Unplanned) → number_in (planned_answer y) ≡ plan_number y
unfolding planned_answer refused_answer
planned_number (Err u) = refl
planned_number (Ok p) = refl

read_number : (x : Result CFGR Fault) → number_in (read_answer x) ≡ refusal_of x
unfolding read_answer refused_answer
read_number (Err fault) = sym (malformed_14 fault)
read_number (Ok c) = planned_number (plan_of c)

-- the value's number is the refusal's
pub number_is : (bytes : List ℕ) → number_in (answer_of bytes) ≡ refusal_of (read_of bytes)
unfolding answer_of
number_is bytes = read_number (read_of bytes)

-- the line is `no` and a number exactly if that is the number of the refusal
pub refused_exactly : (bytes : List ℕ) (n : ℕ) → (n ≡ 0 → ⊥) → (answer_line bytes ≡ no_line n) ↔ (refusal_of (read_of bytes) ≡ n)
unfolding answer_line
refused_exactly bytes n z = rw (← number_is bytes) (line_exactly (answer_of bytes) n z)

-- a well-formed record is answered with the line of its plan
pub planned_line_lem : (bytes : List ℕ) → WellFormed bytes → answer_line bytes ≡ planned_line (plan_of (cfgr_of bytes))
unfolding answer_line answer_of read_answer planned_line
planned_line_lem bytes w = ap (λ (x : Result CFGR Fault). line_of_answer (read_answer x)) ((reads_exactly bytes).1 w)

-- and the line of a plan tells its fourteen quantities
pub plan_reads_back : (c : CFGR) (passes : ℕ) (x : Clocks) (g : InternalRCCConfig) → numbers_in (planned_line (ready c passes x g)) ≡ quantities_of c.pll x g
unfolding planned_line planned_answer line_of_answer
plan_reads_back c passes x g = ok_line_reads_back (quantities_of c.pll x g)

-- no plan is refused with 14
never_14 : (c : CFGR) → plan_number (plan_of c) ≡ 14 → ⊥
never_14 c e = none_is 14 (0 ∷ plan_numbers) tt (plan_number (plan_of c)) (plan_gives_only c) e

-- the line is `no 14` exactly if the bytes are no well-formed record
pub says_14_exactly : (bytes : List ℕ) → (answer_line bytes ≡ no_line 14) ↔ (WellFormed bytes → ⊥)
says_14_exactly bytes = (
  λ e w. never_14 (cfgr_of bytes) (sym (ap refusal_of ((reads_exactly bytes).1 w)) ∙ (refused_exactly bytes 14 (λ z. omega arith)).0 e),
  λ n. let f = else_malformed bytes n in (refused_exactly bytes 14 (λ z. omega arith)).1 (ap refusal_of f.1 ∙ malformed_14 f.0),
)

-- no line is `no 0`
pub never_no_0 : (bytes : List ℕ) → answer_line bytes ≡ no_line 0 → ⊥
unfolding answer_line line_of_answer
never_no_0 bytes e = by (answer_of bytes) (eqb (number_in (answer_of bytes)) 0) refl e
  where
    by : (a : Answer) (t : Bool) → eqb (number_in a) 0 ≡ t → cond t (ok_line (quantities_in a)) (no_line (number_in a)) ≡ no_line 0 → ⊥
    by a true h g = apart _ 0 g
    by a false h g = eqb-false (number_in a) 0 h (one_number g)
