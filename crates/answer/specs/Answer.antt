-- Document 01, "Request record", the program's line: what any bytes are answered with, as a value and as its line.
use Rattle.std.specs.Prelude.{ℕ, ◌≡◌, cond, List, [], ◌∷◌, eqb, replicate, Option, None, unwrap_or, Result, Ok, Err}
use Rattle.kinds.specs.Codes.{p_divider_of}
use Rattle.kinds.specs.Refusals.{number_of as number_of_refusal}
use Rattle.kinds.specs.declared.CFGR.{CFGR}
use Rattle.kinds.specs.declared.Pll.{Pll}
use Rattle.kinds.specs.declared.refusals.Refusal.{Refusal}
use Rattle.kinds.specs.declared.refusals.Refusal.TheVariants.{Malformed}
use Rattle.configure.specs.declared.Unplanned.{Unplanned}
use Rattle.clocks.specs.declared.Clocks.{Clocks}
use Rattle.clocks.specs.declared.InternalRCCConfig.{InternalRCCConfig}
use Rattle.plan.specs.Plan.{ready, plan_of, number_of as plan_number}
use Rattle.plan.specs.declared.Planned.{Planned}
use Rattle.record.specs.Reading.{read_of, number_of}
use Rattle.record.specs.declared.Fault.{Fault}
use Rattle.text.specs.Ascii.{codes}
use Rattle.text.specs.Line.{QUANTITIES, ok_line, no_line}
use Rattle.answer.specs.declared.Served.{Served}
use Rattle.answer.specs.declared.Refused.{Refused}
use Rattle.answer.specs.declared.Numbered.{Numbered}

-- what bytes are answered with
abbrev pub Answer : Type 0
Answer = Result Served Refused

-- an answer's number: 0 or the refusal's; the offset that it names, 0 where it names none; its passes; its quantities, all 0 where it
-- is refused
abbrev pub number_in : Answer → ℕ
number_in (Ok s) = 0
number_in (Err r) = number_of_refusal r.refusal

abbrev pub offset_in : Answer → ℕ
offset_in (Ok s) = 0
offset_in (Err r) = unwrap_or r.offset 0

abbrev pub passes_in : Answer → ℕ
passes_in (Ok s) = s.passes
passes_in (Err r) = r.passes

abbrev pub quantities_in : Answer → List ℕ
quantities_in (Ok s) = s.quantities
quantities_in (Err r) = replicate QUANTITIES 0

-- SYSCLK, HCLK, PCLK1, PCLK2, both timers, M, N, P, Q, wait states, scale, over-drive, 48 MHz valid
unfoldable pub quantities_of : Pll → Clocks → InternalRCCConfig → List ℕ
quantities_of l x g =
    x.sysclk.0 ∷ x.hclk.0 ∷ x.pclk1.0 ∷ x.pclk2.0 ∷ x.timclk1.0 ∷ x.timclk2.0
    ∷ l.m.0 ∷ l.n.0 ∷ p_divider_of l.p ∷ l.q.0
    ∷ g.flash_waitstates ∷ g.vos_scale ∷ cond g.overdrive 1 0 ∷ cond x.pll48clk_valid 1 0
    ∷ []

-- a refusal: which it is, the offset that it names, the passes made; no quantity is told
unfoldable pub refused_answer : Refusal → Option ℕ → ℕ → Answer
refused_answer refusal offset passes = Err (record { refusal = refusal; offset = offset; passes = passes })

-- a plan is answered with its quantities, those of the PLL as planned
unfoldable pub planned_answer : Result Planned Unplanned → Answer
planned_answer (Err u) = refused_answer u.refusal None u.passes
planned_answer (Ok p) = Ok (record { passes = p.passes; quantities = quantities_of p.cfgr.pll p.derived.clocks p.derived.config })

-- for a malformed record nothing is searched; document 01 names no offset
unfoldable pub read_answer : Result CFGR Fault → Answer
read_answer (Err fault) = refused_answer Malformed None 0
read_answer (Ok c) = planned_answer (plan_of c)

-- the answer of any bytes, also of another length than a record's
unfoldable pub answer_of : List ℕ → Answer
answer_of bytes = read_answer (read_of bytes)

-- the line: `ok` and the quantities, or `no` and the number
unfoldable pub line_of_answer : Answer → List ℕ
line_of_answer a = cond (eqb (number_in a) 0) (ok_line (quantities_in a)) (no_line (number_in a))

-- an answer with its refusal by its number
abbrev pub numbered_of : Refused → Numbered
numbered_of r = record { number = number_of_refusal r.refusal; offset = r.offset; passes = r.passes }

abbrev pub told : Answer → Result Served Numbered
told (Ok s) = Ok s
told (Err r) = Err (numbered_of r)

-- the line of one whose number may be any
unfoldable pub line_told : Result Served Numbered → List ℕ
line_told (Ok s) = ok_line s.quantities
line_told (Err r) = no_line r.number

unfoldable pub planned_line : Result Planned Unplanned → List ℕ
planned_line y = line_of_answer (planned_answer y)

unfoldable pub answer_line : List ℕ → List ℕ
answer_line bytes = line_of_answer (answer_of bytes)

-- the number of the refusal that they are answered with; 0 is accepted
abbrev pub refusal_of : Result CFGR Fault → ℕ
refusal_of (Err fault) = number_of fault
refusal_of (Ok c) = plan_number (plan_of c)

-- an accepted configuration has a plan, and its answer tells that plan's passes and quantities
pub record Granted (c : CFGR) (a : Answer) : Type 0 where
  pub cfgr : CFGR
  pub passes : ℕ
  pub clocks : Clocks
  pub config : InternalRCCConfig
  pub plan : plan_of c ≡ ready cfgr passes clocks config
  pub same_passes : passes_in a ≡ passes
  pub same_quantities : quantities_in a ≡ quantities_of cfgr.pll clocks config

-- document 01's whole output for the record of the Rust's defaults
abbrev pub default_line : List ℕ
default_line = codes "ok 16000000 16000000 16000000 16000000 16000000 16000000 2 50 2 2 0 3 0 0\n"
