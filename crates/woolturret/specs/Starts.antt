-- What woolturret_start answers, and what the lent file and clocks hold then.
use Rattle.std.specs.Prelude.{ℕ, ◌≡◌, cond, List, eqb, length, Result, Ok, Err}
use Rattle.kinds.specs.declared.CFGR.{CFGR}
use Rattle.order.specs.Places.{PLACES}
use Rattle.startup.specs.Start.{limit_of, start_of, wait_named}
use Rattle.startup.specs.Start.{number_of as outcome_number}
use Rattle.startup.specs.declared.Outcome.{Outcome}
use Rattle.startup.specs.declared.Outcome.TheVariants.{Done, Cut, Refused, Unanswered}
use Rattle.startup.specs.declared.Started.{Started}
use Rattle.record.specs.Reading.{number_of}
use Rattle.numbers.specs.Plans.{clock_numbers}
use Rattle.woolturret.specs.declared.Report.{Report}
use Rattle.record.specs.declared.Fault.{Fault}

-- the four numbers answered, and the lent file and clocks as they are left
pub record StartReply : Type 0 where
  pub report : Report
  pub file : List ℕ
  pub clocks : List ℕ

pub record Starts (y : StartReply) (r : Report) (file clocks : List ℕ) : Type 0 where
  pub answer : r ≡ y.report
  pub file_holds : file ≡ y.file
  pub clocks_hold : clocks ≡ y.clocks

-- 1 if it ended at the cut
abbrev pub cut_of : Outcome → ℕ
cut_of (Done d) = 0
cut_of (Cut d) = 1
cut_of (Refused r) = 0
cut_of (Unanswered k) = 0

-- the clocks of the plan, also when cut; refused, 12 too, the lent ones as they came
abbrev pub clocks_of : Outcome → List ℕ → List ℕ
clocks_of (Done d) clocks = clock_numbers d.clocks d.config
clocks_of (Cut d) clocks = clock_numbers d.clocks d.config
clocks_of (Refused r) clocks = clocks
clocks_of (Unanswered k) clocks = clocks

abbrev pub report_of : Outcome → ℕ → Report
report_of o polls = record { refusal = outcome_number o; cut = cut_of o; wait = wait_named o; polls = polls }

-- a start that ran: its own file is what is left
abbrev pub started_reply : Started → List ℕ → StartReply
started_reply s clocks = record { report = report_of s.outcome s.polls; file = s.file; clocks = clocks_of s.outcome clocks }

-- 13 or 14: nothing lent is written
abbrev pub refused_report : ℕ → Report
refused_report n = record { refusal = n; cut = 0; wait = 0; polls = 0 }

abbrev pub refused_reply : ℕ → List ℕ → List ℕ → StartReply
refused_reply n file clocks = record { report = refused_report n; file = file; clocks = clocks }

-- 14: a file of another number of places
unfoldable pub placed_reply : CFGR → List ℕ → ℕ → List ℕ → ℕ → List ℕ → StartReply
placed_reply c file lim xs cut clocks = cond (eqb (length file) PLACES) (started_reply (start_of c file lim xs cut) clocks) (refused_reply 14 file clocks)

-- 14: a malformed record
abbrev pub read_reply : Result CFGR Fault → List ℕ → ℕ → List ℕ → ℕ → List ℕ → StartReply
read_reply (Err fault) file lim xs cut clocks = refused_reply (number_of fault) file clocks
read_reply (Ok c) file lim xs cut clocks = placed_reply c file lim xs cut clocks

-- record, lent file, poll limit, answers, cut, lent clocks: 13 first, then 14, then what the start itself gives
unfoldable pub start_reply : Result CFGR Fault → List ℕ → ℕ → List ℕ → ℕ → List ℕ → StartReply
start_reply z file lim xs cut clocks = cond (eqb (limit_of lim) 0) (read_reply z file lim xs cut clocks) (refused_reply (limit_of lim) file clocks)
