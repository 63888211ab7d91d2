-- What the functions for pll_configure, calculate_clocks and plan answer, by what the record reads as.
-- A malformed one: its number, and what is lent as it came, but for 0 passes.
use Rattle.std.specs.Prelude.{ℕ, List, [], Result, Ok, Err}
use Rattle.configure.specs.Configure.{configured_of}
use Rattle.clocks.specs.Derive.{derived_of}
use Rattle.plan.specs.Plan.{plan_of}
use Rattle.record.specs.Reading.{number_of}
use Rattle.numbers.specs.Plans.{PlanReply, told, numbered, configured_reply, derived_reply, planned_reply}
use Rattle.kinds.specs.declared.CFGR.{CFGR}
use Rattle.record.specs.declared.Fault.{Fault}

abbrev pub configure_reply : Result CFGR Fault → List ℕ → PlanReply
configure_reply (Err fault) config = record { number = number_of fault; config = config; clocks = []; passes = 0 }
configure_reply (Ok c) config = configured_reply (told (configured_of c)) config

abbrev pub derive_reply : Result CFGR Fault → List ℕ → PlanReply
derive_reply (Err fault) clocks = record { number = number_of fault; config = []; clocks = clocks; passes = 0 }
derive_reply (Ok c) clocks = derived_reply (numbered (derived_of c)) clocks

abbrev pub plan_reply : Result CFGR Fault → List ℕ → List ℕ → PlanReply
plan_reply (Err fault) config clocks = record { number = number_of fault; config = config; clocks = clocks; passes = 0 }
plan_reply (Ok c) config clocks = planned_reply (told (plan_of c)) config clocks
