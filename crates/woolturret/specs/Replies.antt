-- What an exported function answers, and what the lent numbers hold then.
use Rattle.std.specs.Prelude.{ℕ, ◌≡◌, List, Option, Some, None, Result, Ok, Err}
use Rattle.kinds.specs.Limits.{check_of}
use Rattle.calls.specs.Calls.{call_setting}
use Rattle.kinds.specs.declared.CFGR.{CFGR}
use Rattle.record.specs.Reading.{number_of}
use Rattle.pll.specs.Numbers.{number_of as found_number}
use Rattle.pll.specs.Numbers.{outcome_number_of}
use Rattle.pll.specs.declared.Pair.{Pair}
use Rattle.pll.specs.declared.Miss.{Miss}
use Rattle.kinds.specs.Setters.{setting_number, handed}
use Rattle.kinds.specs.declared.refusals.Refusal.{Refusal}
use Rattle.numbers.specs.Answers.{found_numbers}
use Rattle.numbers.specs.Numbers.{config_numbers}
use Rattle.calls.specs.declared.Setter.{Setter}
use Rattle.record.specs.declared.Fault.{Fault}

-- the number answered, and the lent numbers as they are left
pub record Reply : Type 0 where
  pub number : ℕ
  pub left : List ℕ

pub record Replied (y : Reply) (r : ℕ) (out : List ℕ) : Type 0 where
  pub answer : r ≡ y.number
  pub holds : out ≡ y.left

-- a malformed record: 14
abbrev pub check_reply : Result CFGR Fault → ℕ
check_reply (Err fault) = number_of fault
check_reply (Ok c) = check_of c

-- an unknown setter or code: 14, and the lent numbers as they came
abbrev pub call_reply : CFGR → Option Setter → List ℕ → Reply
call_reply c None out = record { number = 14; left = out }
call_reply c (Some s) out = record { number = setting_number (call_setting c s); left = config_numbers (handed (call_setting c s)) }

abbrev pub set_reply : Result CFGR Fault → Option Setter → List ℕ → Reply
set_reply (Err fault) call out = record { number = number_of fault; left = out }
set_reply (Ok c) call out = call_reply c call out

-- the search leaves its five numbers, whatever it answers
abbrev pub search_reply : Result Pair Miss → Reply
search_reply found = record { number = found_number found; left = found_numbers found }

-- an output: its hertz where it is given; refused, the lent number as it came
abbrev pub hertz_of : Result ℕ Refusal → ℕ → ℕ
hertz_of (Err refusal) before = before
hertz_of (Ok hertz) before = hertz

pub record Told (o : Result ℕ Refusal) (before r after : ℕ) : Type 0 where
  pub answer : r ≡ outcome_number_of o
  pub holds : after ≡ hertz_of o before
