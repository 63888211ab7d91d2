-- Document 01's table of refusals for what bytes are read as: 14, and what the plan is refused with; of several, the first in turn is answered (`First`).
use Rattle.std.specs.Prelude.{ℕ, ◌≡◌, List, ◌∷◌, Result, Ok, Err}
use Rattle.kinds.specs.declared.CFGR.{CFGR}
use Rattle.plan.specs.Refusals.{PlanRefused, plan_numbers}
use Rattle.record.specs.declared.Fault.{Fault}

pub data AnswerRefused (z : Result CFGR Fault) : ℕ → Type 0 where
  malformed : {fault : Fault} → z ≡ Err fault → AnswerRefused z 14
  planned : {c : CFGR} {n : ℕ} → z ≡ Ok c → PlanRefused c n → AnswerRefused z n

-- the numbers that an answer can have
abbrev pub answer_numbers : List ℕ
answer_numbers = 14 ∷ plan_numbers
