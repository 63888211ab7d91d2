-- Document 01's table of refusals for a start by a record: 13 for the limit, 14 for a file of another number of places, else as any answer's; of several, the first in turn is answered (`First`). 12 comes as the waits come.
use Rattle.std.specs.Prelude.{ℕ, ◌≡◌, List, ◌∷◌, length, Result}
use Rattle.kinds.specs.Table.{Outside}
use Rattle.order.specs.Places.{PLACES}
use Rattle.answer.specs.Refusals.{AnswerRefused, answer_numbers}
use Rattle.kinds.specs.declared.CFGR.{CFGR}
use Rattle.record.specs.declared.Fault.{Fault}

pub data StartRefused (z : Result CFGR Fault) (file : List ℕ) (lim : ℕ) : ℕ → Type 0 where
  limit : Outside 1 65535 lim → StartRefused z file lim 13
  places : (length file ≡ PLACES → ⊥) → StartRefused z file lim 14
  answered : {n : ℕ} → AnswerRefused z n → StartRefused z file lim n

-- the numbers that it can give
abbrev pub table_numbers : List ℕ
table_numbers = 13 ∷ answer_numbers
