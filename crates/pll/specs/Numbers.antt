-- Document 01's number and passes of each answer: 0 accepted, 1 and 6 for limits, 7 for a search with no answer.
use Rattle.std.specs.Prelude.{ℕ, Result, Ok, Err}
use Rattle.pll.specs.declared.Pair.{Pair}
use Rattle.pll.specs.declared.Miss.{Miss}
use Rattle.pll.specs.declared.Miss.TheVariants.{BadInput, Nothing}
use Rattle.kinds.specs.declared.refusals.Refusal.{Refusal}
use Rattle.kinds.specs.Refusals.{number_of as refusal_number}

abbrev pub number_of : Result Pair Miss → ℕ
number_of (Ok r) = 0
number_of (Err BadInput) = 1
number_of (Err (Nothing k)) = 7

-- an input refused with 1 makes 0 passes
abbrev pub passes_of : Result Pair Miss → ℕ
passes_of (Ok r) = r.passes
passes_of (Err BadInput) = 0
passes_of (Err (Nothing k)) = k

abbrev pub outcome_number_of : Result ℕ Refusal → ℕ
outcome_number_of (Err r) = refusal_number r
outcome_number_of (Ok x) = 0
