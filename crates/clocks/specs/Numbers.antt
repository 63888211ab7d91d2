-- Document 01's number of each answer: 0 accepted, else the refusal.
use Rattle.std.specs.Prelude.{ℕ, Result, Ok, Err}
use Rattle.kinds.specs.Refusals.{number_of}
use Rattle.kinds.specs.declared.refusals.Refusal.{Refusal}
use Rattle.clocks.specs.declared.Derived.{Derived}

abbrev pub derived_number : Result Derived Refusal → ℕ
derived_number (Err r) = number_of r
derived_number (Ok d) = 0
