-- Document 01, "Numbers for every refusal": the refusals, each with its number; what a test answers that gives a number, or 0.
use Rattle.std.specs.Prelude.{ℕ, ◌-◌, cond, eqb, List, [], ◌∷◌, get_or, Result, Ok, Err}
use Rattle.kinds.specs.declared.refusals.Refusal.{Refusal}
use Rattle.kinds.specs.declared.refusals.Refusal.TheVariants.{Hse, Hclk, Sysclk, Pclk1, Pclk2, Settings, NoPair, DerivedSysclk, PllsaiVco, PllsaiP, Plli2sVco, Unanswered, PollLimit, Malformed}

abbrev pub number_of : Refusal → ℕ
number_of Hse = 1
number_of Hclk = 2
number_of Sysclk = 3
number_of Pclk1 = 4
number_of Pclk2 = 5
number_of Settings = 6
number_of NoPair = 7
number_of DerivedSysclk = 8
number_of PllsaiVco = 9
number_of PllsaiP = 10
number_of Plli2sVco = 11
number_of Unanswered = 12
number_of PollLimit = 13
number_of Malformed = 14

-- from 1 on
abbrev pub refusals : List Refusal
refusals =
    Hse ∷ Hclk ∷ Sysclk ∷ Pclk1 ∷ Pclk2 ∷ Settings ∷ NoPair ∷ DerivedSysclk
    ∷ PllsaiVco ∷ PllsaiP ∷ Plli2sVco ∷ Unanswered ∷ PollLimit ∷ Malformed ∷ []

-- the refusal that has a number of 1 to 14; of another it is never asked
unfoldable pub refusal_of : ℕ → Refusal
refusal_of n = get_or refusals (n - 1) Malformed

-- x, unless a number is given
unfoldable pub unless : {A : Type 0} → ℕ → A → Result A Refusal
unless n x = cond (eqb n 0) (Ok x) (Err (refusal_of n))
