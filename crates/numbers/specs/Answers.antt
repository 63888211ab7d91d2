-- Windows from numbers, and an answer of the search as five numbers: passes, M, N, P, Q.
use Rattle.std.specs.Prelude.{ℕ, Bool, true, false, List, [], ◌∷◌, Option, None, Some, Result, Ok, Err}
use Rattle.kinds.specs.declared.Divider.{Divider}
use Rattle.pll.specs.declared.Window.{Window}
use Rattle.pll.specs.declared.Pair.{Pair}
use Rattle.pll.specs.declared.Miss.{Miss}
use Rattle.pll.specs.declared.Miss.TheVariants.{BadInput, Nothing}

-- how many numbers an answer of the search has
abbrev pub SEARCH : ℕ
SEARCH = 5

abbrev pub window_of : Bool → ℕ → ℕ → Option Window
window_of true low high = Some (record { lo = record { 0 = low }; hi = record { 0 = high } })
window_of false low high = None

-- 0 where the window is absent
abbrev pub divider_of : Option Divider → ℕ
divider_of None = 0
divider_of (Some d) = d.0

abbrev pub found_numbers : Result Pair Miss → List ℕ
found_numbers (Ok r) = r.passes ∷ r.m.0 ∷ r.n.0 ∷ divider_of r.p ∷ divider_of r.q ∷ []
found_numbers (Err BadInput) = 0 ∷ 0 ∷ 0 ∷ 0 ∷ 0 ∷ []
found_numbers (Err (Nothing passes)) = passes ∷ 0 ∷ 0 ∷ 0 ∷ 0 ∷ []
