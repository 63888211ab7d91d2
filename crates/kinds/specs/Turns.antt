-- Document 01, "Numbers for every refusal", several at once: 13 first, then 14, then the least number. This is the one order of refusals.
use Rattle.std.specs.Prelude.{ℕ, suc, ◌≤◌, Bool, false, cond, ◌||◌, List, [], ◌∷◌, T, eqb}

-- the numbers in the order in which they are given; 12 is last, since it comes as the waits come
abbrev pub in_turn : List ℕ
in_turn = 13 ∷ 14 ∷ 1 ∷ 2 ∷ 3 ∷ 4 ∷ 5 ∷ 6 ∷ 7 ∷ 8 ∷ 9 ∷ 10 ∷ 11 ∷ 12 ∷ []

-- where a number stands in a list; one that does not stand there comes after those that do, the lesser first
abbrev pub place_in : List ℕ → ℕ → ℕ
place_in [] n = n
place_in (m ∷ l) n = cond (eqb m n) 0 (suc (place_in l n))

-- a number's turn
unfoldable pub turn_of : ℕ → ℕ
turn_of n = place_in in_turn n

-- n is the first in turn of the numbers that are given, or 0 where none is
pub data First (Given : ℕ → Type 0) : ℕ → Type 0 where
  none : ((n : ℕ) → Given n → ⊥) → First Given 0
  first : {n : ℕ} → Given n → ((k : ℕ) → Given k → turn_of n ≤ turn_of k) → First Given n

-- n stands in a list of numbers: a test that computes
abbrev pub has : List ℕ → ℕ → Bool
has [] n = false
has (m ∷ l) n = eqb m n || has l n

abbrev pub OneOf : List ℕ → ℕ → Type 0
OneOf l n = T (has l n)
