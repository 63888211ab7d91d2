-- Numbers with a space before each, one after the other.
use Prim.Native.Nat.{ℕ, ◌+◌, ◌<◌}
use mathlib.Core.Path.{◌≡◌, refl}
use mathlib.Core.List.{List, [], ◌∷◌, ◌++◌, append_assoc, append-nil}
use native.Mathlib.Numerals.{add-one}
use lib.ListN.{length, take, get_or}
use lib.Seq.{take-suc}
use Rattle.text.specs.Decimal.{decimal}
use Rattle.text.specs.Line.{spaced}

spaced_append : (xs ys : List ℕ) → spaced (xs ++ ys) ≡ spaced xs ++ spaced ys
unfolding spaced
spaced_append [] ys = refl
spaced_append (x ∷ xs) ys = rw (spaced_append xs ys, append_assoc)

-- one number
spaced_one : (n : ℕ) → spaced (n ∷ []) ≡ (32 ∷ []) ++ decimal n
unfolding spaced
spaced_one n = rw append-nil

-- one number more
pub spaced_more : (l : List ℕ) (i : ℕ) → i < length l → spaced (take (i + 1) l) ≡ spaced (take i l) ++ ((32 ∷ []) ++ decimal (get_or l i 0))
spaced_more l i h = rw (add-one, take-suc l i 0 h, spaced_append, spaced_one)
