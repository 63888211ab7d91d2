-- What putting text into a lent buffer answers and leaves.
use Rattle.std.specs.Prelude.{ℕ, ◌+◌, ◌≤◌, ◌≡◌, cond, List, Option, Some, None, leb, length}
use Rattle.std.proofs.lemmas.List.Edits.{sets}

-- t is the buffer s with the text from at on, and nothing else changed; next is the place after the text
pub record Wrote (s : List ℕ) (at : ℕ) (text t : List ℕ) (next : ℕ) : Type 0 where
  pub is : t ≡ sets s at text
  pub ends : next ≡ at + length text

-- where so many places are left, a text that is at most that long is put; else nothing changes
pub record Placing (s : List ℕ) (at : ℕ) (text : List ℕ) (most : ℕ) (t : List ℕ) (r : Option ℕ) : Type 0 where
  pub answer : r ≡ cond (leb (at + most) (length s)) (Some (at + length text)) None
  pub holds : t ≡ cond (leb (at + most) (length s)) (sets s at text) s
  pub fits : at + most ≤ length s → length text ≤ most
