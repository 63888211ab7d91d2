-- A line put at the start of a lent buffer: it fits, its length is answered, and the rest of the buffer is as it was.
use Rattle.std.specs.Prelude.{ℕ, ◌≤◌, ◌≡◌, List, length}
use Rattle.std.proofs.lemmas.List.Edits.{sets}

pub record Lines (line before : List ℕ) (r : ℕ) (after : List ℕ) : Type 0 where
  pub answer : r ≡ length line
  pub holds : after ≡ sets before 0 line
  pub fits : length line ≤ length before
