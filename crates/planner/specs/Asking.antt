-- Document 01, "Request record", the program: what is asked for, what of it is answered, how many records may be read after it.
-- `Asked` is a definition of its own: no contract can say what a program reads in all, so the reader holds it against `main`.
use Rattle.std.specs.Prelude.{ℕ, ◌+◌, ◌*◌, ◌-◌, ◌/◌, ◌<◌, ◌≤◌, min, ◌≡◌, Bool, true, cond, List, ltb, take}
use Rattle.record.specs.Places.{RECORD}
use Rattle.planner.specs.Output.{text_of, Holds}
use Rattle.planner.specs.declared.Taken.{Taken}
use Rattle.planner.specs.declared.Piece.{Piece}

-- a piece is 1,024 records, or those that may still be read: bytes
abbrev pub asked_of : ℕ → ℕ
asked_of left = min 65536 (RECORD * left)

-- all that came in is answered or, after a failed read, the whole records among it
abbrev pub answered_of : Taken → ℕ
answered_of t = cond t.failed (t.got / RECORD * RECORD) t.got

-- after a piece of so many bytes where `want` were asked for: no record more if its text could not be written or it was short, else
-- its own fewer
abbrev pub rest_of : ℕ → ℕ → ℕ → Bool → ℕ
rest_of left want got written = cond written (cond (ltb got want) 0 (left - got / RECORD)) 0

-- what comes in where `want` bytes are asked for: no more, and fewer where a read fails
pub record Took (want : ℕ) (t : Taken) : Type 0 where
  pub within : t.got ≤ want
  pub short : t.failed ≡ true → t.got < want

-- a piece, while `left` records might be read before it: the buffers hold what came in and its text
pub record Stepped (left : ℕ) (input out : List ℕ) (p : Piece) : Type 0 where
  pub took : Took (asked_of left) p.taken
  pub text : Holds out (text_of (take (answered_of p.taken) input))
  pub rest : p.left ≡ rest_of left (asked_of left) (answered_of p.taken) p.written

-- so many bytes in all may be asked for while so many records are left: those of a piece, and those of what it leaves
pub data Asked : ℕ → ℕ → Type 0 where
  last : {left : ℕ} → Asked left (asked_of left)
  more : {left rest bytes : ℕ} → rest + 1024 ≡ left → Asked rest bytes → Asked left (asked_of left + bytes)
