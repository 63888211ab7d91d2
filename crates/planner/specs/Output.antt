-- Document 01, "Request record", the program: what it writes for what it reads.
use Rattle.std.specs.Prelude.{ℕ, zero, suc, ◌+◌, ◌*◌, ◌/◌, ◌%◌, ◌≤◌, ◌≡◌, List, [], ◌∷◌, ◌++◌, length, take, drop}
use Rattle.record.specs.Places.{RECORD}
use Rattle.answer.specs.Answer.{answer_line}
use Rattle.text.specs.Line.{no_line}
use Rattle.text.specs.Placing.{Wrote}

-- one line for each of the first k records
unfoldable pub lines_of : List ℕ → ℕ → List ℕ
lines_of b zero = []
lines_of b (suc k) = lines_of b k ++ answer_line (take RECORD (drop (RECORD * k) b))

-- a short tail is a line `no 14`
abbrev pub tail_of : ℕ → List ℕ
tail_of zero = []
tail_of (suc n) = no_line 14

unfoldable pub text_of : List ℕ → List ℕ
text_of b = lines_of b (length b / RECORD) ++ tail_of (length b % RECORD)

-- what the program writes of its whole input: up to 1,000,000 records are read
abbrev pub output_of : List ℕ → List ℕ
output_of b = text_of (take (RECORD * 1000000) b)

-- pieces of input one after the other, and the text of each in that order
abbrev pub together : List (List ℕ) → List ℕ
together [] = []
together (p ∷ ps) = p ++ together ps

abbrev pub texts_of : List (List ℕ) → List ℕ
texts_of [] = []
texts_of (p ∷ ps) = text_of p ++ texts_of ps

-- each piece is of whole records
abbrev pub WholeRecords : List (List ℕ) → Type 0
WholeRecords [] = Unit
WholeRecords (p ∷ ps) = (length p % RECORD ≡ 0) × WholeRecords ps

-- a text of at most so many bytes was put
pub record Filled (s : List ℕ) (at : ℕ) (text : List ℕ) (most : ℕ) (t : List ℕ) (next : ℕ) : Type 0 where
  pub wrote : Wrote s at text t next
  pub near : next ≤ at + most

-- the first n bytes of a buffer are the text
pub record Begins (t : List ℕ) (n : ℕ) (text : List ℕ) : Type 0 where
  pub inside : n ≤ length t
  pub is : take n t ≡ text

-- a buffer begins with the text
abbrev pub Holds : List ℕ → List ℕ → Type 0
Holds t text = Begins t (length text) text
