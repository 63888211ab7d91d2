-- The line that is put is the answer's: by whether it is served, and what bytes of another length than a record's are read as.
use Prim.Native.Nat.{ℕ, ◌+◌, ◌≤◌}
use mathlib.Core.Path.{◌≡◌, refl, sym}
use mathlib.Core.Bool.{Bool, true, false, cond}
use mathlib.Core.List.{List}
use native.Mathlib.Omega.{arith}
use mir.Val.{bool_byte}
use lib.ListN.{length}
use borrow.Author.Tests.{ne_eqb}
use Rattle.std.specs.Prelude.{Option, Result, Ok, Err}
use Rattle.kinds.proofs.Numbered.{own, refused_tells}
use Rattle.record.specs.Places.{RECORD}
use Rattle.record.specs.Reading.{read_of}
use Rattle.text.specs.Line.{LINE, NOLINE, no_line}
use Rattle.text.specs.Placing.{Placing}
use Rattle.text.proofs.Writing.{widened}
use Rattle.answer.specs.Answer.{Answer, told, line_told, read_answer, refused_answer, answer_of, line_of_answer, answer_line}
use Rattle.answer.specs.declared.Served.{Served}
use Rattle.answer.specs.declared.Numbered.{Numbered}

-- a flag as the number that it is converted to
pub bit : (on : Bool) → bool_byte on ≡ cond on 1 0
bit true = refl
bit false = refl

-- the line of a number, where the longest has room
pub refused : (r : Numbered) {s t : List ℕ} {at : ℕ} {next : Option ℕ} → at + LINE ≤ length s
    → Placing s at (no_line r.number) NOLINE t next → Placing s at (line_told (Err r)) LINE t next
unfolding line_told
refused r h p = widened NOLINE LINE (omega arith) h p

-- the line of an answer is that of its refusal's number
pub line_is : (a : Answer) → line_told (told a) ≡ line_of_answer a
unfolding line_told line_of_answer
line_is (Ok s) = refl
line_is (Err r) = rw (ne_eqb _ 0 (refused_tells _ (own r.refusal) refl).0)

pub placed : (bytes : List ℕ) {a : Answer} {b : Result Served Numbered} {s t : List ℕ} {at : ℕ} {next : Option ℕ} → a ≡ answer_of bytes → b ≡ told a
    → Placing s at (line_told b) LINE t next → Placing s at (answer_line bytes) LINE t next
unfolding answer_line
placed bytes {a = a} p q w = rw (sym p) (rw (sym (line_is a)) (rw q at w))

-- bytes of another length than a record's get `no 14`
pub another_length : (bytes : List ℕ) → (length bytes ≡ RECORD → ⊥) → answer_line bytes ≡ no_line 14
unfolding answer_line answer_of read_answer refused_answer read_of line_of_answer
another_length bytes h = rw (ne_eqb (length bytes) RECORD h)
