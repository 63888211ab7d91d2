-- A line put into a buffer of the longest line's length always has its room, so that its length is answered.
use Prim.Native.Nat.{ℕ, ◌+◌, ◌≤◌}
use mathlib.Core.Path.{◌≡◌, ◌∙◌}
use mathlib.Core.List.{List}
use native.Mathlib.Omega.{arith}
use lib.ListN.{length}
use Rattle.text.specs.Line.{LINE}
use Rattle.text.specs.Placing.{Placing}
use Rattle.std.specs.Prelude.{Option, Some, None}
use Rattle.woolturret.specs.Lines.{Lines}

module _ {s t line : List ℕ} {r : Option ℕ} (l : length s ≡ LINE) (w : Placing s 0 line LINE t r) where
  next : r ≡ Some (0 + length line)
  next = w.answer ∙ rw l

  pub line_short : length line ≤ LINE
  line_short = w.fits (omega arith)

  pub line_length : {n : ℕ} → r ≡ Some n → n ≡ length line
  line_length {n} e = let h = next in let z : n ≡ 0 + length line = cc in omega arith

  pub lined : {n : ℕ} → r ≡ Some n → Lines line s n t
  lined e = record { answer = line_length e; holds = w.holds ∙ rw l; fits = let h = line_short in omega arith }

  pub line_room : r ≡ None → {A : Type 0} → A
  line_room e = absurd (let h = next in let z : ◌≡◌ {A = ℕ} 0 1 = cc in omega arith)
