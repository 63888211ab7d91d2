-- The text of a piece of input, record by record.
use Prim.Native.Nat.{ℕ, zero, suc, ◌+◌, ◌*◌, ◌/◌, ◌%◌, ◌≤◌, ◌<◌}
use mathlib.Core.Path.{◌≡◌, refl, sym, ap, ◌∙◌, subst}
use mathlib.Core.Bool.{Bool, true, false}
use mathlib.Core.List.{List, ◌++◌, append-nil}
use lib.Dec.{eqb}
use borrow.Author.Tests.{eqb-true, eqb-false}
use native.Mathlib.Omega.{arith}
use native.Mathlib.Numerals.{add-one}
use lib.ListN.{length, take, drop, get_or}
use lib.Seq.{take_at, length-take-le, drop-drop}
use Rattle.std.specs.Simd.{first_chunks}
use Rattle.record.specs.Places.{RECORD}
use Rattle.text.specs.Line.{LINE, no_line}
use Rattle.text.specs.Placing.{Wrote}
use Rattle.text.proofs.Writing as writing
use Rattle.answer.specs.Answer.{answer_line}
use Rattle.answer.proofs.Lines.{another_length}
use Rattle.planner.specs.Output.{lines_of, tail_of, text_of, Filled, Begins, Holds}

-- no record yet
pub begun : (s b : List ℕ) → Filled s 0 (lines_of b 0) 0 s 0
unfolding lines_of
begun s b = record { wrote = writing.none s 0; near = omega arith }

-- the records that the input is cut into
pub record_at : (k i : ℕ) (b : List ℕ) (d : List ℕ) → i < k → get_or (first_chunks RECORD k b) i d ≡ take RECORD (drop (RECORD * i) b)
record_at zero i b d h = absurd (omega arith)
record_at (suc k) zero b d h = refl
record_at (suc k) (suc i) b d h =
    let e : RECORD + RECORD * i ≡ RECORD * suc i = omega arith in
    record_at k i (drop RECORD b) d (omega arith) ∙ ap (take RECORD) (drop-drop (RECORD * i) RECORD b ∙ rw e)

-- one record more
pub more : {s t u x : List ℕ} {at n : ℕ} (b : List ℕ) (k : ℕ) → x ≡ take RECORD (drop (RECORD * k) b) → Filled s 0 (lines_of b k) (LINE * k) t at
    → Filled t at (answer_line x) LINE u n → Filled s 0 (lines_of b (k + 1)) (LINE * (k + 1)) u n
unfolding lines_of
more b k e p q = record {
  wrote = rw add-one (writing.join p.wrote (rw e at q.wrote));
  near = omega (arith, p.near, q.near);
}

tail_of_lem : (n : ℕ) → (n ≡ 0 → ⊥) → tail_of n ≡ no_line 14
tail_of_lem zero h = absurd (h refl)
tail_of_lem (suc n) h = refl

-- whole records alone
pub without_tail : (b tail : List ℕ) {r : Bool} → length tail ≡ length b % RECORD → r ≡ eqb (length tail) 0 → r ≡ true
    → lines_of b (length b / RECORD) ≡ text_of b
unfolding text_of
without_tail b tail l e t =
    let z = eqb-true (length tail) 0 (sym e ∙ t) in
    let none : length b % RECORD ≡ 0 = omega arith in
    rw (none, append-nil)

-- a short tail after them
pub with_tail : (b tail : List ℕ) {r : Bool} → length tail ≡ length b % RECORD → r ≡ eqb (length tail) 0 → r ≡ false
    → lines_of b (length b / RECORD) ++ answer_line tail ≡ text_of b
unfolding text_of
with_tail b tail l e f =
    let z = eqb-false (length tail) 0 (sym e ∙ f) in
    rw (tail_of_lem (length b % RECORD) (λ n. z (l ∙ n)), another_length tail (λ n. omega arith))

-- the buffer begins with what was put at its start
pub begins : {s x t : List ℕ} {n : ℕ} → Wrote s 0 x t n → n ≤ length s → Begins t n x
begins {s} {x} {t} {n} w h = record {
  inside = omega (arith, writing.same w);
  is = ap (take n) (writing.stands w (omega (arith, w.ends))) ∙ take_at x (drop n s) n (omega (arith, w.ends));
}

-- which is as long as what was put
pub holds : {t x : List ℕ} {n : ℕ} → Begins t n x → Holds t x
holds {t} {x} {n} b = subst (λ (k : ℕ). Begins t k x) (sym (length-take-le n t b.inside) ∙ ap length b.is) b
