-- What a piece answers and leaves, when it is the last, and that nothing past the last record that may be read is asked for.
use Prim.Native.Nat.{ℕ, ◌+◌, ◌-◌, ◌*◌, ◌/◌, ◌<◌, ◌≤◌}
use mathlib.Core.Path.{◌≡◌, refl, sym, ◌∙◌}
use mathlib.Core.Logic.{◌⊎◌, inl, inr, ◌↔◌}
use mathlib.Core.Bool.{Bool, true, false, cond, not, true≢false}
use mathlib.Core.List.{List}
use native.Mathlib.Omega.{arith}
use lib.Dec.{ltb}
use borrow.Author.Tests.{ltb-true, ltb-false, lt-ltb}
use Rattle.record.specs.Places.{RECORD}
use Rattle.planner.specs.Asking.{asked_of, answered_of, rest_of, Stepped, Asked, last, more}
use Rattle.planner.specs.declared.Taken.{Taken}
use Rattle.planner.specs.declared.Piece.{Piece}

-- no more is answered than came in
pub answered_within : (t : Taken) → answered_of t ≤ t.got
answered_within t = by t.failed
  where
    by : (b : Bool) → cond b (t.got / RECORD * RECORD) t.got ≤ t.got
    by true = omega arith
    by false = omega arith

-- ---- what is left after a piece
pub rest_short : (left want got : ℕ) (w : Bool) → not w ≡ false → got < want → 0 ≡ rest_of left want got w
rest_short left want got false e h = absurd (true≢false e)
rest_short left want got true e h = rw (lt-ltb got want h) refl

-- fewer than before
pub rest_less : (left got : ℕ) (w : Bool) → 0 < left → got ≤ asked_of left → rest_of left (asked_of left) got w < left
rest_less left got false h i = h
rest_less left got true h i = by (ltb got (asked_of left)) refl
  where
    by : (b : Bool) → ltb got (asked_of left) ≡ b → cond b 0 (left - got / RECORD) < left
    by true e = h
    by false e = let g = ltb-false got (asked_of left) e in omega arith

-- ---- a piece
module _ {left : ℕ} {input out : List ℕ} {p : Piece} (s : Stepped left input out p) where
  answered : answered_of p.taken ≤ asked_of left
  answered = let a = answered_within p.taken in omega (arith, s.took.within)

  pub stepped_less : 0 < left → p.left < left
  stepped_less h = let l = rest_less left (answered_of p.taken) p.written h answered in omega (arith, s.rest)

  -- a piece is the last exactly if it reached the last record that may be read, less was answered than asked for, or its text could
  -- not be written
  pub last_exactly : 0 < left → (p.left ≡ 0) ↔ ((left ≤ 1024) ⊎ ((answered_of p.taken < asked_of left) ⊎ (p.written ≡ false)))
  last_exactly h = (λ e. forth p.written refl (sym s.rest ∙ e), λ e. s.rest ∙ back p.written refl e)
    where
      got : ℕ
      got = answered_of p.taken

      End : Type 0
      End = (left ≤ 1024) ⊎ ((got < asked_of left) ⊎ (p.written ≡ false))

      forth : (w : Bool) → p.written ≡ w → rest_of left (asked_of left) got w ≡ 0 → End
      forth false e z = inr (inr e)
      forth true e z = by (ltb got (asked_of left)) refl z
        where
          by : (b : Bool) → ltb got (asked_of left) ≡ b → cond b 0 (left - got / RECORD) ≡ 0 → End
          by true g z = inr (inl (ltb-true got (asked_of left) g))
          by false g z = inl (let a = answered in omega arith)

      back : (w : Bool) → p.written ≡ w → End → rest_of left (asked_of left) got w ≡ 0
      back false e z = refl
      back true e (inr (inr z)) = absurd (true≢false (sym e ∙ z))
      back true e (inr (inl z)) = sym (rest_short left (asked_of left) got true refl z)
      back true e (inl z) = by (ltb got (asked_of left)) refl
        where
          by : (b : Bool) → ltb got (asked_of left) ≡ b → cond b 0 (left - got / RECORD) ≡ 0
          by true g = refl
          by false g = let i = ltb-false got (asked_of left) g in omega arith

  -- any other leaves its 1,024 records fewer
  pub goes_on : 0 < left → (p.left ≡ 0 → ⊥) → p.left + 1024 ≡ left
  goes_on h n = by p.written s.rest
    where
      got : ℕ
      got = answered_of p.taken

      whole : (b : Bool) → ltb got (asked_of left) ≡ b → p.left ≡ cond b 0 (left - got / RECORD) → p.left + 1024 ≡ left
      whole true g e = absurd (n e)
      whole false g e = let i = ltb-false got (asked_of left) g in let a = answered in omega arith

      by : (w : Bool) → p.left ≡ rest_of left (asked_of left) got w → p.left + 1024 ≡ left
      by false e = absurd (n e)
      by true e = whole (ltb got (asked_of left)) refl e

  -- after a failed read no more is read
  pub failed_is_last : 0 < left → p.taken.failed ≡ true → p.left ≡ 0
  failed_is_last h e = (last_exactly h).1 (inr (inl (let a = answered_within p.taken in let b = s.took.short e in omega arith)))

-- ---- in all, at most the bytes of the records that may be read
pub never_past_the_last : {left bytes : ℕ} → Asked left bytes → bytes ≤ RECORD * left
never_past_the_last last = omega arith
never_past_the_last (more e a) = let h = never_past_the_last a in omega arith
