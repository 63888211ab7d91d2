-- Text put into a buffer: two writes are one, and what a write leaves in plain words.
use Prim.Native.Nat.{ℕ, suc, ◌+◌, ◌-◌, ◌≤◌, ◌<◌}
use mathlib.Core.Path.{◌≡◌, refl, ap, sym, ◌∙◌}
use mathlib.Core.Bool.{Bool, true, false, cond}
use mathlib.Core.List.{List, [], ◌∷◌, ◌++◌, append_assoc}
use native.Mathlib.Nat.{add-zero, add-suc, suc-add}
use native.Mathlib.Omega.{arith}
use lib.Dec.{leb}
use lib.ListN.{length, set, take, drop, length-append}
use lib.Seq.{sets, length-sets, sets-eq}
use Rattle.std.proofs.Common.{take-append-drop}
use borrow.Rule.Slice.PartMut.{put_mid, Post-is}
use borrow.Author.Tests.{le-leb, leb-true, leb-false}
use Rattle.text.specs.Placing.{Wrote, Placing}
use Rattle.std.specs.Prelude.{Option, Some, None}

sets_append : (l : List ℕ) (i : ℕ) (xs ys : List ℕ) → sets (sets l i xs) (i + length xs) ys ≡ sets l i (xs ++ ys)
sets_append l i [] ys = rw add-zero
sets_append l i (x ∷ xs) ys = rw (add-suc, ← suc-add) (sets_append (set l i x) (suc i) xs ys)

-- two writes, one after the other, are one
pub join : {s t u x y : List ℕ} {i j k : ℕ} → Wrote s i x t j → Wrote t j y u k → Wrote s i (x ++ y) u k
join {s} {t} {u} {x} {y} {i} {j} {k} a b = record {
  is = b.is ∙ ap (λ (l : List ℕ). sets l j y) a.is ∙ ap (λ (n : ℕ). sets (sets s i x) n y) a.ends ∙ sets_append s i x y;
  ends = rw length-append (omega (arith, a.ends, b.ends));
}

-- the buffer before the text, the text, and the buffer after it
stood : {s t x : List ℕ} {i j : ℕ} → t ≡ take i s ++ (x ++ drop j s) → j ≡ i + length x → i + length x ≤ length s → Wrote s i x t j
stood {s} {t} {x} {i} {j} a e h = record {
  is = a ∙ sym (append_assoc (take i s) x (drop j s)) ∙ ap (λ (n : ℕ). take i s ++ x ++ drop n s) e ∙ sym (sets-eq x s i h);
  ends = e;
}

-- a text copied over as many places
pub copied : (s x : List ℕ) (i : ℕ) → i + length x ≤ length s → Wrote s i x (put_mid i (i + length x - i) s x) (i + length x)
copied s x i h = stood (ap (λ (l : List ℕ). take i s ++ (x ++ l)) (Post-is i (i + length x) s (omega arith))) refl h

-- a text put so that it ends where as many places are behind it
pub ended : {s t x y : List ℕ} (i n k : ℕ) → x ≡ y → n ≡ length y → i + length y ≤ length s → k + length x ≡ i + n → drop k t ≡ x ++ drop (i + n) s → take k t ≡ take k s
    → Wrote s i y t (i + n)
ended {s} {t} {x} {y} i n k e w h b a f =
    let z : k ≡ i = omega (arith, ap length e) in
    stood (sym (take-append-drop k t) ∙ rw (f, a, e, z)) (omega arith) h

-- nothing written
pub none : (s : List ℕ) (i : ℕ) → Wrote s i [] s i
none s i = record { is = refl; ends = sym (add-zero i) }

-- a write keeps the buffer's length
pub same : {s t x : List ℕ} {i j : ℕ} → Wrote s i x t j → length t ≡ length s
same {s} {t} {x} {i} {j} a = ap length a.is ∙ length-sets s i x

-- the same text by another name
pub renamed : {s t x y : List ℕ} {i j : ℕ} → x ≡ y → Wrote s i x t j → Wrote s i y t j
renamed e a = rw e at a

-- what a write leaves: the buffer before the text, the text, and the buffer after it
pub stands : {s t x : List ℕ} {i j : ℕ} → Wrote s i x t j → i + length x ≤ length s → t ≡ take i s ++ x ++ drop j s
stands {s} {t} {x} {i} {j} a h = a.is ∙ sets-eq x s i h ∙ ap (λ (n : ℕ). take i s ++ x ++ drop n s) (sym a.ends)

-- what a test for room tells
pub roomy : (a b : ℕ) {r : Bool} → r ≡ leb a b → r ≡ true → a ≤ b
roomy a b e f = leb-true a b (sym e ∙ f)

pub scarce : (a b : ℕ) {r : Bool} → r ≡ leb a b → r ≡ false → b < a
scarce a b e f = leb-false a b (sym e ∙ f)

-- with room the text is placed
pub placed : {s x t : List ℕ} {i most n : ℕ} → i + most ≤ length s → n ≤ i + most → Wrote s i x t n → Placing s i x most t (Some n)
placed {s} {x} {t} {i} {most} {n} h l a = record {
  answer = rw (le-leb (i + most) (length s) h) (ap Some a.ends);
  holds = rw (le-leb (i + most) (length s) h) a.is;
  fits = λ k. omega (arith, a.ends);
}

-- where more room is left than asked for, it may be asked for
pub widened : {s x t : List ℕ} {i : ℕ} (most more : ℕ) {r : Option ℕ} → most ≤ more → i + more ≤ length s → Placing s i x most t r → Placing s i x more t r
widened {s} {x} {t} {i} most more l h p =
    let a : leb (i + most) (length s) ≡ true = le-leb (i + most) (length s) (omega arith) in
    let b : leb (i + more) (length s) ≡ true = le-leb (i + more) (length s) h in
    record { answer = rw b (rw a at p.answer); holds = rw b (rw a at p.holds); fits = λ k. omega (arith, p.fits (omega arith)) }

next_of : {m n : ℕ} → Some m ≡ Some n → m ≡ n
next_of e = cc

apart : {n : ℕ} → None ≡ Some n → ⊥
apart e =
    let z : ◌≡◌ {A = ℕ} 0 1 = cc in
    omega arith

room_by : (need len : ℕ) (b : Bool) {r : Option ℕ} {m n : ℕ} → leb need len ≡ b → r ≡ cond b (Some m) None → r ≡ Some n → (need ≤ len) × (n ≡ m)
room_by need len true e a f = (leb-true need len e, next_of (sym f ∙ a))
room_by need len false e a f = absurd (apart (sym a ∙ f))

scarce_by : (need len m : ℕ) (u s : List ℕ) (b : Bool) {r : Option ℕ} {t : List ℕ} → leb need len ≡ b → r ≡ cond b (Some m) None → t ≡ cond b u s → r ≡ None → (len < need) × (t ≡ s)
scarce_by need len m u s true e a h f = absurd (apart (sym f ∙ a))
scarce_by need len m u s false e a h f = (leb-false need len e, h)

module _ {s x t : List ℕ} {i most : ℕ} {r : Option ℕ} (p : Placing s i x most t r) where
  fit : {n : ℕ} → r ≡ Some n → (i + most ≤ length s) × (n ≡ i + length x)
  fit e = room_by (i + most) (length s) (leb (i + most) (length s)) refl p.answer e

  -- and back: where a next place is answered, the text was put and there was room
  pub wrote : {n : ℕ} → r ≡ Some n → Wrote s i x t n
  wrote e = record { is = p.holds ∙ rw (le-leb (i + most) (length s) (fit e).0); ends = (fit e).1 }

  pub within : {n : ℕ} → r ≡ Some n → (n ≤ i + most) × (i + most ≤ length s)
  within e = (omega (arith, p.fits (fit e).0, (fit e).1), (fit e).0)

  -- the text stands whole from i on, and before it and after it the buffer is as it was
  pub placed_stands : {n : ℕ} → r ≡ Some n → t ≡ take i s ++ x ++ drop n s
  placed_stands e = stands (wrote e) (omega (arith, within e, (wrote e).ends))

  -- no room: too few places are left, and the buffer is as it was
  pub no_room_keeps : r ≡ None → (length s < i + most) × (t ≡ s)
  no_room_keeps e = scarce_by (i + most) (length s) (i + length x) (sets s i x) s (leb (i + most) (length s)) refl p.answer p.holds e
