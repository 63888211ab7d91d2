-- The digits of a number: they are those that the library writes, and read back they are the number.
use Prim.Native.Nat.{ℕ, zero, suc, ◌+◌, ◌*◌, ◌-◌, max, ◌/◌, ◌%◌, ◌^◌, ◌≤◌, ◌<◌}
use mathlib.Core.Path.{◌≡◌, refl, ap, sym}
use mathlib.Core.Bool.{Bool, true, false}
use mathlib.Core.List.{List, [], ◌∷◌, ◌++◌}
use native.Mathlib.Nat.{pow-succ'}
use native.Mathlib.Omega.{arith}
use lib.Dec.{ltb}
use lib.ListN.{length, length-append}
use borrow.Author.Tests.{ltb-true, ltb-false, lt-ltb, le-ltb}
use Rattle.std.proofs.lemmas.Fmt.{decimal_by_steps, length-decimal-le}
use Rattle.std.specs.Fmt.{decimal as written}
use Rattle.text.specs.Decimal.{decimal, digits_in, glyph}

digits_fuel : (f g n : ℕ) (b : Bool) → ltb n 10 ≡ b → n < f → n < g → digits_in f b n ≡ digits_in g b n
unfolding digits_in
digits_fuel zero g n b e p q = absurd (omega arith)
digits_fuel (suc f) zero n b e p q = absurd (omega arith)
digits_fuel (suc f) (suc g) n true e p q = refl
digits_fuel (suc f) (suc g) n false e p q =
    let h : 10 ≤ n = ltb-false n 10 e in
    rw (digits_fuel f g (n / 10) (ltb (n / 10) 10) refl (omega arith) (omega arith))

-- one digit
one : (n : ℕ) → n < 10 → decimal n ≡ glyph n ∷ []
unfolding decimal digits_in
one n h = rw (lt-ltb n 10 h)

more : (n : ℕ) → 10 ≤ n → decimal n ≡ decimal (n / 10) ++ (glyph (n % 10) ∷ [])
unfolding decimal digits_in
more n h =
    rw (le-ltb n 10 h)
    (ap (λ (l : List ℕ). l ++ (glyph (n % 10) ∷ [])) (digits_fuel n (suc (n / 10)) (n / 10) (ltb (n / 10) 10) refl (omega arith) (omega arith)))

-- they are the library's
pub is_std : (n : ℕ) → n < 2 ^ 64 → written n ≡ decimal n
is_std n h = decimal_by_steps (λ m ds. ds ≡ decimal m) (λ m l. sym (one m l)) (λ m ds l e. rw e (sym (more m l))) n h

-- a number from 10 ^ k up and below 10 ^ (k + 1) has k + 1 of them, and 0 has one
pub count : (k n : ℕ) → 10 ^ k ≤ max n 1 → max n 1 < 10 * 10 ^ k → length (decimal n) ≡ k + 1
count zero n p q = rw (one n (omega arith))
count (suc k) n p q =
    let a : 10 * 10 ^ k ≤ max n 1 = rw pow-succ' at p in
    let b : max n 1 < 10 * (10 * 10 ^ k) = rw pow-succ' at q in
    let d : 10 ≤ n = omega arith in
    rw (more n d, length-append, count k (n / 10) (omega arith) (omega arith)) (omega arith)

-- a u32 has at most ten
pub ten : (n : ℕ) → n < 2 ^ 32 → length (decimal n) ≤ 10
ten n h = let e = is_std n (omega arith) in rw (← e) (length-decimal-le 10 n (omega arith) (omega arith) (omega arith))

-- the number that digits say, after a number before them
abbrev pub value_after : ℕ → List ℕ → ℕ
value_after v [] = v
value_after v (c ∷ cs) = value_after (10 * v + (c - 48)) cs

value_append : (v : ℕ) (xs : List ℕ) (c : ℕ) → value_after v (xs ++ (c ∷ [])) ≡ 10 * value_after v xs + (c - 48)
value_append v [] c = refl
value_append v (x ∷ xs) c = value_append (10 * v + (x - 48)) xs c

value_in : (f n : ℕ) (b : Bool) → ltb n 10 ≡ b → n < f → value_after 0 (digits_in f b n) ≡ n
unfolding digits_in
value_in zero n b e p = absurd (omega arith)
value_in (suc f) n true e p = omega arith
value_in (suc f) n false e p =
    let h : 10 ≤ n = ltb-false n 10 e in
    rw (value_append 0 (digits_in f (ltb (n / 10) 10) (n / 10)) (glyph (n % 10)), value_in f (n / 10) (ltb (n / 10) 10) refl (omega arith)) (omega arith)

-- the digits of a number say the number
pub reads_back : (n : ℕ) → value_after 0 (decimal n) ≡ n
unfolding decimal
reads_back n = value_in (suc n) n (ltb n 10) refl (omega arith)

-- and nothing but digits stands in them
abbrev pub Digits : List ℕ → Type 0
Digits [] = Unit
Digits (c ∷ cs) = (48 ≤ c) × (c < 58) × Digits cs

digits_append : (xs : List ℕ) (c : ℕ) → Digits xs → 48 ≤ c → c < 58 → Digits (xs ++ (c ∷ []))
digits_append [] c d p q = (p, q, tt)
digits_append (x ∷ xs) c d p q = (d.0, d.1, digits_append xs c d.2 p q)

are_digits : (f n : ℕ) (b : Bool) → ltb n 10 ≡ b → Digits (digits_in f b n)
unfolding digits_in
are_digits zero n b e = tt
are_digits (suc f) n true e =
    let h : n < 10 = ltb-true n 10 e in
    (omega arith, omega arith, tt)
are_digits (suc f) n false e =
    digits_append (digits_in f (ltb (n / 10) 10) (n / 10)) (48 + n % 10) (are_digits f (n / 10) (ltb (n / 10) 10) refl) (omega arith) (omega arith)

pub decimal_digits : (n : ℕ) → Digits (decimal n)
unfolding decimal
decimal_digits n = are_digits (suc n) n (ltb n 10) refl
