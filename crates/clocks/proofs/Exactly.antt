-- A multiple of 16 below 2 ^ 28 divided by a power of two in f32: nothing is rounded.
use Rattle.std.proofs.Common.{◌≡◌, ℕ, ◌+◌, ◌-◌, ◌*◌, ◌/◌, ◌%◌, ◌^◌, ◌<◌, ◌≤◌, true, false, T, pos, sym, refl, ap, ◌∙◌, subst, le_trans, le_of_eq, lt_of_lt_of_le, lt_of_le_of_lt, le_of_lt, mul_assoc, mul-le-mul_left, one-mul, div-add-mod', mul-one, div-le_self, arith, lit<, lit≤, le→leb, pow_pos, pow_mono, pow-add, shl_lt}
use lib.Ieee.{Float, fin, binary32, div, lt, of_int, in_float, to_unsigned}
use lib.Ieee.Digits.{back}
use lib.Ieee.Exact.{HasValue, round_exact}
use lib.Ieee.Back.{unsigned_back}
use Rattle.clocks.specs.Inner.{whole_of, PowerOfTwo, Sysclk}
use Rattle.clocks.proofs.Quotient.{whole_exact, div_at, lt_of_values, above_minus_one, whole_is}

sixteens : (c : ℕ) → c % 16 ≡ 0 → c ≡ c / 16 * 2 ^ 4
sixteens c h = let e = div-add-mod' c 16 in omega arith

sixteenth : (c : ℕ) → c < 2 ^ 28 → c / 16 < 2 ^ 24
sixteenth c h = omega arith

bit : (j : ℕ) → j ≤ 9 → j ≤ 76
bit j h = omega arith

fit : (j : ℕ) → j ≤ 9 → j ≤ 153
fit j h = omega arith

in_f32 : (j : ℕ) → j ≤ 9 → T (in_float binary32 (pos (2 ^ j)))
unfolding in_float
in_f32 j J = le→leb (2 ^ j) (2 ^ 24) (pow_mono {i = j} {j = 24} (le_trans J (lit≤ tt)))

pub whole_of_power : (j : ℕ) (y : Float) → j ≤ 9 → y ≡ of_int binary32 (pos (2 ^ j)) → whole_of y ≡ 2 ^ j
whole_of_power j y J e = ap (λ (f : Float). to_unsigned 32 f) e ∙ (unsigned_back binary32 32 (2 ^ j) (in_f32 j J) (lt_of_le_of_lt (pow_mono J) (lit< tt))).1

module _ (c j : ℕ) (x y : Float) (C : 0 < c) (C' : c < 2 ^ 28) (S : c % 16 ≡ 0) (J : j ≤ 9) (ex : x ≡ of_int binary32 (pos c)) (ey : y ≡ of_int binary32 (pos (2 ^ j))) where
  x_value : HasValue x false c 1
  x_value =
      subst (λ (f : Float). HasValue f false c 1) (sym ex)
      (subst (λ (z : ℕ). HasValue (of_int binary32 (pos z)) false z 1) (sym (sixteens c S)) (whole_exact (c / 16) 4 (le_of_lt (sixteenth c C')) (lit≤ tt)))

  y_value : HasValue y false (2 ^ j) 1
  y_value = subst (λ (f : Float). HasValue f false (2 ^ j) 1) (sym ey) (subst (λ (z : ℕ). HasValue (of_int binary32 (pos z)) false z 1) (one-mul (2 ^ j)) (whole_exact 1 j (lit≤ tt) (bit j J)))

  quotient_exact : HasValue (div binary32 x y) false c (2 ^ j)
  quotient_exact =
      let q = c / 16 in
      let k = 153 - j in
      let e : c * 2 ^ 149 ≡ q * 2 ^ k * 2 ^ j =
      ap (λ (z : ℕ). z * 2 ^ 149) (sixteens c S) ∙ mul_assoc q (2 ^ 4) (2 ^ 149) ∙ ap (λ (z : ℕ). q * 2 ^ z) (sym (back 153 j (fit j J))) ∙ ap (λ (z : ℕ). q * z) (pow-add 2 k j) ∙ sym (mul_assoc q (2 ^ k) (2 ^ j)) in
      subst (λ (f : Float). HasValue f false c (2 ^ j)) (sym (div_at binary32 x y c (2 ^ j) C (pow_pos j) x_value y_value))
      (round_exact binary32 false c (2 ^ j) q k (pow_pos j) (sixteenth c C') (lt_of_lt_of_le (shl_lt 24 k (sixteenth c C')) (pow_mono (room j))) e)
    where
      room : (j : ℕ) → 24 + (153 - j) ≤ 277
      room j = omega arith

  below : c < 2 ^ 64 * 2 ^ j
  below = lt_of_lt_of_le C' (le_trans (lit≤ tt) (mul-le-mul_left (2 ^ 64) (pow_pos j)))

  part_above : T (lt (fin true 1 (pos 0)) (div binary32 x y))
  part_above = above_minus_one (div binary32 x y) c (2 ^ j) quotient_exact

  part_under : T (lt (div binary32 x y) (fin false 1 (pos 64)))
  part_under = lt_of_values (div binary32 x y) (fin false 1 (pos 64)) c (2 ^ j) (2 ^ 64) 1 quotient_exact (refl, refl) (lt_of_le_of_lt (le_of_eq (mul-one c)) below)

  part_is : to_unsigned 64 (div binary32 x y) ≡ c / 2 ^ j
  part_is = whole_is (div binary32 x y) c (2 ^ j) 64 (pow_pos j) quotient_exact below

  part_small : to_unsigned 64 (div binary32 x y) ≤ c
  part_small = le_trans (le_of_eq part_is) (div-le_self c (2 ^ j))

-- all that `divided` needs of its quotient q, for SYSCLK c and the divider y
pub record Parts (c : ℕ) (y q : Float) : Type 0 where
  pub above : T (lt (fin true 1 (pos 0)) q)
  pub under : T (lt q (fin false 1 (pos 64)))
  pub whole : to_unsigned 64 q ≡ c / whole_of y
  pub small : to_unsigned 64 q ≤ c

pub parts : {c : ℕ} {x y : Float} → Sysclk c → PowerOfTwo y → x ≡ of_int binary32 (pos c) → Parts c y (div binary32 x y)
parts {c = c} {x = x} {y = y} k p ex =
    let C : 0 < c = omega (arith, k.low) in
    let C' : c < 2 ^ 28 = omega (arith, k.high) in
    let j = p.exponent in
    record {
      above = part_above c j x y C C' k.sixteen p.small ex p.is;
      under = part_under c j x y C C' k.sixteen p.small ex p.is;
      whole = part_is c j x y C C' k.sixteen p.small ex p.is ∙ ap (λ (d : ℕ). c / d) (sym (whole_of_power j y p.small p.is));
      small = part_small c j x y C C' k.sixteen p.small ex p.is;
    }
