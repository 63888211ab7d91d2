-- The quotient of two f32 that are whole numbers, its whole part, and that whole part as an f32 again.
use Rattle.std.proofs.Common.{◌≡◌, ℕ, zero, suc, ◌+◌, ◌-◌, ◌*◌, ◌/◌, ◌^◌, ◌<◌, ◌≤◌, min, Bool, true, false, cond, not, T, eqb, ◌⊎◌, pos, sym, refl, ap, ◌∙◌, subst, inl, inr, true≢false, le_trans, le_of_eq, lt_of_lt_of_le, lt_of_le_of_lt, le_of_lt, zero-lt-suc, mul_assoc, mul_comm, div-lt_iff_lt-mul, mul-le-mul, eq-or-lt_of_le, mul-pos, one-mul, lt_of_not-le, mul-one, not-le_of_lt, mul-div_cancel, mul_left_comm, arith, lit<, lit≤, ltb→lt, lt→ltb, T_not, pow_pos, pow_mono, pow-add, shl_lt}
use lib.Dec.{eqb-suc-zero}
use lib.Ieee.{Float, nan, inf, fin, Format, binary32, up, down, round, div, lt, of_int, to_unsigned}
use lib.Ieee.Digits.{back}
use lib.Ieee.Fits.{down_pos}
use lib.Ieee.Exact.{HasValue, round_exact}
use lib.Ieee.Nearest.{closest, div_same, div_mono}
use lib.Ieee.Order.{transfer}
use lib.Ieee.Positive.{num, den, positive, den_pos, positive_of_value, value→cross}
use lib.Ieee.Scale.{round_same, round_val}
use lib.Ieee.Back.{round_whole}
use Rattle.clocks.specs.Ratio.{extra, round24, quotient24, ratio_up}
use Rattle.clocks.proofs.Rounded.{split_le, kept_le, extra_le, digits24_le, round24_lt, up_more, up_same}

-- ---- a whole number q * 2 ^ k with q up to 2 ^ 24 is an f32
pub of_int_is : (n : ℕ) → of_int binary32 (pos n) ≡ round binary32 false n 1
unfolding of_int
of_int_is n = refl

scaled : (q k : ℕ) → q < 2 ^ 24 → k ≤ 100 → HasValue (round binary32 false (q * 2 ^ k) 1) false (q * 2 ^ k) 1
scaled q k h K =
    round_exact binary32 false (q * 2 ^ k) 1 q (k + 149) (zero-lt-suc 0) h
    (lt_of_lt_of_le (shl_lt 24 (k + 149) h) (pow_mono (room k K)))
    (mul_assoc q (2 ^ k) (2 ^ 149) ∙ ap (λ (z : ℕ). q * z) (sym (pow-add 2 k 149)) ∙ sym (mul-one (q * 2 ^ (k + 149))))
  where
    room : (k : ℕ) → k ≤ 100 → 24 + (k + 149) ≤ 277
    room k h = omega arith

pub whole_exact : (q k : ℕ) → q ≤ 2 ^ 24 → k ≤ 76 → HasValue (of_int binary32 (pos (q * 2 ^ k))) false (q * 2 ^ k) 1
whole_exact q k h K = subst (λ (x : Float). HasValue x false (q * 2 ^ k) 1) (sym (of_int_is (q * 2 ^ k))) (go (eq-or-lt_of_le h))
  where
    room : (k : ℕ) → k ≤ 76 → 24 + k ≤ 100
    room k h = omega arith

    less : (k : ℕ) → k ≤ 76 → k ≤ 100
    less k h = omega arith

    go : (q ≡ 2 ^ 24) ⊎ (q < 2 ^ 24) → HasValue (round binary32 false (q * 2 ^ k) 1) false (q * 2 ^ k) 1
    go (inl e) = subst (λ (x : ℕ). HasValue (round binary32 false x 1) false x 1) (one-mul (2 ^ (24 + k)) ∙ pow-add 2 24 k ∙ ap (λ (z : ℕ). z * 2 ^ k) (sym e)) (scaled 1 (24 + k) (lit< tt) (room k K))
    go (inr l) = scaled q k l (less k K)

-- so a number rounded to 24 digits is an f32
pub round24_exact : (x : ℕ) → x < 2 ^ 28 → HasValue (of_int binary32 (pos (round24 x))) false (round24 x) 1
unfolding round24
round24_exact x h = whole_exact (closest x (1 * 2 ^ extra x 1)) (extra x 1) (kept_le x 1) (le_trans (extra_le x 1 4 h) (lit≤ tt))

-- ---- the quotient, by any fractions that the two numbers equal
div_is : (f : Format) (x y : Float) → T (positive x) → T (positive y) → div f x y ≡ round f false (num x * den y) (num y * den x)
unfolding div
div_is f nan y p q = absurd p
div_is f (inf s) y p q = absurd p
div_is f (fin true m e) y p q = absurd p
div_is f (fin false m e) nan p q = absurd q
div_is f (fin false m e) (inf t) p q = absurd q
div_is f (fin false m e) (fin true n d) p q = absurd q
div_is f (fin false m e) (fin false zero d) p q = absurd q
div_is f (fin false m e) (fin false (suc n) d) p q =
    ap (λ (b : Bool). cond b (cond (eqb m 0) nan (inf false)) (round f false (m * up e * down d) (suc n * up d * down e))) (eqb-suc-zero n)

pub div_at : (f : Format) (x y : Float) (a b : ℕ) → 0 < a → 0 < b → HasValue x false a 1 → HasValue y false b 1 → div f x y ≡ round f false a b
div_at f x y a b A B h k =
    let p = positive_of_value x a 1 h A in
    let q = positive_of_value y b 1 k B in
    let e : num x * 1 ≡ a * den x = value→cross x a 1 h in
    let g : num y * 1 ≡ b * den y = value→cross y b 1 k in
    let e' : num x ≡ a * den x = sym (mul-one (num x)) ∙ e in
    let g' : num y ≡ b * den y = sym (mul-one (num y)) ∙ g in
    div_is f x y p q
    ∙ round_same f false (num x * den y) (num y * den x) a b (subst (λ (z : ℕ). 0 < z * den x) (sym g') (mul-pos (mul-pos B (den_pos y)) (den_pos x))) B
    (ap (λ (z : ℕ). z * den y * b) e' ∙ (simp (mul_assoc, mul_comm, mul_left_comm)) ∙ ap (λ (z : ℕ). a * (z * den x)) (sym g'))

-- ---- its value, in units of 2 ^ -149
abbrev pub U : ℕ
U = 2 ^ 149

pub U_pos : 0 < U
U_pos = pow_pos 149

-- a is below 2 ^ 29: a number below 2 ^ 28 can round up to 2 ^ 28
quotient_le : (a b : ℕ) → a < 2 ^ 29 → quotient24 a b ≤ 2 ^ 29 * U
quotient_le a b h = le_trans (digits24_le (a * U) b 154 (shl_lt 29 149 h)) (le_of_eq (pow-add 2 29 149))

pub quotient_rounds : (a b : ℕ) → a < 2 ^ 29 → HasValue (round binary32 false a b) false (quotient24 a b) U
quotient_rounds a b h = round_val binary32 a b (lt_of_le_of_lt (digits24_le (a * U) b 154 (shl_lt 29 149 h)) (lit< tt))

pub quotient_value : (a b : ℕ) (x y : Float) → 0 < a → a < 2 ^ 29 → 0 < b → HasValue x false a 1 → HasValue y false b 1 → HasValue (div binary32 x y) false (quotient24 a b) U
quotient_value a b x y A h B p q = rw (div_at binary32 x y a b A B p q) (quotient_rounds a b h)

-- ---- its whole part is an f32 too: below 2 ^ 24 every whole number is one, and from there on the quotient is whole itself
small_enough : (k : ℕ) → k ≤ 154 → k - 149 ≤ 76
small_enough k h = omega arith

whole_of_scaled : (q k : ℕ) → q ≤ 2 ^ 24 → k ≤ 154 → HasValue (of_int binary32 (pos (q * 2 ^ k / U))) false (q * 2 ^ k / U) 1
whole_of_scaled q k Q K = go (split_le 149 k)
  where
    go : (149 ≤ k) ⊎ (k < 149) → HasValue (of_int binary32 (pos (q * 2 ^ k / U))) false (q * 2 ^ k / U) 1
    go (inl l) =
        let e : q * 2 ^ k ≡ q * 2 ^ (k - 149) * U = ap (λ (z : ℕ). q * 2 ^ z) (sym (back k 149 l)) ∙ ap (λ (z : ℕ). q * z) (pow-add 2 (k - 149) 149) ∙ sym (mul_assoc q (2 ^ (k - 149)) U) in
        let w : q * 2 ^ k / U ≡ q * 2 ^ (k - 149) = ap (λ (z : ℕ). z / U) e ∙ mul-div_cancel (q * 2 ^ (k - 149)) U_pos in
        subst (λ (z : ℕ). HasValue (of_int binary32 (pos z)) false z 1) (sym w) (whole_exact q (k - 149) Q (small_enough k K))
    go (inr l) =
        let w : q * 2 ^ k / U ≤ 2 ^ 24 = div_mono (q * 2 ^ k) U (2 ^ 24) 1 U_pos (lit< tt) (le_trans (le_of_eq (mul-one (q * 2 ^ k))) (mul-le-mul Q (pow_mono (le_of_lt l)))) in
        subst (λ (z : Float). HasValue z false (q * 2 ^ k / U) 1) (sym (of_int_is (q * 2 ^ k / U))) (round_whole binary32 false (q * 2 ^ k / U) w)

whole_part : (a b : ℕ) → a < 2 ^ 29 → HasValue (of_int binary32 (pos (quotient24 a b / U))) false (quotient24 a b / U) 1
whole_part a b h = whole_of_scaled (closest (a * U) (b * 2 ^ extra (a * U) b)) (extra (a * U) b) (kept_le (a * U) b) (extra_le (a * U) b 154 (shl_lt 29 149 h))

-- ---- `<` of two values that are not negative is that of the fractions that they equal
pub lt_of_values : (x y : Float) (a c b c' : ℕ) → HasValue x false a c → HasValue y false b c' → a * c' < b * c → T (lt x y)
unfolding lt
lt_of_values nan y a c b c' p q h = absurd p
lt_of_values (inf s) y a c b c' p q h = absurd p
lt_of_values (fin true m e) y a c b c' p q h = absurd (true≢false p.0)
lt_of_values (fin false m e) nan a c b c' p q h = absurd q
lt_of_values (fin false m e) (inf t) a c b c' p q h = absurd q
lt_of_values (fin false m e) (fin true n d) a c b c' p q h = absurd (true≢false q.0)
lt_of_values (fin false m e) (fin false n d) a c b c' p q h =
    lt→ltb (m * up e * down d) (n * up d * down e)
    (lt_of_not-le (λ (z : n * up d * down e ≤ m * up e * down d). not-le_of_lt h (transfer b a c' c (n * up d) (m * up e) (down d) (down e) (down_pos d) (down_pos e) (sym q.1) (sym p.1) z)))

values_of_lt : (x y : Float) (a c b c' : ℕ) → 0 < c → 0 < c' → HasValue x false a c → HasValue y false b c' → T (lt x y) → a * c' < b * c
unfolding lt
values_of_lt nan y a c b c' C C' p q h = absurd p
values_of_lt (inf s) y a c b c' C C' p q h = absurd p
values_of_lt (fin true m e) y a c b c' C C' p q h = absurd (true≢false p.0)
values_of_lt (fin false m e) nan a c b c' C C' p q h = absurd q
values_of_lt (fin false m e) (inf t) a c b c' C C' p q h = absurd q
values_of_lt (fin false m e) (fin true n d) a c b c' C C' p q h = absurd (true≢false q.0)
values_of_lt (fin false m e) (fin false n d) a c b c' C C' p q h =
    lt_of_not-le (λ (z : b * c ≤ a * c'). not-le_of_lt (ltb→lt (m * up e * down d) (n * up d * down e) h) (transfer (n * up d) (m * up e) (down d) (down e) b a c' c C' C q.1 p.1 z))

values_of_not_lt : (x y : Float) (a c b c' : ℕ) → HasValue x false a c → HasValue y false b c' → T (not (lt x y)) → b * c ≤ a * c'
values_of_not_lt x y a c b c' p q h = elim (split_le (b * c) (a * c')) [ inl l ↦ l | inr g ↦ absurd (T_not (lt x y) h (lt_of_values x y a c b c' p q g)) ]

-- ---- the whole part, by `to_unsigned`
positive_sum : (a b : ℕ) → 0 < a → 0 < 1 * a + b
positive_sum a b h = omega arith

pub above_minus_one : (x : Float) (g c : ℕ) → HasValue x false g c → T (lt (fin true 1 (pos 0)) x)
unfolding lt
above_minus_one nan g c p = absurd p
above_minus_one (inf s) g c p = absurd p
above_minus_one (fin true m e) g c p = absurd (true≢false p.0)
above_minus_one (fin false m e) g c p = lt→ltb 0 (1 * down e + m * up e * 1) (positive_sum (down e) (m * up e * 1) (down_pos e))

capped : (a c : ℕ) → a < c → min a (c - 1) ≡ a
capped a c h = omega arith

pub whole_is : (x : Float) (g c w : ℕ) → 0 < c → HasValue x false g c → g < 2 ^ w * c → to_unsigned w x ≡ g / c
unfolding to_unsigned
whole_is nan g c w C p h = absurd p
whole_is (inf s) g c w C p h = absurd p
whole_is (fin true m e) g c w C p h = absurd (true≢false p.0)
whole_is (fin false m e) g c w C p h =
    let d : m * up e / down e ≡ g / c = div_same (m * up e) (down e) g c (down_pos e) C p.1 in
    ap (λ (z : ℕ). min z (2 ^ w - 1)) d ∙ capped (g / c) (2 ^ w) ((div-lt_iff_lt-mul C).1 h)

-- ---- What `ratio_up` computes with: q is the quotient, t its whole part and z that as an f32
module _ (n d : ℕ) (q : Float) (N : n < 2 ^ 28) (v : HasValue q false (quotient24 (round24 n) (round24 d)) U) where
  q_le : quotient24 (round24 n) (round24 d) < 2 ^ 64 * U
  q_le = lt_of_le_of_lt (quotient_le (round24 n) (round24 d) (round24_lt n N)) (lit< tt)

  q_under : T (lt q (fin false 1 (pos 64)))
  q_under = lt_of_values q (fin false 1 (pos 64)) (quotient24 (round24 n) (round24 d)) U (2 ^ 64) 1 v (refl, refl) (lt_of_le_of_lt (le_of_eq (mul-one (quotient24 (round24 n) (round24 d)))) q_le)

  q_whole : to_unsigned 64 q ≡ quotient24 (round24 n) (round24 d) / U
  q_whole = whole_is q (quotient24 (round24 n) (round24 d)) U 64 U_pos v q_le

  q_small : to_unsigned 64 q ≤ 536870912
  q_small = subst (λ (w : ℕ). w ≤ 536870912) (sym q_whole)
      (div_mono (quotient24 (round24 n) (round24 d)) U 536870912 1 U_pos (lit< tt) (le_trans (le_of_eq (mul-one (quotient24 (round24 n) (round24 d)))) (quotient_le (round24 n) (round24 d) (round24_lt n N))))

  module _ (t : ℕ) (z : Float) (et : t ≡ to_unsigned 64 q) (ez : z ≡ of_int binary32 (pos t)) where
    t_is : t ≡ quotient24 (round24 n) (round24 d) / U
    t_is = et ∙ q_whole

    z_value : HasValue z false (quotient24 (round24 n) (round24 d) / U) 1
    z_value = subst (λ (f : Float). HasValue f false (quotient24 (round24 n) (round24 d) / U) 1) (sym (ez ∙ ap (λ (w : ℕ). of_int binary32 (pos w)) t_is)) (whole_part (round24 n) (round24 d) (round24_lt n N))

    one_more : lt z q ≡ true → t + 1 ≡ ratio_up n d
    unfolding ratio_up
    one_more e =
        let g = quotient24 (round24 n) (round24 d) in
        let l : g / U * U < g * 1 = values_of_lt z q (g / U) 1 g U (lit< tt) U_pos z_value v (subst T (sym e) tt) in
        ap (λ (w : ℕ). w + 1) t_is ∙ up_more g U U_pos (lt_of_lt_of_le l (le_of_eq (mul-one g)))

    no_more : lt z q ≡ false → t ≡ ratio_up n d
    unfolding ratio_up
    no_more e =
        let g = quotient24 (round24 n) (round24 d) in
        let l : g * 1 ≤ g / U * U = values_of_not_lt z q (g / U) 1 g U z_value v (subst (λ (w : Bool). T (not w)) (sym e) tt) in
        t_is ∙ up_same g U U_pos (le_trans (le_of_eq (sym (mul-one g))) l)

-- all that `ratio_up` needs of its quotient q, for the numbers n and d
pub record Facts (n d : ℕ) (q : Float) : Type 0 where
  pub above : T (lt (fin true 1 (pos 0)) q)
  pub under : T (lt q (fin false 1 (pos 64)))
  pub small : to_unsigned 64 q ≤ 536870912
  pub more : (t : ℕ) (z : Float) → t ≡ to_unsigned 64 q → z ≡ of_int binary32 (pos t) → lt z q ≡ true → t + 1 ≡ ratio_up n d
  pub same : (t : ℕ) (z : Float) → t ≡ to_unsigned 64 q → z ≡ of_int binary32 (pos t) → lt z q ≡ false → t ≡ ratio_up n d

pub facts : (n d : ℕ) (q : Float) → n < 2 ^ 28 → HasValue q false (quotient24 (round24 n) (round24 d)) U → Facts n d q
facts n d q N v = record {
  above = above_minus_one q (quotient24 (round24 n) (round24 d)) U v;
  under = q_under n d q N v;
  small = q_small n d q N v;
  more = one_more n d q N v;
  same = no_more n d q N v;
}
