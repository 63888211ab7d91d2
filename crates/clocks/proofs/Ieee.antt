-- The definitions over whole numbers are IEEE 754's: `round24` is the conversion of an integer to binary32, `quotient24` the binary32 quotient, and `ratio_up` that quotient taken up.
use Rattle.std.proofs.Common.{◌≡◌, ℕ, ◌+◌, ◌-◌, ◌*◌, ◌/◌, ◌%◌, ◌^◌, ◌<◌, ◌≤◌, false, ◌⊎◌, pos, sym, ap, ◌∙◌, subst, inl, inr, le_trans, le_of_eq, lt_of_lt_of_le, lt_of_le_of_lt, le_of_lt, mul-le-mul_right, mod-lt, mul_assoc, mul_comm, lt_of_mul-lt-mul_right, mul-lt-mul_of_pos_right, mul-pos, mul-one, mul_right_comm, le_of_mul-le-mul_right, arith, lit<, lit≤, pow_pos, shl_lt}
use native.Mathlib.Nat.{eq_of_mul-eq-mul_right}
use lib.Ieee as Ieee
use lib.Ieee.{Float, nan, inf, fin, binary32, size, down, round, div, of_int}
use lib.Ieee.Exact.{HasValue}
use lib.Ieee.Nearest.{closest, closest_same, div_same}
use lib.Ieee.Scale.{grid_scale, normal_of_fraction, round_val}
use lib.Ieee.Back.{whole_unique, round_whole}
use lib.Ieee.Fits.{of_int-fits}
use lib.Ieee.Positive.{num, den, den_pos, value→cross}
use Rattle.clocks.specs.Ratio.{extra, digits24, round24, quotient24, up, ratio_up}
use Rattle.clocks.proofs.Rounded.{split_le, digits24_le, near_below, past_none, round24_at, round24_pos, round24_lt, up_more, up_same}
use Rattle.clocks.proofs.Quotient.{Facts, facts, U, U_pos, round24_exact, quotient_value, of_int_is}

-- ---- equal fractions
pub digits24_same : (n d n' d' : ℕ) → 0 < d → 0 < d' → n * d' ≡ n' * d → digits24 n d ≡ digits24 n' d'
digits24_same n d n' d' D D' e =
    let k = extra n' d' in
    let ek : extra n d ≡ k = ap (λ (z : ℕ). size z - 24) (div_same n d n' d' D D' e) in
    ap (λ (z : ℕ). closest n (d * 2 ^ z) * 2 ^ z) ek
    ∙ ap (λ (z : ℕ). z * 2 ^ k) (closest_same n (d * 2 ^ k) n' (d' * 2 ^ k) (mul-pos D (pow_pos k)) (mul-pos D' (pow_pos k)) (sym (mul_assoc n d' (2 ^ k)) ∙ ap (λ (z : ℕ). z * 2 ^ k) e ∙ mul_assoc n' d (2 ^ k)))

-- ---- the unit: n / d in units 2 ^ t times smaller, for an n / d of 2 ^ 23 or more. It is `grid_scale` of `lib.Ieee.Scale`, whose unit is 2 ^ -149, with the fraction's two sides brought to that unit
digits24_scale : (n d t : ℕ) → 0 < d → 2 ^ 23 * d ≤ n → digits24 (n * 2 ^ t) d ≡ digits24 n d * 2 ^ t
digits24_scale n d t D h =
    let du = d * U in
    let DU : 0 < du = mul-pos D U_pos in
    digits24_same (n * 2 ^ t) d (n * 2 ^ t * U) du D DU (sym (mul_assoc (n * 2 ^ t) d U) ∙ mul_right_comm (n * 2 ^ t) d U)
    ∙ grid_scale binary32 n du t DU (normal_of_fraction binary32 n du DU (le_trans (le_of_eq (sym (mul_assoc (2 ^ 23) d U))) (mul-le-mul_right U h)))
    ∙ ap (λ (z : ℕ). z * 2 ^ t) (digits24_same (n * U) du n d DU D (mul_assoc n U d ∙ ap (λ (z : ℕ). n * z) (mul_comm U d)))

-- ---- an integer as an f32
no_rest : (x : ℕ) → x % 1 < 1 → x % 1 * 2 < 1
no_rest x h = omega arith

all_of : (x : ℕ) → x % 1 < 1 → x - x % 1 ≡ x
all_of x h = omega arith

small_same : (x : ℕ) → x < 2 ^ 24 → round24 x ≡ x
small_same x h =
    let m : x % 1 < 1 = mod-lt x (lit< tt) in
    sym (round24_at x 0 (past_none x h)) ∙ sym (near_below x 1 (no_rest x m)) ∙ all_of x m

unscale : (x : Float) (g u : ℕ) → 0 < u → HasValue x false (g * u) u → HasValue x false g 1
unscale nan g u p h = h
unscale (inf t) g u p h = h
unscale (fin t m e) g u p h =
    (h.0, mul-one (m * Ieee.up e) ∙ eq_of_mul-eq-mul_right u p (m * Ieee.up e) (g * down e) (h.1 ∙ mul_right_comm g u (down e)))

half_way : (x : ℕ) → 2 ^ 24 ≤ x → 2 ^ 23 * 1 ≤ x
half_way x h = le_trans (lit≤ tt) h

pub round24_value : (x : ℕ) → x < 2 ^ 28 → HasValue (of_int binary32 (pos x)) false (round24 x) 1
unfolding round24
round24_value x h = subst (λ (f : Float). HasValue f false (round24 x) 1) (sym (of_int_is x)) (go (split_le (2 ^ 24) x))
  where
    go : (2 ^ 24 ≤ x) ⊎ (x < 2 ^ 24) → HasValue (round binary32 false x 1) false (round24 x) 1
    go (inl l) =
        unscale (round binary32 false x 1) (digits24 x 1) U U_pos
        (subst (λ (z : ℕ). HasValue (round binary32 false x 1) false z U) (digits24_scale x 1 149 (lit< tt) (half_way x l))
        (round_val binary32 x 1 (lt_of_le_of_lt (digits24_le (x * U) 1 153 (shl_lt 28 149 h)) (lit< tt))))
    go (inr l) = subst (λ (z : ℕ). HasValue (round binary32 false x 1) false z 1) (sym (small_same x l)) (round_whole binary32 false x (le_of_lt l))

-- a whole number rounded first and one that is converted as it stands are the same f32
pub rounded_first_is_ieee : (x : ℕ) → x < 2 ^ 28 → of_int binary32 (pos (round24 x)) ≡ of_int binary32 (pos x)
rounded_first_is_ieee x h = whole_unique binary32 (of_int binary32 (pos (round24 x))) (of_int binary32 (pos x)) false (round24 x) (of_int-fits binary32 (pos (round24 x))) (of_int-fits binary32 (pos x)) (round24_exact x h) (round24_value x h)

-- ---- the quotient of two integers, each converted to an f32
pub quotient : (n d : ℕ) → 0 < n → n < 2 ^ 28 → 0 < d → d < 2 ^ 28 → HasValue (div binary32 (of_int binary32 (pos n)) (of_int binary32 (pos d))) false (quotient24 (round24 n) (round24 d)) (2 ^ 149)
quotient n d N N' D D' = quotient_value (round24 n) (round24 d) (of_int binary32 (pos n)) (of_int binary32 (pos d)) (round24_pos n N) (round24_lt n N') (round24_pos d D) (round24_value n N') (round24_value d D')

pub quotient_facts : (n d : ℕ) {x y : Float} → 0 < n → n < 2 ^ 28 → 0 < d → d < 2 ^ 28 → x ≡ of_int binary32 (pos n) → y ≡ of_int binary32 (pos d) → Facts n d (div binary32 x y)
quotient_facts n d N N' D D' ex ey = rw (ex, ey) (facts n d _ N' (quotient n d N N' D D'))

-- ---- a fraction taken up to a whole number depends on its value alone
module _ (a b c d : ℕ) (B : 0 < b) (D : 0 < d) (e : a * d ≡ c * b) where
  parts : a / b ≡ c / d
  parts = div_same a b c d B D e

  across : a / b * b * d ≡ c / d * d * b
  across = mul_right_comm (a / b) b d ∙ ap (λ (z : ℕ). z * d * b) parts

  whole_too : a ≤ a / b * b → c ≤ c / d * d
  whole_too h = le_of_mul-le-mul_right (le_trans (le_of_eq (sym e)) (le_trans (mul-le-mul_right d h) (le_of_eq across))) B

  more_too : a / b * b < a → c / d * d < c
  more_too h = lt_of_mul-lt-mul_right b (lt_of_le_of_lt (le_of_eq (sym across)) (lt_of_lt_of_le (mul-lt-mul_of_pos_right h D) (le_of_eq e)))

  up_fraction : up a b ≡ up c d
  up_fraction = elim (split_le a (a / b * b)) [
    | inl l ↦ sym (up_same a b B l) ∙ parts ∙ up_same c d D (whole_too l)
    | inr l ↦ sym (up_more a b B l) ∙ ap (λ (z : ℕ). z + 1) parts ∙ up_more c d D (more_too l)
  ]

-- the ratio is IEEE 754's binary32 quotient of the two numbers, each converted to binary32, taken up to a whole number
pub ratio_is_ieee : (n d : ℕ) → 0 < n → n < 2 ^ 28 → 0 < d → d < 2 ^ 28
    → ratio_up n d ≡ up (num (div binary32 (of_int binary32 (pos n)) (of_int binary32 (pos d)))) (den (div binary32 (of_int binary32 (pos n)) (of_int binary32 (pos d))))
unfolding ratio_up
ratio_is_ieee n d N N' D D' =
    let x = div binary32 (of_int binary32 (pos n)) (of_int binary32 (pos d)) in
    let g = quotient24 (round24 n) (round24 d) in
    sym (up_fraction (num x) (den x) g U (den_pos x) U_pos (value→cross x g U (quotient n d N N' D D')))
