-- The ratio grows with its numerator and falls with its denominator, and a number over itself is 1: each rounding keeps the order.
use Rattle.std.proofs.Common.{◌≡◌, ℕ, ◌+◌, ◌-◌, ◌*◌, ◌^◌, ◌<◌, ◌≤◌, false, sym, refl, ap, ◌∙◌, le_trans, le_of_eq, lt_of_lt_of_le, lt_of_le_of_lt, le_of_lt, mul-le-mul_right, mul_comm, mul-le-mul, one-mul, mul-one, le_of_mul-le-mul_right, arith, lit<, lit≤}
use lib.Ieee.{binary32, round, size}
use lib.Ieee.Exact.{HasValue}
use lib.Ieee.Nearest.{div_mono}
use lib.Ieee.Order.{round_mono}
use lib.Ieee.Positive.{positive_of_value, values_of_le}
use Rattle.clocks.specs.Ratio.{round24, quotient24, up, ratio_up}
use Rattle.clocks.proofs.Rounded.{digits24_pos, round24_pos, round24_lt}
use Rattle.clocks.proofs.Quotient.{U, U_pos, of_int_is, quotient_rounds}
use Rattle.clocks.proofs.Ieee.{round24_value, digits24_same}

-- a / b ≤ c / d, and g / u and h / v what the two round to
rounded_order : (a b c d g u h v : ℕ) → 0 < b → 0 < d → a * d ≤ c * b → 0 < g → 0 < h → HasValue (round binary32 false a b) false g u → HasValue (round binary32 false c d) false h v → g * v ≤ h * u
rounded_order a b c d g u h v B D e G H p q =
    let x = round binary32 false a b in
    let y = round binary32 false c d in
    values_of_le x y g u h v (positive_of_value x g u p G) (positive_of_value y h v q H) p q (round_mono binary32 a b c d B D e)

round24_grows : (x y : ℕ) → 0 < x → x ≤ y → y < 2 ^ 28 → round24 x ≤ round24 y
round24_grows x y X h Y =
    let e : x * 1 ≤ y * 1 = mul-le-mul_right 1 h in
    let p : HasValue (round binary32 false x 1) false (round24 x) 1 = rw (of_int_is x) at (round24_value x (lt_of_le_of_lt h Y)) in
    let q : HasValue (round binary32 false y 1) false (round24 y) 1 = rw (of_int_is y) at (round24_value y Y) in
    let r = rounded_order x 1 y 1 (round24 x) 1 (round24 y) 1 (lit< tt) (lit< tt) e (round24_pos x X) (round24_pos y (lt_of_lt_of_le X h)) p q in
    omega arith

quotient_pos : (a b : ℕ) → 0 < a → 0 < b → b < 2 ^ 29 → 0 < quotient24 a b
quotient_pos a b A B B' = digits24_pos (a * U) b B (le_trans (le_of_lt B') (le_trans (lit≤ tt) (le_trans (le_of_eq (sym (one-mul U))) (mul-le-mul_right U A))))

quotient_grows : (a b c d : ℕ) → 0 < a → a ≤ c → c < 2 ^ 29 → 0 < d → d ≤ b → b < 2 ^ 29 → quotient24 a b ≤ quotient24 c d
quotient_grows a b c d A h C D k B =
    le_of_mul-le-mul_right
    (rounded_order a b c d (quotient24 a b) U (quotient24 c d) U (lt_of_lt_of_le D k) D (mul-le-mul h k)
    (quotient_pos a b A (lt_of_lt_of_le D k) B) (quotient_pos c d (lt_of_lt_of_le A h) D (lt_of_le_of_lt k B)) (quotient_rounds a b (lt_of_le_of_lt h C)) (quotient_rounds c d C))
    U_pos

up_grows : (g h u : ℕ) → 0 < u → g ≤ h → up g u ≤ up h u
up_grows g h u p e = div_mono (g + (u - 1)) u (h + (u - 1)) u p p (mul-le-mul_right u (more g h (u - 1) e))
  where
    more : (g h k : ℕ) → g ≤ h → g + k ≤ h + k
    more g h k e = omega arith

pub ratio_grows : (n d m e : ℕ) → 0 < n → n ≤ m → m < 2 ^ 28 → 0 < e → e ≤ d → d < 2 ^ 28 → ratio_up n d ≤ ratio_up m e
unfolding ratio_up
ratio_grows n d m e N h M E k D =
    up_grows _ _ U U_pos
    (quotient_grows (round24 n) (round24 d) (round24 m) (round24 e) (round24_pos n N) (round24_grows n m N h M) (round24_lt m M)
    (round24_pos e E) (round24_grows e d E k D) (round24_lt d D))

one_whole : quotient24 1 1 ≡ U
unfolding size
one_whole = refl

pub ratio_one : (n : ℕ) → 0 < n → ratio_up n n ≡ 1
unfolding ratio_up
ratio_one n N =
    let a = round24 n in
    ap (λ (g : ℕ). up g U) (digits24_same (a * U) a (1 * U) 1 (round24_pos n N) (lit< tt) (mul-one (a * U) ∙ mul_comm a U ∙ ap (λ (z : ℕ). z * a) (sym (one-mul U))) ∙ one_whole)

-- it is at least 1: the Rust's rows for a ratio of 0, marked unreachable, are
pub ratio_some : (n d : ℕ) → 0 < n → 0 < d → d < 2 ^ 28 → 1 ≤ ratio_up n d
unfolding ratio_up
ratio_some n d N D E =
    le_trans (lit≤ tt) (up_grows 1 (quotient24 (round24 n) (round24 d)) U U_pos (quotient_pos (round24 n) (round24 d) (round24_pos n N) (round24_pos d D) (round24_lt d E)))
