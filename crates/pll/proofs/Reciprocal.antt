-- Bounds on r(d), proved once over the divider, and what they give of the VCO and of an output; the VCO grows with N.
use Prim.Native.Nat.{ℕ, ◌+◌, ◌*◌, ◌/◌, ◌≤◌, ◌<◌}
use mathlib.Core.Path.{◌≡◌, sym, ◌∙◌, ap}
use native.Mathlib.Omega.{arith}
use native.Mathlib.Nat.{div-eq_of_lt-le, div-le_of_le-mul, div-lt_iff_lt-mul, div-mul-le_self, le-div_iff_mul-le, lt-mul-div-succ, lt_of_mul-lt-mul_left, mul-add, mul_assoc, mul-div-le, mul-le-mul, mul-le-mul_left, mul-le-mul_right, mul_left_comm, mul-pos}
use Rattle.pll.specs.Fixed.{recip_of, vco_of, out_of}
use Rattle.pll.specs.Skip.{unit_of, vco_by}

pub quotient_le : (d : ℕ) → 0 < d → 2147483648 / d ≤ 2147483648
quotient_le d h = div-le_of_le-mul d (omega arith)

pub recip_le : (d : ℕ) → 2 ≤ d → recip_of d ≤ 536870912
unfolding recip_of
recip_le d h = let q : 2147483648 / d ≤ 1073741824 = div-le_of_le-mul d (omega arith) in omega arith

recip_pos : (d : ℕ) → 2 ≤ d → d ≤ 63 → 1 ≤ recip_of d
unfolding recip_of
recip_pos d a b =
    let pos : 0 < d = omega arith in
    let q : 1 ≤ 2147483648 / d = (le-div_iff_mul-le pos).1 (omega arith) in
    omega arith

-- a product of two numbers is at most that of their bounds
pub mul_le : (x y : ℕ) {a b : ℕ} → a ≤ x → b ≤ y → a * b ≤ x * y
mul_le x y h k = mul-le-mul h k

pub unit_le : (f m : ℕ) → f ≤ 50000000 → 2 ≤ m → unit_of f m ≤ 3125000 * 536870912
unfolding unit_of
unit_le f m a b = mul_le 3125000 536870912 (omega arith) (recip_le m b)

pub unit_pos : (f m : ℕ) → 1000000 ≤ f → 2 ≤ m → m ≤ 63 → 0 < unit_of f m
unfolding unit_of
unit_pos f m a b c = mul-pos (omega arith) (recip_pos m b c)

pub out_product : (v d : ℕ) → v ≤ 10800000000 → 2 ≤ d → v / 16 * recip_of d ≤ 675000000 * 536870912
out_product v d a b = mul_le 675000000 536870912 (omega arith) (recip_le d b)

-- the VCO by its unit is document 01's
pub vco_by_lem : (f m n : ℕ) → vco_by (unit_of f m) n ≡ vco_of f n m
unfolding vco_by unit_of vco_of
vco_by_lem f m n = rw (mul_left_comm n (f / 16) (recip_of m) ∙ sym (mul_assoc (f / 16) n (recip_of m)))

pub vco_le : (u n : ℕ) → u ≤ 3125000 * 536870912 → n ≤ 432 → vco_by u n ≤ 10800000000
unfolding vco_by
vco_le u n a b = let h : n * u ≤ 432 * (3125000 * 536870912) = mul_le 432 (3125000 * 536870912) b a in omega arith

pub vco_grows : (f m N n : ℕ) → N ≤ n → vco_of f N m ≤ vco_of f n m
unfolding vco_of
vco_grows f m N n h =
    let a : f / 16 * N * recip_of m ≤ f / 16 * n * recip_of m = mul-le-mul_right (recip_of m) (mul-le-mul_left (f / 16) h) in
    omega arith

-- ---- an output beside a whole division
-- d × r(d) is at most d / 2 above 2^30
recip_high : (d : ℕ) → 2 * (d * recip_of d) ≤ 2147483648 + d
unfolding recip_of
recip_high d =
    let q = 2147483648 / d in
    let a : d * (2 * ((q + 1) / 2)) ≤ d * (q + 1) = mul-le-mul_left d (omega arith) in
    let b : d * q ≤ 2147483648 = mul-div-le 2147483648 d in
    let e : d * (q + 1) ≡ d * q + d * 1 = mul-add d q 1 in
    let g : d * (2 * ((q + 1) / 2)) ≡ 2 * (d * ((q + 1) / 2)) = mul_left_comm d 2 ((q + 1) / 2) in
    omega arith

-- where r(d) is not below 2^30 / d, an output of a VCO 16 × V is 16 × floor(V / d)
module _ (x d : ℕ) (pos : 0 < d) where
  floor_low : 1073741824 ≤ d * recip_of d → x / d * 1073741824 ≤ x * recip_of d
  floor_low r =
      let a : x / d * 1073741824 ≤ x / d * (d * recip_of d) = mul-le-mul_left (x / d) r in
      let b : x / d * d * recip_of d ≤ x * recip_of d = mul-le-mul_right (recip_of d) (div-mul-le_self x d) in
      let e : x / d * d * recip_of d ≡ x / d * (d * recip_of d) = mul_assoc (x / d) d (recip_of d) in
      omega arith

  floor_high : x * d < 2147483648 → x * recip_of d < (x / d + 1) * 1073741824
  floor_high h =
      let a : x * (2 * (d * recip_of d)) ≤ x * (2147483648 + d) = mul-le-mul_left x (recip_high d) in
      let b : x * (2 * (d * recip_of d)) ≡ 2 * (x * (d * recip_of d)) = mul_left_comm x 2 (d * recip_of d) in
      let e : x * (d * recip_of d) ≡ d * (x * recip_of d) = mul_left_comm x d (recip_of d) in
      let f : x * (2147483648 + d) ≡ x * 2147483648 + x * d = mul-add x 2147483648 d in
      let w : x < d * (x / d + 1) = lt-mul-div-succ x pos in
      let g : d * (x / d + 1) * 1073741824 ≡ d * ((x / d + 1) * 1073741824) = mul_assoc d (x / d + 1) 1073741824 in
      lt_of_mul-lt-mul_left d (omega arith)

pub out_floor : (x d : ℕ) → 0 < d → x * d < 2147483648 → 1073741824 ≤ d * recip_of d → out_of (16 * x) d ≡ 16 * (x / d)
unfolding out_of
out_floor x d pos h r =
    let e : 16 * x / 16 ≡ x = omega arith in
    rw e (ap (λ (y : ℕ). 16 * y) (div-eq_of_lt-le 1073741824 (floor_low x d pos r) (floor_high x d pos h)))

-- cutting V / d to a whole number loses less than 15 hertz of 16 × V / d
pub floor_near : (x d : ℕ) → 0 < d → d ≤ 15 → (16 * (x / d) ≤ 16 * x / d) × (16 * x / d < 16 * (x / d) + 15)
floor_near x d pos h =
    let a : x / d * d ≤ x = div-mul-le_self x d in
    let b : x < d * (x / d + 1) = lt-mul-div-succ x pos in
    let e : d * (x / d + 1) ≡ d * (x / d) + d * 1 = mul-add d (x / d) 1 in
    ((le-div_iff_mul-le pos).1 (omega arith), (div-lt_iff_lt-mul pos).1 (omega arith))
