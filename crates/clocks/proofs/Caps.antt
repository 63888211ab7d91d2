-- A PCLK is above 0 and within its cap, whatever HPRE divides SYSCLK by: by the few ratios next above 1 and 2, since the ratio grows.
use Rattle.std.specs.Prelude.{None, Option, Some}
use Rattle.std.proofs.Common.{◌≡◌, ℕ, zero, suc, ◌+◌, ◌*◌, ◌/◌, ◌%◌, ◌^◌, ◌<◌, ◌≤◌, Bool, true, false, cond, leb, ◌⊎◌, refl, inl, inr, le_trans, le_of_eq, mul-le-mul_right, le-div_iff_mul-le, div-le_self, arith, lit≤, pow_mono, le-leb, leb-true}
use lib.Ieee.{size}
use native.Mathlib.Nat.{div-le_of_le-mul}
use borrow.Author.Tests.{lt-leb}
use Rattle.kinds.specs.Table.{Between, AskedWithin}
use Rattle.kinds.specs.declared.Hertz.{Hertz}
use Rattle.clocks.specs.Ratio.{round24, ratio_up}
use Rattle.clocks.specs.Rows.{Row, row, ppre_row}
use Rattle.clocks.specs.Derive.{wanted_of, cap_of, apb_for}
use Rattle.clocks.specs.Inner.{Sysclk, Hclk}
use Rattle.clocks.proofs.Rounded.{split_le}
use Rattle.clocks.proofs.Monotone.{ratio_grows, ratio_one}
use Rattle.clocks.proofs.Table.{Power, power_low, power_high, ppre_power}
use Rattle.clocks.proofs.Deriving.{row_range, wanted_range, hclk_facts}

-- ---- PPRE's divider for a ratio up to 1, of 2 or more, of 3 or more
ppre_one : (r : ℕ) → r ≤ 1 → (ppre_row r).divider ≡ 1
unfolding ppre_row
ppre_one r h = rw (le-leb r 1 h)

ppre_two : (r : ℕ) → 2 ≤ r → 2 ≤ (ppre_row r).divider
unfolding ppre_row
ppre_two r h = rw (lt-leb r 1 h) (at (leb r 2) (leb r 6) (leb r 12))
  where
    at : (a b d : Bool) → 2 ≤ (cond a (row 2 4) (cond b (row 4 5) (cond d (row 8 6) (row 16 7)))).divider
    at true b d = lit≤ tt
    at false true d = lit≤ tt
    at false false true = lit≤ tt
    at false false false = lit≤ tt

ppre_four : (r : ℕ) → 3 ≤ r → 4 ≤ (ppre_row r).divider
unfolding ppre_row
ppre_four r h = rw (lt-leb r 1 (omega arith), lt-leb r 2 h) (at (leb r 6) (leb r 12))
  where
    at : (b d : Bool) → 4 ≤ (cond b (row 4 5) (cond d (row 8 6) (row 16 7))).divider
    at true d = lit≤ tt
    at false true = lit≤ tt
    at false false = lit≤ tt

-- ---- a PCLK's cap beside the highest SYSCLK that it is for
record Cap (cap most : ℕ) : Type 0 where
  eights : cap % 8 ≡ 0
  low : 12500000 ≤ cap
  high : cap ≤ 108000000
  quarter : most ≤ 4 * cap
  two : 2 ≤ ratio_up (cap + 8) cap
  four : (most ≤ 2 * cap) ⊎ (3 ≤ ratio_up (2 * cap + 8) cap)

cap_45 : Cap 45000000 180000000
unfolding ratio_up round24 size
cap_45 = record { eights = refl; low = lit≤ tt; high = lit≤ tt; quarter = lit≤ tt; two = lit≤ tt; four = inr (lit≤ tt) }

cap_54 : Cap 54000000 216000000
unfolding ratio_up round24 size
cap_54 = record { eights = refl; low = lit≤ tt; high = lit≤ tt; quarter = lit≤ tt; two = lit≤ tt; four = inr (lit≤ tt) }

cap_90 : Cap 90000000 180000000
unfolding ratio_up round24 size
cap_90 = record { eights = refl; low = lit≤ tt; high = lit≤ tt; quarter = lit≤ tt; two = lit≤ tt; four = inl (lit≤ tt) }

cap_108 : Cap 108000000 216000000
unfolding ratio_up round24 size
cap_108 = record { eights = refl; low = lit≤ tt; high = lit≤ tt; quarter = lit≤ tt; two = lit≤ tt; four = inl (lit≤ tt) }

-- what is wanted is at most the cap
wanted_le : (most own : ℕ) (q : Option Hertz) → wanted_of most own q ≤ most
unfolding wanted_of
wanted_le most own None = omega arith
wanted_le most own (Some f) = omega arith

module _ (cap most h : ℕ) (q : Option Hertz) (z : Cap cap most) (k : Hclk cap h q) where
  -- HCLK over the cap is at most HCLK over what is wanted
  ratio_from : (n : ℕ) → 0 < n → n ≤ h → ratio_up n cap ≤ ratio_up h (wanted_of cap h q)
  ratio_from n N l =
      ratio_grows n cap h (wanted_of cap h q) N l (omega (arith, k.high)) (wanted_range cap h q k).low (wanted_le cap h q) (omega (arith, z.high))

  by : (d : ℕ) → d ≤ (ppre_row (ratio_up h (wanted_of cap h q))).divider → h ≤ d * cap → (apb_for cap h q).pclk.0 ≤ cap
  unfolding apb_for
  by d g l = div-le_of_le-mul (ppre_row (ratio_up h (wanted_of cap h q))).divider (le_trans l (mul-le-mul_right cap g))

  capped_low : h ≤ cap → (apb_for cap h q).pclk.0 ≤ cap
  unfolding apb_for
  capped_low l = le_trans (div-le_self h _) l

  -- a multiple of 8 above the cap is at least 8 above it
  capped : h % 8 ≡ 0 → h ≤ most → (apb_for cap h q).pclk.0 ≤ cap
  capped e l = at (split_le h cap) (split_le h (2 * cap)) z.four
    where
      two_up : cap < h → 2 ≤ ratio_up h (wanted_of cap h q)
      two_up g = le_trans z.two (ratio_from (cap + 8) (omega arith) (omega (arith, z.eights)))

      four_up : 2 * cap < h → 3 ≤ ratio_up (2 * cap + 8) cap → 3 ≤ ratio_up h (wanted_of cap h q)
      four_up g t = le_trans t (ratio_from (2 * cap + 8) (omega arith) (omega (arith, z.eights)))

      at : (h ≤ cap) ⊎ (cap < h) → (h ≤ 2 * cap) ⊎ (2 * cap < h) → (most ≤ 2 * cap) ⊎ (3 ≤ ratio_up (2 * cap + 8) cap) → (apb_for cap h q).pclk.0 ≤ cap
      at (inl a) b f = capped_low a
      at (inr a) (inl b) f = by 2 (ppre_two _ (two_up a)) b
      at (inr a) (inr b) (inl f) = absurd (omega arith)
      at (inr a) (inr b) (inr f) = by 4 (ppre_four _ (four_up b f)) (omega (arith, z.quarter))

-- ---- any divider that is a power of two leaves an HCLK that is a multiple of 8, or one that no cap is below
module _ (s cap most : ℕ) (q : Option Hertz) (z : Cap cap most) (e : s % 16 ≡ 0) (l : s ≤ most) where
  divided_capped : (j : ℕ) → Hclk cap (s / 2 ^ j) q → (apb_for cap (s / 2 ^ j) q).pclk.0 ≤ cap
  divided_capped zero k = capped cap most (s / 1) q z k (omega arith) (omega arith)
  divided_capped (suc zero) k = capped cap most (s / 2) q z k (omega arith) (omega arith)
  divided_capped (suc (suc j)) k =
      let d : 4 ≤ 2 ^ suc (suc j) = pow_mono {i = 2} {j = suc (suc j)} (omega arith) in
      capped_low cap most (s / 2 ^ suc (suc j)) q z k (div-le_of_le-mul (2 ^ suc (suc j)) (le_trans l (le_trans z.quarter (mul-le-mul_right cap d))))

-- ---- a PCLK is above 0: what is below its want is not divided, and what is above it is large
large : (most h : ℕ) (q : Option Hertz) → 12500000 ≤ most → AskedWithin 12500000 216000000 q → wanted_of most h q < h → 12500000 ≤ h
unfolding wanted_of
large most h None m a g = omega arith
large most h (Some f) m a g = omega (arith, a.low)

pclk_pos : (most h : ℕ) (q : Option Hertz) → 12500000 ≤ most → Hclk most h q → 0 < (apb_for most h q).pclk.0
unfolding apb_for
pclk_pos most h q m k = at (split_le h (wanted_of most h q))
  where
    w : Between 1 216000000 (wanted_of most h q)
    w = wanted_range most h q k

    one : h ≤ wanted_of most h q → ratio_up h (wanted_of most h q) ≤ 1
    one l =
        let v = wanted_of most h q in
        le_trans (ratio_grows h v v v k.low l (omega (arith, w.high)) w.low (omega arith) (omega (arith, w.high))) (le_of_eq (ratio_one v w.low))

    at : (h ≤ wanted_of most h q) ⊎ (wanted_of most h q < h) → 0 < h / (ppre_row (ratio_up h (wanted_of most h q))).divider
    at (inl l) = rw (ppre_one _ (one l)) (omega (arith, k.low))
    at (inr g) =
        let p = ppre_power (ratio_up h (wanted_of most h q)) in
        (le-div_iff_mul-le (power_low p)).1 (omega (arith, power_high p, large most h q m k.asked g))

-- ---- the two caps of a PCLK: up to 180 MHz and above
pub record Caps (lo hi : ℕ) : Type 0 where
  lower : Cap lo 180000000
  upper : Cap hi 216000000

pub caps1 : Caps 45000000 54000000
caps1 = record { lower = cap_45; upper = cap_54 }

pub caps2 : Caps 90000000 108000000
caps2 = record { lower = cap_90; upper = cap_108 }

range : {cap most : ℕ} → Cap cap most → Between 1 216000000 cap
range z = record { low = omega (arith, z.low); high = omega (arith, z.high) }

by_cap : (s lo hi : ℕ) (x : Row) (q : Option Hertz) → Caps lo hi → Sysclk s → Power 9 x → Hclk (cap_of s lo hi) (s / x.divider) q → Between 1 (cap_of s lo hi) (apb_for (cap_of s lo hi) (s / x.divider) q).pclk.0
unfolding cap_of
by_cap s lo hi x q z y p = rw p.is (at (leb s 180000000) refl)
  where
    at : (t : Bool) → leb s 180000000 ≡ t → Hclk (cond t lo hi) (s / 2 ^ p.exponent) q → Between 1 (cond t lo hi) (apb_for (cond t lo hi) (s / 2 ^ p.exponent) q).pclk.0
    at true e k = record { low = pclk_pos lo _ q z.lower.low k; high = divided_capped s lo 180000000 q z.lower y.sixteen (leb-true s 180000000 e) p.exponent k }
    at false e k = record { low = pclk_pos hi _ q z.upper.low k; high = divided_capped s hi 216000000 q z.upper y.sixteen y.high p.exponent k }

-- whichever row HPRE has, PCLK is above 0 and within its cap
pub pclk_within : (s lo hi : ℕ) (x : Row) (q : Option Hertz) → Caps lo hi → Sysclk s → Power 9 x → AskedWithin 12500000 hi q → Between 1 (cap_of s lo hi) (apb_for (cap_of s lo hi) (s / x.divider) q).pclk.0
pclk_within s lo hi x q z y p k = by_cap s lo hi x q z y p (hclk_facts s lo hi _ q y (row_range s x y p) refl (range z.lower) (range z.upper) k)
