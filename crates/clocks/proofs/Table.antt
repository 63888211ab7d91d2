-- The rows, each by the ratios that it is for and as the code writes it, an f32 by its bit pattern; and what every row's divider is.
use Rattle.std.proofs.Common.{◌≡◌, ℕ, ◌^◌, ◌<◌, ◌≤◌, Float, Bool, true, false, cond, eqb, leb, pos, sym, refl, ap, ◌∙◌, arith, lit≤, pow_pos, pow_mono, le-leb}
use borrow.Author.Tests.{lt-leb}
use lib.Ieee.{binary32, of_bits, of_int}
use Rattle.clocks.specs.Ratio.{ratio_up}
use Rattle.clocks.specs.Rows.{Row, row, hpre_row, ppre_row}
use Rattle.clocks.specs.Derive.{hpre_of}
use Rattle.clocks.specs.Inner.{hpre_held, ppre_held, whole_of, PowerOfTwo}
use Rattle.clocks.specs.declared.Prescaler.{Prescaler}
use Rattle.clocks.proofs.Exactly.{whole_of_power}

-- ---- HPRE
abbrev pub written : ℕ → ℕ → Prescaler Float
written bits code = record { div = of_bits binary32 bits; code = code }

pub last_row : written 1140850688 15 ≡ hpre_held (row 512 15)
unfolding of_bits of_int
last_row = refl

module _ (r : ℕ) where
  pub hpre_1 : r ≤ 1 → written 1065353216 0 ≡ hpre_held (hpre_row r)
  unfolding hpre_row of_bits of_int
  hpre_1 h = rw (le-leb r 1 h)

  pub hpre_2 : 1 < r → r ≤ 2 → written 1073741824 8 ≡ hpre_held (hpre_row r)
  unfolding hpre_row of_bits of_int
  hpre_2 g h = rw (lt-leb r 1 g, le-leb r 2 h)

  pub hpre_4 : 2 < r → r ≤ 5 → written 1082130432 9 ≡ hpre_held (hpre_row r)
  unfolding hpre_row of_bits of_int
  hpre_4 g h = rw (lt-leb r 1 (omega arith), lt-leb r 2 g, le-leb r 5 h)

  pub hpre_8 : 5 < r → r ≤ 11 → written 1090519040 10 ≡ hpre_held (hpre_row r)
  unfolding hpre_row of_bits of_int
  hpre_8 g h = rw (lt-leb r 1 (omega arith), lt-leb r 2 (omega arith), lt-leb r 5 g, le-leb r 11 h)

  pub hpre_16 : 11 < r → r ≤ 39 → written 1098907648 11 ≡ hpre_held (hpre_row r)
  unfolding hpre_row of_bits of_int
  hpre_16 g h = rw (lt-leb r 1 (omega arith), lt-leb r 2 (omega arith), lt-leb r 5 (omega arith), lt-leb r 11 g, le-leb r 39 h)

  pub hpre_64 : 39 < r → r ≤ 95 → written 1115684864 12 ≡ hpre_held (hpre_row r)
  unfolding hpre_row of_bits of_int
  hpre_64 g h = rw (lt-leb r 1 (omega arith), lt-leb r 2 (omega arith), lt-leb r 5 (omega arith), lt-leb r 11 (omega arith), lt-leb r 39 g, le-leb r 95 h)

  pub hpre_128 : 95 < r → r ≤ 191 → written 1124073472 13 ≡ hpre_held (hpre_row r)
  unfolding hpre_row of_bits of_int
  hpre_128 g h =
      rw (lt-leb r 1 (omega arith), lt-leb r 2 (omega arith), lt-leb r 5 (omega arith), lt-leb r 11 (omega arith), lt-leb r 39 (omega arith), lt-leb r 95 g, le-leb r 191 h)

  pub hpre_256 : 191 < r → r ≤ 383 → written 1132462080 14 ≡ hpre_held (hpre_row r)
  unfolding hpre_row of_bits of_int
  hpre_256 g h =
      rw (lt-leb r 1 (omega arith), lt-leb r 2 (omega arith), lt-leb r 5 (omega arith), lt-leb r 11 (omega arith), lt-leb r 39 (omega arith), lt-leb r 95 (omega arith), lt-leb r 191 g, le-leb r 383 h)

  pub hpre_512 : 383 < r → written 1140850688 15 ≡ hpre_held (hpre_row r)
  unfolding hpre_row of_bits of_int
  hpre_512 g =
      rw (lt-leb r 1 (omega arith), lt-leb r 2 (omega arith), lt-leb r 5 (omega arith), lt-leb r 11 (omega arith), lt-leb r 39 (omega arith), lt-leb r 95 (omega arith), lt-leb r 191 (omega arith), lt-leb r 383 g)

  -- ---- PPRE
  pub ppre_1 : r ≤ 1 → ppre_held (row 1 0) ≡ ppre_held (ppre_row r)
  unfolding ppre_row
  ppre_1 h = rw (le-leb r 1 h)

  pub ppre_2 : 1 < r → r ≤ 2 → ppre_held (row 2 4) ≡ ppre_held (ppre_row r)
  unfolding ppre_row
  ppre_2 g h = rw (lt-leb r 1 g, le-leb r 2 h)

  pub ppre_4 : 2 < r → r ≤ 6 → ppre_held (row 4 5) ≡ ppre_held (ppre_row r)
  unfolding ppre_row
  ppre_4 g h = rw (lt-leb r 1 (omega arith), lt-leb r 2 g, le-leb r 6 h)

  pub ppre_8 : 6 < r → r ≤ 12 → ppre_held (row 8 6) ≡ ppre_held (ppre_row r)
  unfolding ppre_row
  ppre_8 g h = rw (lt-leb r 1 (omega arith), lt-leb r 2 (omega arith), lt-leb r 6 g, le-leb r 12 h)

  pub ppre_16 : 12 < r → ppre_held (row 16 7) ≡ ppre_held (ppre_row r)
  unfolding ppre_row
  ppre_16 g = rw (lt-leb r 1 (omega arith), lt-leb r 2 (omega arith), lt-leb r 6 (omega arith), lt-leb r 12 g)

-- the arms of the code's two matches
pub ruleset hpre_rows = (hpre_1, hpre_2, hpre_4, hpre_8, hpre_16, hpre_64, hpre_128, hpre_256, hpre_512)

pub ruleset ppre_rows = (ppre_1, ppre_2, ppre_4, ppre_8, ppre_16)

-- ---- every divider is a power of two: HPRE's up to 2 ^ 9, PPRE's up to 2 ^ 4
pub record Power (k : ℕ) (x : Row) : Type 0 where
  pub exponent : ℕ
  pub small : exponent ≤ k
  pub is : x.divider ≡ 2 ^ exponent

power : (j : ℕ) {k : ℕ} (x : Row) → j ≤ k → x.divider ≡ 2 ^ j → Power k x
power j x h e = record { exponent = j; small = h; is = e }

either : (b : Bool) {k : ℕ} {x y : Row} → Power k x → Power k y → Power k (cond b x y)
either true p q = p
either false p q = q

pub power_low : {k : ℕ} {x : Row} → Power k x → 1 ≤ x.divider
power_low p = rw p.is (pow_pos p.exponent)

pub power_high : {k : ℕ} {x : Row} → Power k x → x.divider ≤ 2 ^ k
power_high p = rw p.is (pow_mono p.small)

powers : (r : ℕ) → Power 9 (hpre_row r)
unfolding hpre_row
powers r =
    either (leb r 1) (power 0 (row 1 0) (lit≤ tt) refl)
    (either (leb r 2) (power 1 (row 2 8) (lit≤ tt) refl)
    (either (leb r 5) (power 2 (row 4 9) (lit≤ tt) refl)
    (either (leb r 11) (power 3 (row 8 10) (lit≤ tt) refl)
    (either (leb r 39) (power 4 (row 16 11) (lit≤ tt) refl)
    (either (leb r 95) (power 6 (row 64 12) (lit≤ tt) refl)
    (either (leb r 191) (power 7 (row 128 13) (lit≤ tt) refl)
    (either (leb r 383) (power 8 (row 256 14) (lit≤ tt) refl) (power 9 (row 512 15) (lit≤ tt) refl))))))))

pub hpre_power : (s w : ℕ) → Power 9 (hpre_of s w)
unfolding hpre_of
hpre_power s w = either (eqb w 0) (power 9 (row 512 15) (lit≤ tt) refl) (powers (ratio_up s w))

pub ppre_power : (r : ℕ) → Power 4 (ppre_row r)
unfolding ppre_row
ppre_power r =
    either (leb r 1) (power 0 (row 1 0) (lit≤ tt) refl)
    (either (leb r 2) (power 1 (row 2 4) (lit≤ tt) refl)
    (either (leb r 6) (power 2 (row 4 5) (lit≤ tt) refl)
    (either (leb r 12) (power 3 (row 8 6) (lit≤ tt) refl) (power 4 (row 16 7) (lit≤ tt) refl))))

module _ (s w : ℕ) (x : Prescaler Float) (e : x ≡ hpre_held (hpre_of s w)) where
  pub divider_power : PowerOfTwo x.div
  divider_power =
      let p = hpre_power s w in
      record { exponent = p.exponent; small = p.small; is = ap (λ (z : Prescaler Float). z.div) e ∙ ap (λ (d : ℕ). of_int binary32 (pos d)) p.is }

  pub divider_whole : whole_of x.div ≡ (hpre_of s w).divider
  unfolding divider_power
  divider_whole = let p = divider_power in whole_of_power p.exponent x.div p.small p.is ∙ sym (hpre_power s w).is
