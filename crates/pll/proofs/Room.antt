-- The count's bound: at each pass the looks that are left are at most one for each M whose input is too fast, 384 for each M in range, and the last; each step of the walk keeps this.
use Prim.Native.Nat.{ℕ, ◌+◌, ◌-◌, ◌*◌, ◌/◌, ◌≤◌, ◌<◌, max}
use mathlib.Core.Path.{◌≡◌, refl}
use mathlib.Core.Logic.{◌⊎◌, inl, inr, ⊎_elim}
use native.Mathlib.Omega.{arith}
use Rattle.pll.specs.Fixed.{InputOk}
use Rattle.std.specs.Prelude.{Option}
use Rattle.pll.specs.declared.Window.{Window}
use Rattle.pll.specs.declared.Look.TheVariants.{NextM, NextN}
use Rattle.pll.proofs.Dividers.{split, at_least, less_than}
use Rattle.pll.proofs.Looks.{InRange, Looked, high, end, slow, next_n_range}

pub record Room (f m n k : ℕ) : Type 0 where
  pub m_low : 2 ≤ m
  pub n_low : 49 ≤ n
  pub n_high : n ≤ 432
  pub k_low : 1 ≤ k
  pub left : k + (f / 2000001 + 1 - m) + 384 * (f / 1000000 + 1 - max m (f / 2000001 + 1)) + 1 ≤ 10009 + (432 - n)
  pub fresh : (n ≡ 432) ⊎ ((f / 2000001 < m) × (m ≤ f / 1000000))

-- the numbers of a row of N that is done and of an M that is left, apart from the tests, so that `omega` meets few cases
row_done : (X Y Z W k n : ℕ) → k + X + 384 * Y + 1 ≤ 10009 + (432 - n) → 49 ≤ n → Y ≡ Z + 1 → W ≡ 0 → k + 1 + W + 384 * Z + 1 ≤ 10009 + (432 - 432)
row_done X Y Z W k n a b c d = omega arith

row_one : (A B m : ℕ) → A < m → m ≤ B → B + 1 - max m (A + 1) ≡ B + 1 - max (m + 1) (A + 1) + 1
row_one A B m a b = omega arith

row_none : (A m : ℕ) → A < m → A + 1 - (m + 1) ≡ 0
row_none A m a = omega arith

high_done : (X Y Z W k n : ℕ) → k + X + 384 * Y + 1 ≤ 10009 + (432 - n) → n ≡ 432 → Y ≡ Z → X ≡ W + 1 → k + 1 + W + 384 * Z + 1 ≤ 10009 + (432 - 432)
high_done X Y Z W k n a b c d = omega arith

high_same : (A B m : ℕ) → m ≤ A → B + 1 - max m (A + 1) ≡ B + 1 - max (m + 1) (A + 1)
high_same A B m a = omega arith

high_one : (A m : ℕ) → m ≤ A → A + 1 - m ≡ A + 1 - (m + 1) + 1
high_one A m a = omega arith

falls : (X Y k n j : ℕ) → k + X + 384 * Y + 1 ≤ 10009 + (432 - n) → j < n → n ≤ 432 → k + (n - j) + X + 384 * Y + 1 ≤ 10009 + (432 - j)
falls X Y k n j a b c = omega arith

pub room_start : (f : ℕ) → InputOk f → Room f 2 432 1
room_start f i = record { m_low = omega arith; n_low = omega arith; n_high = omega arith; k_low = omega arith; left = lefts; fresh = inl refl }
  where
    lefts : 1 + (f / 2000001 + 1 - 2) + 384 * (f / 1000000 + 1 - max 2 (f / 2000001 + 1)) + 1 ≤ 10009 + (432 - 432)
    lefts = ⊎_elim (λ (a : f < 48000024). omega (arith, i.low)) (λ (a : 48000024 ≤ f). omega (arith, i.high)) (split f 48000024)

module _ (f m n k : ℕ) (r : Room f m n k) where
  pub room_here : k ≤ 10008
  room_here = ⊎_elim (λ (a : n ≡ 432). omega (arith, r.left, a)) (λ (a : (f / 2000001 < m) × (m ≤ f / 1000000)). omega (arith, r.left, r.n_low, a.0, a.1)) r.fresh

  pos : 0 < m
  pos = omega (arith, r.m_low)

  -- any number of steps down a row
  pub room_down : (j : ℕ) → InRange f m n → 49 ≤ j → j < n → Room f m j (k + (n - j))
  room_down j s low less =
      let x = at_least f m 1000000 pos s.low in
      let y = less_than f m 2000001 pos (omega (arith, s.high)) in
      record {
        m_low = r.m_low;
        n_low = low;
        n_high = omega (arith, less, r.n_high);
        k_low = omega (arith, r.k_low);
        left = falls _ _ k n j r.left less r.n_high;
        fresh = inr (omega arith, omega arith);
      }

module _ (f : ℕ) (p q : Option Window) (m n k : ℕ) (r : Room f m n k) where
  pub room_m : Looked f p q m n NextM → Room f (m + 1) 432 (k + 1)
  room_m w = record { m_low = omega (arith, r.m_low); n_low = omega arith; n_high = omega arith; k_low = omega arith; left = lefts w; fresh = inl refl }
    where
      m_pos : 0 < m
      m_pos = pos f m n k r

      in_range : 1000000 ≤ f / m → f / m ≤ 2000000 → k + 1 + (f / 2000001 + 1 - (m + 1)) + 384 * (f / 1000000 + 1 - max (m + 1) (f / 2000001 + 1)) + 1 ≤ 10009 + (432 - 432)
      in_range a b =
          let x = at_least f m 1000000 m_pos a in
          let y = less_than f m 2000001 m_pos (omega arith) in
          row_done (f / 2000001 + 1 - m) _ _ _ k n r.left r.n_low (row_one (f / 2000001) (f / 1000000) m (omega arith) (omega arith)) (row_none (f / 2000001) m (omega arith))

      lefts : Looked f p q m n NextM → k + 1 + (f / 2000001 + 1 - (m + 1)) + 384 * (f / 1000000 + 1 - max (m + 1) (f / 2000001 + 1)) + 1 ≤ 10009 + (432 - 432)
      lefts (high a b c) =
          let x = at_least f m 2000001 m_pos c in
          ⊎_elim (λ (e : n ≡ 432). high_done (f / 2000001 + 1 - m) _ _ _ k n r.left e (high_same (f / 2000001) (f / 1000000) m (omega arith)) (high_one (f / 2000001) m (omega arith))) (λ (e : (f / 2000001 < m) × (m ≤ f / 1000000)). omega (arith, e.0)) r.fresh
      lefts (end a b c d) = in_range b c
      lefts (slow s d) = in_range s.low s.high

  pub room_n : Looked f p q m n NextN → Room f m (n - 1) (k + 1)
  room_n w =
      let s = next_n_range f p q m n w in
      let e : n - (n - 1) ≡ 1 = omega (arith, s.n_low) in
      rw e at (room_down f m n k r (n - 1) s (omega (arith, s.n_low)) (omega (arith, s.n_low)))
