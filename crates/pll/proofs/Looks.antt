-- What a look at a pair tells: one view over its answers, made once by going through its tests; and what the code's tests of one come to.
use Prim.Native.Nat.{ℕ, ◌*◌, ◌/◌, ◌≤◌, ◌<◌}
use mathlib.Core.Path.{◌≡◌, subst, sym, ◌∙◌}
use native.Mathlib.Omega.{arith}
use mathlib.Core.Logic.{⊎_elim}
use borrow.Author.Tests.{lt-ltb, le-ltb}
use Rattle.pll.specs.Fixed.{vco_of}
use Rattle.pll.specs.Walk.{seek, join, judge, look, p_dividers, q_dividers}
use Rattle.pll.specs.Good.{Fitting, Chosen}
use Rattle.std.specs.Prelude.{Option, Some, None}
use Rattle.kinds.specs.declared.Divider.{Divider}
use Rattle.pll.specs.declared.Window.{Window}
use Rattle.pll.specs.declared.Look.{Look}
use Rattle.pll.specs.declared.Look.TheVariants.{Refuse, NextM, NextN, Good}
use Rattle.pll.proofs.Dividers.{split, quotient_least, quotient_below, SeekView, missed, had, seek_view}

-- the last M that is looked at
abbrev pub last_m : ℕ
last_m = 63

-- ---- what a look comes to, by its tests
module _ (f : ℕ) (p q : Option Window) (m n : ℕ) where
  pub look_past : last_m < m → look f p q m n ≡ Refuse
  unfolding look
  look_past a = simp (lt-ltb _ _ a)

  pub look_low : m ≤ last_m → f / m < 1000000 → look f p q m n ≡ Refuse
  unfolding look
  look_low a b = simp (le-ltb _ _ a, lt-ltb _ _ b)

  pub look_high : m ≤ last_m → 1000000 ≤ f / m → 2000000 < f / m → look f p q m n ≡ NextM
  unfolding look
  look_high a b d = simp (le-ltb _ _ a, le-ltb _ _ b, lt-ltb _ _ d)

  pub look_end : m ≤ last_m → 1000000 ≤ f / m → f / m ≤ 2000000 → n < 50 → look f p q m n ≡ NextM
  unfolding look
  look_end a b d e = simp (le-ltb _ _ a, le-ltb _ _ b, le-ltb _ _ d, lt-ltb _ _ e)

  pub look_judge : m ≤ last_m → 1000000 ≤ f / m → f / m ≤ 2000000 → 50 ≤ n → look f p q m n ≡ judge p q (vco_of f n m)
  unfolding look
  look_judge a b d e = simp (le-ltb _ _ a, le-ltb _ _ b, le-ltb _ _ d, le-ltb _ _ e)

module _ (p q : Option Window) (v : ℕ) where
  pub judge_slow : v < 50000000 → judge p q v ≡ NextM
  unfolding judge
  judge_slow a = simp (lt-ltb _ _ a)

  pub judge_fast : 50000000 ≤ v → 432000000 < v → judge p q v ≡ NextN
  unfolding judge
  judge_fast a b = simp (le-ltb _ _ a, lt-ltb _ _ b)

  pub judge_join : 50000000 ≤ v → v ≤ 432000000 → judge p q v ≡ join (seek p_dividers p v) (seek q_dividers q v)
  unfolding judge
  judge_join a b = simp (le-ltb _ _ a, le-ltb _ _ b)

-- ---- the same by the tests that the code makes, with products in place of quotients
module _ (f : ℕ) (p q : Option Window) (m n v : ℕ) (pos : 2 ≤ m) (e : v ≡ vco_of f n m) (a : m ≤ last_m) where
  pub tested_low : f < 1000000 * m → Refuse ≡ look f p q m n
  tested_low b = sym (look_low f p q m n a (quotient_below f m 1000000 (omega arith) b))

  module _ (b : 1000000 * m ≤ f) where
    least : 1000000 ≤ f / m
    least = quotient_least f m 1000000 (omega arith) b

    pub tested_high : 2000001 * m ≤ f → NextM ≡ look f p q m n
    tested_high d = sym (look_high f p q m n a least (quotient_least f m 2000001 (omega arith) d))

    module _ (d : f < 2000001 * m) where
      most : f / m ≤ 2000000
      most = let h = quotient_below f m 2000001 (omega arith) d in omega arith

      pub tested_end : n < 50 → NextM ≡ look f p q m n
      tested_end g = sym (look_end f p q m n a least most g)

      judged_by : 50 ≤ n → look f p q m n ≡ judge p q v
      judged_by g = look_judge f p q m n a least most g ∙ rw e

      pub tested_slow : 50 ≤ n → v < 50000000 → NextM ≡ look f p q m n
      tested_slow g h = sym (judged_by g ∙ judge_slow p q v h)

      pub tested_fast : 50 ≤ n → 432000000 < v → NextN ≡ look f p q m n
      tested_fast g h = sym (judged_by g ∙ judge_fast p q v (omega arith) h)

      pub tested_join : 50 ≤ n → 50000000 ≤ v → v ≤ 432000000 → join (seek p_dividers p v) (seek q_dividers q v) ≡ look f p q m n
      tested_join g h i = sym (judged_by g ∙ judge_join p q v h i)

pub ruleset tested = (look_past, tested_low, tested_high, tested_end, tested_slow, tested_fast, tested_join)

-- ---- the view
pub record InRange (f m n : ℕ) : Type 0 where
  pub m_high : m ≤ last_m
  pub low : 1000000 ≤ f / m
  pub high : f / m ≤ 2000000
  pub n_low : 50 ≤ n

pub data Looked (f : ℕ) (p q : Option Window) (m n : ℕ) : Look → Type 0 where
  past : last_m < m → Looked f p q m n Refuse
  low : f / m < 1000000 → Looked f p q m n Refuse
  high : m ≤ last_m → 1000000 ≤ f / m → 2000000 < f / m → Looked f p q m n NextM
  end : m ≤ last_m → 1000000 ≤ f / m → f / m ≤ 2000000 → n < 50 → Looked f p q m n NextM
  slow : InRange f m n → vco_of f n m < 50000000 → Looked f p q m n NextM
  fast : InRange f m n → 432000000 < vco_of f n m → Looked f p q m n NextN
  missed_p : InRange f m n → (Fitting p_dividers p (vco_of f n m) → ⊥) → Looked f p q m n NextN
  missed_q : InRange f m n → (Fitting q_dividers q (vco_of f n m) → ⊥) → Looked f p q m n NextN
  good : {a b : Option Divider} → InRange f m n → 50000000 ≤ vco_of f n m → vco_of f n m ≤ 432000000 → Chosen p_dividers p (vco_of f n m) a → Chosen q_dividers q (vco_of f n m) b → Looked f p q m n (Good a b)

module _ (f : ℕ) (p q : Option Window) (m n : ℕ) where
  joined : InRange f m n → 50000000 ≤ vco_of f n m → vco_of f n m ≤ 432000000 → (a b : Option (Option Divider))
      → SeekView p_dividers p (vco_of f n m) a → SeekView q_dividers q (vco_of f n m) b → Looked f p q m n (join a b)
  unfolding join
  joined r x y None b (missed g) w = missed_p r g
  joined r x y (Some a) None (had a₁ c) (missed g) = missed_q r g
  joined r x y (Some a) (Some b) (had a₁ c) (had b₁ d) = good r x y c d

  judged : InRange f m n → Looked f p q m n (judge p q (vco_of f n m))
  judged r =
      let v = vco_of f n m in
      ⊎_elim (λ (a : v < 50000000). rw (judge_slow p q v a) (slow r a))
      (λ (a : 50000000 ≤ v). ⊎_elim (λ (b : 432000000 < v). rw (judge_fast p q v a b) (fast r b))
      (λ (b : v ≤ 432000000). rw (judge_join p q v a b) (joined r a b _ _ (seek_view p_dividers p v tt) (seek_view q_dividers q v tt)))
      (split 432000000 v))
      (split v 50000000)

  pub looked : Looked f p q m n (look f p q m n)
  looked =
      ⊎_elim (λ (a : last_m < m). rw (look_past f p q m n a) (past a))
      (λ (a : m ≤ last_m). ⊎_elim (λ (b : f / m < 1000000). rw (look_low f p q m n a b) (low b))
      (λ (b : 1000000 ≤ f / m). ⊎_elim (λ (c : 2000000 < f / m). rw (look_high f p q m n a b c) (high a b c))
      (λ (c : f / m ≤ 2000000). ⊎_elim (λ (d : n < 50). rw (look_end f p q m n a b c d) (end a b c d))
      (λ (d : 50 ≤ n). rw (look_judge f p q m n a b c d) (judged (record { m_high = a; low = b; high = c; n_low = d })))
      (split n 50))
      (split 2000000 (f / m)))
      (split (f / m) 1000000))
      (split last_m m)

  pub told : {l : Look} → look f p q m n ≡ l → Looked f p q m n l
  told e = subst (λ (x : Look). Looked f p q m n x) e looked

pub next_m_small : (f : ℕ) (p q : Option Window) (m n : ℕ) → Looked f p q m n NextM → m ≤ last_m
next_m_small f p q m n (high a b c) = a
next_m_small f p q m n (end a b c d) = a
next_m_small f p q m n (slow r d) = r.m_high

pub next_n_range : (f : ℕ) (p q : Option Window) (m n : ℕ) → Looked f p q m n NextN → InRange f m n
next_n_range f p q m n (fast s a) = s
next_n_range f p q m n (missed_p s a) = s
next_n_range f p q m n (missed_q s a) = s
