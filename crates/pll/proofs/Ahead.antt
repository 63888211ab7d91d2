-- At each pass every good pair still lies ahead: a step of the walk passes over none, since the VCO grows with N.
use Prim.Native.Nat.{ℕ, ◌+◌, ◌-◌, ◌≤◌, ◌<◌}
use mathlib.Core.Path.{◌≡◌, subst}
use mathlib.Core.Logic.{inl, inr, ⊎_elim}
use native.Mathlib.Omega.{arith}
use Rattle.pll.specs.Good.{GoodPair, NotBefore}
use Rattle.std.specs.Prelude.{Option}
use Rattle.pll.specs.declared.Window.{Window}
use Rattle.pll.specs.declared.Look.TheVariants.{Refuse, NextM, NextN}
use Rattle.pll.proofs.Reciprocal.{vco_grows}
use Rattle.pll.proofs.Dividers.{split, at_least, less_than}
use Rattle.pll.proofs.Looks.{Looked, past, low, high, end, slow, fast, missed_p, missed_q}

abbrev pub Ahead : ℕ → Option Window → Option Window → ℕ → ℕ → Type 0
Ahead f p q m n = (M N : ℕ) → GoodPair f p q M N → NotBefore m n M N

pub ahead_start : (f : ℕ) (p q : Option Window) → Ahead f p q 2 432
ahead_start f p q M N g = ⊎_elim (λ (a : 2 < M). inl a) (λ (a : M ≤ 2). inr (omega (arith, g.m_low), g.n_high)) (split 2 M)

module _ (f : ℕ) (p q : Option Window) (m n : ℕ) (pos : 2 ≤ m) (ahead : Ahead f p q m n) where
  -- a good pair at this very M, read at m
  here : (M N : ℕ) → M ≡ m → GoodPair f p q M N → GoodPair f p q m N
  here M N e g = subst (λ (x : ℕ). GoodPair f p q x N) e g

  -- where no pair of this M is good any more, all lie at the next M
  leave : ((N : ℕ) → N ≤ n → GoodPair f p q m N → ⊥) → Ahead f p q (m + 1) 432
  leave none M N g =
      ⊎_elim (λ (a : m < M). ⊎_elim (λ (b : m + 1 < M). inl b) (λ (b : M ≤ m + 1). inr (omega arith, g.n_high)) (split (m + 1) M))
      (λ (a : (M ≡ m) × (N ≤ n)). absurd (none N a.1 (here M N a.0 g)))
      (ahead M N g)

  pub ahead_m : Looked f p q m n NextM → Ahead f p q (m + 1) 432
  ahead_m (high a b c) = leave (λ N h g. omega (arith, c, g.in_high))
  ahead_m (end a b c d) = leave (λ N h g. omega (arith, d, g.n_low))
  ahead_m (slow r d) = leave (λ N h g. omega (arith, d, g.vco_low, vco_grows f m N n h))

  pub ahead_n : Looked f p q m n NextN → Ahead f p q m (n - 1)
  ahead_n w M N g =
      ⊎_elim (λ (a : m < M). inl a)
      (λ (a : (M ≡ m) × (N ≤ n)). ⊎_elim (λ (b : N < n). inr (a.0, omega arith))
      (λ (b : n ≤ N). let e : N ≡ n = omega arith in absurd (bad w (subst (λ (x : ℕ). GoodPair f p q m x) e (here M N a.0 g))))
      (split N n))
      (ahead M N g)
    where
      bad : Looked f p q m n NextN → GoodPair f p q m n → ⊥
      bad (fast r d) h = omega (arith, d, h.vco_high)
      bad (missed_p r d) h = d h.p_fits
      bad (missed_q r d) h = d h.q_fits

  pub none_left : Looked f p q m n Refuse → (M N : ℕ) → GoodPair f p q M N → ⊥
  none_left w M N g = ⊎_elim (λ (a : m < M). stop w (omega arith)) (λ (a : (M ≡ m) × (N ≤ n)). stop w (omega (arith, a.0))) (ahead M N g)
    where
      stop : Looked f p q m n Refuse → m ≤ M → ⊥
      stop (past a) h = omega (arith, a, g.m_high)
      stop (low a) h =
          let x = less_than f m 1000000 (omega arith) a in
          let y = at_least f M 1000000 (omega (arith, g.m_low)) g.in_low in
          omega arith
