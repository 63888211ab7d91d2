-- Document 01, "Search": when a pair is good, and what the right answer is, with no word of the walk.
use Rattle.std.specs.Prelude.{ℕ, ◌/◌, ◌≤◌, ◌<◌, ◌≡◌, ◌⊎◌, List, [], ◌∷◌, Option, Some, None, Result, Ok, Err}
use Rattle.pll.specs.Fixed.{InputOk, vco_of}
use Rattle.pll.specs.Walk.{p_dividers, q_dividers}
use Rattle.kinds.specs.declared.Divider.{Divider}
use Rattle.pll.specs.declared.Window.{Window}
use Rattle.pll.specs.declared.Pair.{Pair}
use Rattle.pll.specs.declared.Miss.{Miss}
use Rattle.pll.specs.declared.Miss.TheVariants.{BadInput, Nothing}

abbrev pub Among : ℕ → List ℕ → Type 0
Among d [] = ⊥
Among d (e ∷ es) = (d ≡ e) ⊎ Among d es

-- floor(VCO/divider) is inside the window lo to hi
pub record Hits (lo hi v d : ℕ) : Type 0 where
  pub low : lo ≤ v / d
  pub high : v / d ≤ hi

-- some divider of the list puts the VCO into the window, where the window is present
abbrev pub Fitting : List ℕ → Option Window → ℕ → Type 0
Fitting ds None v = Unit {0}
Fitting ds (Some w) v = (d : ℕ) × Among d ds × Hits w.lo.0 w.hi.0 v d

-- the divider that the answer has: none for an absent window, else the largest that fits
abbrev pub Chosen : List ℕ → Option Window → ℕ → Option Divider → Type 0
Chosen ds None v a = a ≡ None
Chosen ds (Some w) v a =
    (e : Divider) × (a ≡ Some e) × Among e.0 ds × Hits w.lo.0 w.hi.0 v e.0
    × ((d : ℕ) → Among d ds → Hits w.lo.0 w.hi.0 v d → d ≤ e.0)

-- at least one window is present
abbrev pub SomeWindow : Option Window → Option Window → Type 0
SomeWindow None None = ⊥
SomeWindow None (Some w) = Unit {0}
SomeWindow (Some w) q = Unit {0}

-- when a pair is good
pub record GoodPair (f : ℕ) (p q : Option Window) (m n : ℕ) : Type 0 where
  pub input : InputOk f
  pub sought : SomeWindow p q
  pub m_low : 2 ≤ m
  pub m_high : m ≤ 63
  pub n_low : 50 ≤ n
  pub n_high : n ≤ 432
  pub in_low : 1000000 ≤ f / m
  pub in_high : f / m ≤ 2000000
  pub vco_low : 50000000 ≤ vco_of f n m
  pub vco_high : vco_of f n m ≤ 432000000
  pub p_fits : Fitting p_dividers p (vco_of f n m)
  pub q_fits : Fitting q_dividers q (vco_of f n m)

-- (M, N) is (m, n) or comes after it: greater M, or the same M and at most as great an N
abbrev pub NotBefore : ℕ → ℕ → ℕ → ℕ → Type 0
NotBefore m n M N = (m < M) ⊎ ((M ≡ m) × (N ≤ n))

-- the answer is least M, then greatest N; of several P or Q, the largest
pub record Best (f : ℕ) (p q : Option Window) (m n : ℕ) (a b : Option Divider) : Type 0 where
  pub good : GoodPair f p q m n
  pub best : (M N : ℕ) → GoodPair f p q M N → NotBefore m n M N
  pub p_chosen : Chosen p_dividers p (vco_of f n m) a
  pub q_chosen : Chosen q_dividers q (vco_of f n m) b

-- what the right answer is; its count is at most 10,008
abbrev pub Answer : ℕ → Option Window → Option Window → Result Pair Miss → Type 0
Answer f p q (Ok r) = Best f p q r.m.0 r.n.0 r.p r.q × (r.passes ≤ 10008)
Answer f p q (Err BadInput) = InputOk f → ⊥
Answer f p q (Err (Nothing k)) = InputOk f × ((M N : ℕ) → GoodPair f p q M N → ⊥) × (k ≤ 10008)
