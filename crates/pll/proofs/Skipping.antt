-- Looks that fail may be jumped over: no pair between a jump's ends is good, so that the walk comes to the same, with the passes counted.
use Prim.Native.Nat.{ℕ, zero, suc, ◌+◌, ◌-◌, ◌*◌, ◌/◌, ◌≤◌, ◌<◌, min}
use mathlib.Core.Path.{◌≡◌, refl, ◌∙◌, subst}
use mathlib.Core.Logic.{⊎_elim}
use native.Mathlib.Omega.{arith}
use native.Mathlib.Nat.{div-lt_iff_lt-mul, zero-add, add-zero}
use Rattle.pll.specs.Fixed.{vco_of}
use Rattle.pll.specs.Walk.{look, walk, found, p_dividers, q_dividers}
use Rattle.pll.specs.Skip.{unit_of, vco_by, target, jump}
use Rattle.pll.specs.Good.{Fitting}
use Rattle.std.specs.Prelude.{Option, Err}
use Rattle.kinds.specs.declared.Divider.{Divider}
use Rattle.pll.specs.declared.Window.{Window}
use Rattle.pll.specs.declared.Miss.TheVariants.{Nothing}
use Rattle.pll.specs.declared.Look.{Look}
use Rattle.pll.specs.declared.Look.TheVariants.{Refuse, NextM, NextN, Good}
use Rattle.pll.proofs.Reciprocal.{unit_pos, vco_by_lem, vco_grows}
use Rattle.pll.proofs.Dividers.{split, chosen_fits, end_bound}
use Rattle.pll.proofs.Looks.{InRange, Looked, past, low, high, end, slow, good, looked, told, next_n_range}
use Rattle.pll.proofs.Room.{Room, room_here, room_down}

-- ---- one turn of the walk, with what is left of its fuel
module _ (f : ℕ) (p q : Option Window) (m n k d e : ℕ) (s : d ≡ suc e) where
  pub turn_refuse : look f p q m n ≡ Refuse → walk d f p q (look f p q m n) m n k ≡ Err (Nothing k)
  unfolding walk
  turn_refuse h = rw (s, h)

  pub turn_m : look f p q m n ≡ NextM → walk d f p q (look f p q m n) m n k ≡ walk e f p q (look f p q (m + 1) 432) (m + 1) 432 (k + 1)
  unfolding walk
  turn_m h = rw (s, h)

  turn_n : look f p q m n ≡ NextN → walk d f p q (look f p q m n) m n k ≡ walk e f p q (look f p q m (n - 1)) m (n - 1) (k + 1)
  unfolding walk
  turn_n h = rw (s, h)

  pub turn_good : (a b : Option Divider) → look f p q m n ≡ Good a b → walk d f p q (look f p q m n) m n k ≡ found m n a b k
  unfolding walk
  turn_good a b h = rw (s, h)

-- ---- the target
target_bound : (p q : Option Window) (v x : ℕ) → x ≤ v → x ≤ 432000000 → Fitting p_dividers p x → Fitting q_dividers q x → x < target p q v
unfolding target
target_bound p q v x le top a b =
    let y = end_bound p_dividers p (min v 432000000) x tt (omega arith) (omega arith) a in
    let z = end_bound q_dividers q (min v 432000000) x tt (omega arith) (omega arith) b in
    omega arith

pub target_low : (p q : Option Window) (v : ℕ) → 50000000 ≤ target p q v
unfolding target
target_low p q v = omega arith

pub target_high : (p q : Option Window) (v : ℕ) → target p q v ≤ 432000001
unfolding target
target_high p q v = omega arith

-- ---- the jump
-- an N past the quotient has a VCO of at least t
vco_past : (u N t : ℕ) → 0 < u → ((t + 15) / 16 * 1073741824 - 1) / u < N → t ≤ vco_by u N
unfolding vco_by
vco_past u N t pos h = let a : (t + 15) / 16 * 1073741824 - 1 < N * u = (div-lt_iff_lt-mul pos).0 h in omega arith

jump_low : (u n t : ℕ) → 49 ≤ jump u n t
unfolding jump
jump_low u n t = omega arith

jump_less : (u n t : ℕ) → 50 ≤ n → jump u n t < n
unfolding jump
jump_less u n t h = omega arith

-- a pair between the jump's ends fails
module _ (f : ℕ) (p q : Option Window) (m n : ℕ) (r : InRange f m n) where
  fails : (N : ℕ) → 50 ≤ N → N ≤ n → target p q (vco_of f n m) ≤ vco_of f N m → (l : Look) → Looked f p q m N l → l ≡ NextN
  fails N a b h Refuse (past x) = absurd (omega (arith, x, r.m_high))
  fails N a b h Refuse (low x) = absurd (omega (arith, x, r.low))
  fails N a b h NextM (high x y z) = absurd (omega (arith, z, r.high))
  fails N a b h NextM (end x y z w) = absurd (omega (arith, w, a))
  fails N a b h NextM (slow s x) = absurd (let t = target_low p q (vco_of f n m) in omega (arith, x, h))
  fails N a b h NextN w = refl
  fails N a b h (Good i j) (good s x y c d) =
      absurd (let t = target_bound p q (vco_of f n m) (vco_of f N m) (vco_grows f m N n b) y (chosen_fits p_dividers p _ i c) (chosen_fits q_dividers q _ j d) in omega (arith, h))

  jumped : 1000000 ≤ f → 2 ≤ m → look f p q m n ≡ NextN → (N : ℕ) → jump (unit_of f m) n (target p q (vco_of f n m)) < N → N ≤ n → look f p q m N ≡ NextN
  unfolding jump
  jumped lo pos e N a b =
      ⊎_elim (λ (c : N < n).
      fails N (omega arith) b (rw (vco_by_lem f m N) at (vco_past (unit_of f m) N (target p q (vco_of f n m)) (unit_pos f m lo pos r.m_high) (omega arith))) (look f p q m N) (looked f p q m N))
      (λ (c : n ≤ N). let g : n ≡ N = omega arith in subst (λ (x : ℕ). look f p q m x ≡ NextN) g e)
      (split N n)

-- ---- the walk over j failing looks
turns : (f : ℕ) (p q : Option Window) (m i j d k : ℕ) → ((N : ℕ) → i < N → N ≤ i + j → look f p q m N ≡ NextN)
    → walk (j + d) f p q (look f p q m (i + j)) m (i + j) k ≡ walk d f p q (look f p q m i) m i (k + j)
turns f p q m i zero d k h = rw (zero-add d, add-zero i, add-zero k)
turns f p q m i (suc j) d k h =
    let s : suc j + d ≡ suc (j + d) = omega arith in
    let e : i + suc j - 1 ≡ i + j = omega arith in
    let g : k + 1 + j ≡ k + suc j = omega arith in
    turn_n f p q m (i + suc j) k (suc j + d) (j + d) s (h (i + suc j) (omega arith) (omega arith))
    ∙ rw e (rw g at (turns f p q m i j d (k + 1) (λ N a b. h N a (omega arith))))

-- the walk over the looks between j and n
skip_walk : (f : ℕ) (p q : Option Window) (m n k j : ℕ) → j < n → k + (n - j) ≤ 10008 → ((N : ℕ) → j < N → N ≤ n → look f p q m N ≡ NextN)
    → walk (10009 - k) f p q (look f p q m n) m n k ≡ walk (10009 - (k + (n - j))) f p q (look f p q m j) m j (k + (n - j))
skip_walk f p q m n k j a b h =
    let e : j + (n - j) ≡ n = omega arith in
    let g : n - j + (10009 - (k + (n - j))) ≡ 10009 - k = omega arith in
    rw g at (rw e at (turns f p q m j (n - j) (10009 - (k + (n - j))) k (λ N x y. h N x (omega arith))))

-- ---- what the search's loop needs of a jump to j from a look that failed: j is below n, the looks passed over fit into the
-- count, and the walk from j comes to what the walk from n does
pub record Skipped (f : ℕ) (p q : Option Window) (m n k j : ℕ) : Type 0 where
  pub less : j < n
  pub count : k + (n - j) ≤ 10008
  pub room : Room f m j (k + (n - j))
  pub same : walk (10009 - k) f p q (look f p q m n) m n k ≡ walk (10009 - (k + (n - j))) f p q (look f p q m j) m j (k + (n - j))

module _ (f : ℕ) (p q : Option Window) (m n k u v t j : ℕ) (i : 1000000 ≤ f) (r : Room f m n k) (e : look f p q m n ≡ NextN) (eu : u ≡ unit_of f m) (ev : v ≡ vco_of f n m) (et : t ≡ target p q v) (ej : j ≡ jump u n t) where
  range : InRange f m n
  range = next_n_range f p q m n (told f p q m n e)

  skip_less : j < n
  skip_less = let h = jump_less u n t range.n_low in omega arith

  skip_room : Room f m j (k + (n - j))
  skip_room = room_down f m n k r j range (let h = jump_low u n t in omega arith) skip_less

  skip_count : k + (n - j) ≤ 10008
  skip_count = room_here f m j (k + (n - j)) skip_room

  from : j ≡ jump (unit_of f m) n (target p q (vco_of f n m))
  from = ej ∙ rw (eu, et, ev)

  skip_same : walk (10009 - k) f p q (look f p q m n) m n k ≡ walk (10009 - (k + (n - j))) f p q (look f p q m j) m j (k + (n - j))
  skip_same =
      skip_walk f p q m n k j skip_less skip_count
      (λ N a b. jumped f p q m n range i r.m_low e N (subst (λ (x : ℕ). x < N) from a) b)

  pub skipped : Skipped f p q m n k j
  skipped = record { less = skip_less; count = skip_count; room = skip_room; same = skip_same }
