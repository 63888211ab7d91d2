-- The walk as rules without fuel leads to one answer, and the fuel of the definition is enough to reach it; both by induction on the walk.
use Prim.Native.Nat.{ℕ, zero, suc, ◌+◌, ◌-◌, ◌≤◌}
use mathlib.Core.Path.{◌≡◌, refl}
use native.Mathlib.Omega.{arith}
use Rattle.pll.specs.Walk.{Walks, refuses, finds, next_m, next_n, looks_of, look, walk, whole_walk}
use Rattle.pll.specs.Fixed.{InputOk}
use Rattle.pll.specs.Numbers.{passes_of}
use Rattle.std.specs.Prelude.{Option, Result}
use Rattle.pll.specs.declared.Window.{Window}
use Rattle.pll.specs.declared.Pair.{Pair}
use Rattle.pll.specs.declared.Miss.{Miss}
use Rattle.pll.specs.declared.Look.{Look}
use Rattle.pll.specs.declared.Look.TheVariants.{Refuse, NextM, NextN, Good}
use Rattle.pll.proofs.Looks.{told}
use Rattle.pll.proofs.Room.{Room, room_start, room_here, room_m, room_n}

walks : (d f : ℕ) (p q : Option Window) (l : Look) (m n k : ℕ) → look f p q m n ≡ l → Room f m n k → k + d ≡ 10009 → Walks f p q m n k (walk d f p q l m n k)
unfolding walk
walks zero f p q l m n k e r h = absurd (let x = room_here f m n k r in omega arith)
walks (suc d) f p q Refuse m n k e r h = refuses e
walks (suc d) f p q (Good a b) m n k e r h = finds e
walks (suc d) f p q NextM m n k e r h =
    next_m e (walks d f p q (look f p q (m + 1) 432) (m + 1) 432 (k + 1) refl (room_m f p q m n k r (told f p q m n e)) (omega arith))
walks (suc d) f p q NextN m n k e r h =
    next_n e (walks d f p q (look f p q m (n - 1)) m (n - 1) (k + 1) refl (room_n f p q m n k r (told f p q m n e)) (omega arith))

pub whole_walks : (f : ℕ) (p q : Option Window) → InputOk f → Walks f p q 2 432 1 (whole_walk f p q)
whole_walks f p q i = walks 10008 f p q (look f p q 2 432) 2 432 1 refl (room_start f i) refl

-- from pass k a walk counts on, one for each look but this one
pub walks_count : {f : ℕ} {p q : Option Window} {m n k : ℕ} {r : Result Pair Miss} (w : Walks f p q m n k r) → passes_of r + 1 ≡ k + looks_of w
unfolding looks_of
walks_count (refuses x) = refl
walks_count (finds x) = refl
walks_count (next_m x w) = let h = walks_count w in omega arith
walks_count (next_n x w) = let h = walks_count w in omega arith

pub looks_some : {f : ℕ} {p q : Option Window} {m n k : ℕ} {r : Result Pair Miss} (w : Walks f p q m n k r) → 1 ≤ looks_of w
unfolding looks_of
looks_some (refuses x) = omega arith
looks_some (finds x) = omega arith
looks_some (next_m x w) = omega arith
looks_some (next_n x w) = omega arith

-- two rules that apply at one pair are the same rule, since the look there is one
pub walks_one : (f : ℕ) (p q : Option Window) (m n k : ℕ) (r s : Result Pair Miss) → Walks f p q m n k r → Walks f p q m n k s → r ≡ s
walks_one f p q m n k r s (refuses x) (refuses y) = refl
walks_one f p q m n k r s (refuses x) (finds y) = absurd (let z : ◌≡◌ {A = ℕ} 0 1 = cc in omega arith)
walks_one f p q m n k r s (refuses x) (next_m y w) = absurd (let z : ◌≡◌ {A = ℕ} 0 1 = cc in omega arith)
walks_one f p q m n k r s (refuses x) (next_n y w) = absurd (let z : ◌≡◌ {A = ℕ} 0 1 = cc in omega arith)
walks_one f p q m n k r s (finds x) (refuses y) = absurd (let z : ◌≡◌ {A = ℕ} 0 1 = cc in omega arith)
walks_one f p q m n k r s (finds x) (finds y) = cc
walks_one f p q m n k r s (finds x) (next_m y w) = absurd (let z : ◌≡◌ {A = ℕ} 0 1 = cc in omega arith)
walks_one f p q m n k r s (finds x) (next_n y w) = absurd (let z : ◌≡◌ {A = ℕ} 0 1 = cc in omega arith)
walks_one f p q m n k r s (next_m x v) (refuses y) = absurd (let z : ◌≡◌ {A = ℕ} 0 1 = cc in omega arith)
walks_one f p q m n k r s (next_m x v) (finds y) = absurd (let z : ◌≡◌ {A = ℕ} 0 1 = cc in omega arith)
walks_one f p q m n k r s (next_m x v) (next_m y w) = walks_one f p q (m + 1) 432 (k + 1) r s v w
walks_one f p q m n k r s (next_m x v) (next_n y w) = absurd (let z : ◌≡◌ {A = ℕ} 0 1 = cc in omega arith)
walks_one f p q m n k r s (next_n x v) (refuses y) = absurd (let z : ◌≡◌ {A = ℕ} 0 1 = cc in omega arith)
walks_one f p q m n k r s (next_n x v) (finds y) = absurd (let z : ◌≡◌ {A = ℕ} 0 1 = cc in omega arith)
walks_one f p q m n k r s (next_n x v) (next_m y w) = absurd (let z : ◌≡◌ {A = ℕ} 0 1 = cc in omega arith)
walks_one f p q m n k r s (next_n x v) (next_n y w) = walks_one f p q m (n - 1) (k + 1) r s v w
