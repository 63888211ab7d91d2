-- The first divider of a falling list that fits a window is the largest that fits, and the code's way to it, by the largest that is not below the window, comes to the same; by induction on the list.
use Prim.Native.Nat.{ℕ, zero, suc, ◌+◌, ◌*◌, ◌/◌, ◌≤◌, ◌<◌}
use mathlib.Core.Path.{◌≡◌, refl, ap, sym, ◌∙◌, subst}
use mathlib.Core.Logic.{◌⊎◌, inl, inr, ⊎_elim}
use mathlib.Core.Bool.{Bool, true, false, true≢false, ◌&&◌}
use mathlib.Core.List.{List, [], ◌∷◌}
use lib.Dec.{T, leb, ltb, leb→le}
use borrow.Author.Tests.{ltb-true, ltb-false, lt-ltb, le-ltb, le-leb, lt-leb}
use native.Mathlib.Omega.{arith}
use native.Mathlib.Nat.{le-div_iff_mul-le, div-lt_iff_lt-mul, mul-le-mul_left, mul-div-le, mul_comm, le_trans}
use Rattle.pll.specs.Fixed.{inside}
use Rattle.pll.specs.Walk.{first, seek, q_dividers}
use Rattle.pll.specs.Skip.{dividers_of, highest, fit, end}
use Rattle.pll.specs.Good.{Among, Hits, Fitting, Chosen}
use Rattle.kinds.specs.declared.Divider.{Divider}
use Rattle.pll.specs.declared.Window.{Window}
use Rattle.pll.specs.declared.Side.{Side}
use Rattle.pll.specs.declared.Side.TheVariants.{P, Q}
use Rattle.std.specs.Prelude.{Option, Some, None}
use Rattle.pll.proofs.Outputs.{inside_told, inside_test}

-- ---- two numbers in order, one way or the other
split' : (a b : ℕ) (t : Bool) → ltb a b ≡ t → (a < b) ⊎ (b ≤ a)
split' a b true e = inl (ltb-true a b e)
split' a b false e = inr (ltb-false a b e)

pub split : (a b : ℕ) → (a < b) ⊎ (b ≤ a)
split a b = split' a b (ltb a b) refl

-- ---- a quotient's bounds as products
pub at_least : (f m x : ℕ) → 0 < m → x ≤ f / m → x * m ≤ f
at_least f m x h a = (le-div_iff_mul-le h).0 a

pub less_than : (f m x : ℕ) → 0 < m → f / m < x → f < x * m
less_than f m x h a = (div-lt_iff_lt-mul h).0 a

pub quotient_least : (f m x : ℕ) → 0 < m → x * m ≤ f → x ≤ f / m
quotient_least f m x h a = (le-div_iff_mul-le h).1 a

pub quotient_below : (f m x : ℕ) → 0 < m → f < x * m → f / m < x
quotient_below f m x h a = (div-lt_iff_lt-mul h).1 a

-- ---- a list of dividers that falls and has no 0, as a test that computes
abbrev under : ℕ → List ℕ → Bool
under d [] = true
under d (e ∷ es) = leb e d && under d es

abbrev pub falling : List ℕ → Bool
falling [] = true
falling (d ∷ ds) = ltb 0 d && (under d ds && falling ds)

and_left : (a b : Bool) → T (a && b) → T a
and_left true b t = tt
and_left false b t = t

and_right : (a b : Bool) → T (a && b) → T b
and_right true b t = t
and_right false b t = absurd t

module _ (d : ℕ) (ds : List ℕ) (fa : T (falling (d ∷ ds))) where
  head_pos : 0 < d
  head_pos = leb→le 1 d (and_left (ltb 0 d) (under d ds && falling ds) fa)

  head_under : T (under d ds)
  head_under = and_left (under d ds) (falling ds) (and_right (ltb 0 d) (under d ds && falling ds) fa)

  tail_falls : T (falling ds)
  tail_falls = and_right (under d ds) (falling ds) (and_right (ltb 0 d) (under d ds && falling ds) fa)

under_le : (d : ℕ) (es : List ℕ) → T (under d es) → (x : ℕ) → Among x es → x ≤ d
under_le d [] t x h = absurd h
under_le d (e ∷ es) t x (inl h) = subst (λ (y : ℕ). y ≤ d) (sym h) (leb→le e d (and_left (leb e d) (under d es) t))
under_le d (e ∷ es) t x (inr h) = under_le d es (and_right (leb e d) (under d es) t) x h

-- the head is the largest
head_largest : (d : ℕ) (ds : List ℕ) → T (falling (d ∷ ds)) → (x : ℕ) → Among x (d ∷ ds) → x ≤ d
head_largest d ds fa x (inl a) = omega arith
head_largest d ds fa x (inr a) = under_le d ds (head_under d ds fa) x a

among_pos : (ds : List ℕ) → T (falling ds) → (x : ℕ) → Among x ds → 0 < x
among_pos [] fa x h = absurd h
among_pos (d ∷ ds) fa x (inl h) = subst (λ (y : ℕ). 0 < y) (sym h) (head_pos d ds fa)
among_pos (d ∷ ds) fa x (inr h) = among_pos ds (tail_falls d ds fa) x h

-- ---- the first divider that fits: at the list's head, or further on
first_here : (d : ℕ) (ds : List ℕ) (lo hi v : ℕ) → inside lo hi (v / d) ≡ true → first (d ∷ ds) lo hi v ≡ Some (Some (record { 0 = d }))
unfolding first
first_here d ds lo hi v e = ap (λ (b : Bool). elim b [ true ↦ Some (Some (record { 0 = d })) | false ↦ first ds lo hi v ]) e

first_next : (d : ℕ) (ds : List ℕ) (lo hi v : ℕ) → inside lo hi (v / d) ≡ false → first (d ∷ ds) lo hi v ≡ first ds lo hi v
unfolding first
first_next d ds lo hi v e = ap (λ (b : Bool). elim b [ true ↦ Some (Some (record { 0 = d })) | false ↦ first ds lo hi v ]) e

data FirstView (ds : List ℕ) (lo hi v : ℕ) : Option (Option Divider) → Type 0 where
  none_fits : ((d : ℕ) → Among d ds → Hits lo hi v d → ⊥) → FirstView ds lo hi v None
  largest_fits : (e : Divider) → Among e.0 ds → Hits lo hi v e.0 → ((d : ℕ) → Among d ds → Hits lo hi v d → d ≤ e.0) → FirstView ds lo hi v (Some (Some e))

module _ (d : ℕ) (ds : List ℕ) (lo hi v : ℕ) (fa : T (falling (d ∷ ds))) where
  view_here : inside lo hi (v / d) ≡ true → FirstView (d ∷ ds) lo hi v (first (d ∷ ds) lo hi v)
  view_here e =
      let h = inside_told lo hi (v / d) e in
      rw (first_here d ds lo hi v e)
      (largest_fits (record { 0 = d }) (inl refl) (record { low = h.0; high = h.1 }) (λ x a _. head_largest d ds fa x a))

  view_next : inside lo hi (v / d) ≡ false → FirstView ds lo hi v (first ds lo hi v) → FirstView (d ∷ ds) lo hi v (first (d ∷ ds) lo hi v)
  view_next e w = rw (first_next d ds lo hi v e) (onward (first ds lo hi v) w)
    where
      not_here : Hits lo hi v d → ⊥
      not_here h = true≢false (sym (inside_test lo hi (v / d) h.low h.high) ∙ e)

      onward : (s : Option (Option Divider)) → FirstView ds lo hi v s → FirstView (d ∷ ds) lo hi v s
      onward None (none_fits g) =
          none_fits (λ x a h. ⊎_elim (λ (b : x ≡ d). not_here (subst (λ (y : ℕ). Hits lo hi v y) b h)) (λ (b : Among x ds). g x b h) a)
      onward (Some (Some r)) (largest_fits r₁ a h g) =
          largest_fits r (inr a) h (λ x b k. ⊎_elim (λ (y : x ≡ d). absurd (not_here (subst (λ (z : ℕ). Hits lo hi v z) y k))) (λ (y : Among x ds). g x y k) b)
      onward (Some None) x = elim x [ ]

  view_cons : FirstView ds lo hi v (first ds lo hi v) → (t : Bool) → inside lo hi (v / d) ≡ t → FirstView (d ∷ ds) lo hi v (first (d ∷ ds) lo hi v)
  view_cons w true e = view_here e
  view_cons w false e = view_next e w

first_view : (ds : List ℕ) (lo hi v : ℕ) → T (falling ds) → FirstView ds lo hi v (first ds lo hi v)
unfolding first
first_view [] lo hi v fa = none_fits (λ d a h. a)
first_view (d ∷ ds) lo hi v fa = view_cons d ds lo hi v fa (first_view ds lo hi v (tail_falls d ds fa)) (inside lo hi (v / d)) refl

-- ---- what seeking comes to
pub data SeekView (ds : List ℕ) (w : Option Window) (v : ℕ) : Option (Option Divider) → Type 0 where
  missed : (Fitting ds w v → ⊥) → SeekView ds w v None
  had : (a : Option Divider) → Chosen ds w v a → SeekView ds w v (Some a)

pub seek_view : (ds : List ℕ) (w : Option Window) (v : ℕ) → T (falling ds) → SeekView ds w v (seek ds w v)
unfolding seek
seek_view ds None v fa = had None refl
seek_view ds (Some w) v fa = from (first ds w.lo.0 w.hi.0 v) (first_view ds w.lo.0 w.hi.0 v fa)
  where
    from : (s : Option (Option Divider)) → FirstView ds w.lo.0 w.hi.0 v s → SeekView ds (Some w) v s
    from None (none_fits g) = missed (λ x. g x.0 x.1 x.2)
    from (Some (Some r)) (largest_fits r₁ a h g) = had (Some r) (r, refl, a, h, g)
    from (Some None) x = elim x [ ]

pub chosen_fits : (ds : List ℕ) (w : Option Window) (v : ℕ) (s : Option Divider) → Chosen ds w v s → Fitting ds w v
chosen_fits ds None v s h = tt
chosen_fits ds (Some w) v s h = (h.0.0, h.2, h.3)

-- ---- the largest divider that is not below the window
pub highest_here : (d : ℕ) (ds : List ℕ) (lo v : ℕ) → lo * d ≤ v → highest (d ∷ ds) lo v ≡ d
unfolding highest
highest_here d ds lo v h = simp (le-leb _ _ h)

pub highest_next : (d : ℕ) (ds : List ℕ) (lo v : ℕ) → v < lo * d → highest (d ∷ ds) lo v ≡ highest ds lo v
unfolding highest
highest_next d ds lo v h = simp (lt-leb _ _ h)

-- where the head is below the window, a divider that is not is further on
further : (d : ℕ) (ds : List ℕ) (lo v x : ℕ) → Among x (d ∷ ds) → lo * x ≤ v → v < lo * d → Among x ds
further d ds lo v x (inl e) h b = absurd (let g : lo * d ≤ v = subst (λ (y : ℕ). lo * y ≤ v) e h in omega arith)
further d ds lo v x (inr e) h b = e

highest_top : (ds : List ℕ) (lo v : ℕ) → T (falling ds) → (x : ℕ) → Among x ds → lo * x ≤ v → x ≤ highest ds lo v
highest_top [] lo v fa x a h = absurd a
highest_top (d ∷ ds) lo v fa x a h =
    ⊎_elim (λ (b : v < lo * d). rw (highest_next d ds lo v b) (highest_top ds lo v (tail_falls d ds fa) x (further d ds lo v x a h b) h))
    (λ (b : lo * d ≤ v). rw (highest_here d ds lo v b) (head_largest d ds fa x a))
    (split v (lo * d))

pub highest_is : (ds : List ℕ) (lo v d : ℕ) → T (falling ds) → Among d ds → lo * d ≤ v → ((x : ℕ) → Among x ds → lo * x ≤ v → x ≤ d) → highest ds lo v ≡ d
highest_is [] lo v d fa a h top = absurd a
highest_is (e ∷ es) lo v d fa a h top =
    ⊎_elim (λ (b : v < lo * e). highest_next e es lo v b ∙ highest_is es lo v d (tail_falls e es fa) (further e es lo v d a h b) h (λ x g k. top x (inr g) k))
    (λ (b : lo * e ≤ v). highest_here e es lo v b ∙ (let g = top e (inl refl) b in let k = head_largest e es fa d a in omega arith))
    (split v (lo * e))

pub highest_none : (ds : List ℕ) (lo v : ℕ) → ((x : ℕ) → Among x ds → v < lo * x) → highest ds lo v ≡ 0
unfolding highest
highest_none [] lo v all = refl
highest_none (d ∷ ds) lo v all = highest_next d ds lo v (all d (inl refl)) ∙ highest_none ds lo v (λ x a. all x (inr a))

-- ---- by it, what the first divider that fits is
module _ (hi d v : ℕ) where
  pub fits : v < (hi + 1) * d → fit hi d v ≡ Some (Some (record { 0 = d }))
  unfolding fit
  fits h = simp (lt-ltb _ _ h)

  pub too_far : (hi + 1) * d ≤ v → fit hi d v ≡ None
  unfolding fit
  too_far h = simp (le-ltb _ _ h)

-- a divider that puts v above the window, or below it
outside_above : (lo hi v d : ℕ) → 0 < d → (hi + 1) * d ≤ v → inside lo hi (v / d) ≡ false
outside_above lo hi v d pos h = let g = quotient_least v d (hi + 1) pos h in either (leb lo (v / d)) (lt-leb (v / d) hi (omega arith))
  where
    either : (t : Bool) → leb (v / d) hi ≡ false → t && leb (v / d) hi ≡ false
    either true e = e
    either false e = refl

outside_below : (lo hi v d : ℕ) → 0 < d → v < lo * d → inside lo hi (v / d) ≡ false
outside_below lo hi v d pos h = let g = quotient_below v d lo pos h in simp (lt-leb _ _ g)

inside_both : (lo hi v d : ℕ) → 0 < d → lo * d ≤ v → v < (hi + 1) * d → inside lo hi (v / d) ≡ true
inside_both lo hi v d pos a b =
    let h = quotient_below v d (hi + 1) pos b in
    inside_test lo hi (v / d) (quotient_least v d lo pos a) (omega arith)

-- where a divider puts v above the window, so does each smaller one
all_above : (ds : List ℕ) (lo hi v d : ℕ) → T (under d ds) → T (falling ds) → (hi + 1) * d ≤ v → first ds lo hi v ≡ None
unfolding first
all_above [] lo hi v d u fa h = refl
all_above (e ∷ es) lo hi v d u fa h =
    let g : (hi + 1) * e ≤ (hi + 1) * d = mul-le-mul_left (hi + 1) (leb→le e d (and_left (leb e d) (under d es) u)) in
    first_next e es lo hi v (outside_above lo hi v e (head_pos e es fa) (le_trans g h))
    ∙ all_above es lo hi v d (and_right (leb e d) (under d es) u) (tail_falls e es fa) h

first_fit : (ds : List ℕ) (lo hi v : ℕ) → T (falling ds) → first ds lo hi v ≡ fit hi (highest ds lo v) v
unfolding first highest
first_fit [] lo hi v fa = sym (too_far hi 0 v (omega arith))
first_fit (d ∷ ds) lo hi v fa =
    ⊎_elim (λ (a : v < lo * d). first_next d ds lo hi v (outside_below lo hi v d pos a) ∙ first_fit ds lo hi v (tail_falls d ds fa) ∙ sym (rw (highest_next d ds lo v a)))
    (λ (a : lo * d ≤ v). at_head a ∙ sym (rw (highest_here d ds lo v a)))
    (split v (lo * d))
  where
    pos : 0 < d
    pos = head_pos d ds fa

    at_head : lo * d ≤ v → first (d ∷ ds) lo hi v ≡ fit hi d v
    at_head a =
        ⊎_elim (λ (b : v < (hi + 1) * d). first_here d ds lo hi v (inside_both lo hi v d pos a b) ∙ sym (fits hi d v b))
        (λ (b : (hi + 1) * d ≤ v). first_next d ds lo hi v (outside_above lo hi v d pos b) ∙ all_above ds lo hi v d (head_under d ds fa) (tail_falls d ds fa) b ∙ sym (too_far hi d v b))
        (split v ((hi + 1) * d))

-- ---- each VCO up to v that fits lies below the window's end
pub end_bound : (ds : List ℕ) (w : Option Window) (v x : ℕ) → T (falling ds) → x ≤ v → x < 432000001 → Fitting ds w x → x < end ds w v
unfolding end
end_bound ds None v x fa le top h = top
end_bound ds (Some w) v x fa le top h =
    let d = h.0 in
    let pos = among_pos ds fa d h.1 in
    let a : w.lo.0 * d ≤ x = at_least x d w.lo.0 pos h.2.low in
    let b : x < (w.hi.0 + 1) * d = less_than x d (w.hi.0 + 1) pos (omega (arith, h.2.high)) in
    let g : (w.hi.0 + 1) * d ≤ (w.hi.0 + 1) * highest ds w.lo.0 v = mul-le-mul_left (w.hi.0 + 1) (highest_top ds w.lo.0 v fa d h.1 (omega arith)) in
    omega arith

-- ---- the Q dividers are the numbers from 15 down to 2
abbrev down : ℕ → List ℕ
down zero = []
down (suc zero) = []
down (suc (suc k)) = suc (suc k) ∷ down (suc k)

in_down : (k d : ℕ) → 2 ≤ d → d ≤ k → Among d (down k)
in_down zero d a b = absurd (omega arith)
in_down (suc zero) d a b = absurd (omega arith)
in_down (suc (suc k)) d a b =
    ⊎_elim (λ (h : d < suc (suc k)). inr (in_down (suc k) d a (omega arith))) (λ (h : suc (suc k) ≤ d). inl (omega arith)) (split d (suc (suc k)))

down_low : (k d : ℕ) → Among d (down k) → 2 ≤ d
down_low zero d h = absurd h
down_low (suc zero) d h = absurd h
down_low (suc (suc k)) d (inl h) = omega arith
down_low (suc (suc k)) d (inr h) = down_low (suc k) d h

-- the largest Q that is not below the window, by one division
module _ (lo v : ℕ) where
  pub highest_q_top : lo * 15 ≤ v → 15 ≡ highest q_dividers lo v
  highest_q_top a = sym (highest_here 15 _ lo v a)

  pub highest_q_small : v < lo * 15 → v / lo < 15
  highest_q_small a = let pos : 0 < lo = omega arith in (div-lt_iff_lt-mul pos).1 (rw (mul_comm 15 lo) a)

  pub highest_q_quotient : v < lo * 15 → 2 ≤ v / lo → v / lo ≡ highest q_dividers lo v
  highest_q_quotient a b =
      let pos : 0 < lo = omega arith in
      let t = highest_q_small a in
      sym (highest_is q_dividers lo v (v / lo) tt (in_down 15 (v / lo) b (omega arith)) (mul-div-le v lo) (λ x g h. (le-div_iff_mul-le pos).1 (rw (mul_comm x lo) h)))

  pub highest_q_none : v < lo * 15 → v / lo < 2 → 0 ≡ highest q_dividers lo v
  highest_q_none a b =
      let pos : 0 < lo = omega arith in
      sym (highest_none q_dividers lo v (λ x g. rw (mul_comm lo x) ((div-lt_iff_lt-mul pos).0 (let h = down_low 15 x g in omega arith))))

pub ruleset highest_q = (highest_q_top, highest_q_quotient, highest_q_none)

-- ---- both lists fall
dividers_fall : (s : Side) → T (falling (dividers_of s))
dividers_fall P = tt
dividers_fall Q = tt

pub side_fit : (s : Side) (lo hi v : ℕ) → first (dividers_of s) lo hi v ≡ fit hi (highest (dividers_of s) lo v) v
side_fit s lo hi v = first_fit (dividers_of s) lo hi v (dividers_fall s)
