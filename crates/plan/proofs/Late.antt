-- `late_refusal` is the first in turn of 9 to 11 that are given: first PLLSAI, then PLLI2S, then both.
use Prim.Native.Nat.{ℕ, ◌/◌, ◌≤◌}
use mathlib.Core.Path.{◌≡◌, refl}
use mathlib.Core.Logic.{inl, inr}
use mathlib.Core.Bool.{Bool, true, false, cond}
use native.Mathlib.Omega.{arith}
use Rattle.kinds.specs.Config.{input_of}
use Rattle.kinds.specs.Codes.{p_divider_of}
use Rattle.kinds.specs.Limits.{outside_of, first_refusal}
use Rattle.kinds.specs.Table.{Between, Outside}
use Rattle.kinds.specs.Turns.{turn_of, First, none, first, OneOf}
use Rattle.kinds.proofs.Check.{Told, inside, broken, outside_told}
use Rattle.kinds.specs.declared.CFGR.{CFGR}
use Rattle.plan.specs.Plan.{sai_late, i2s_late, late_refusal}
use Rattle.plan.specs.Refusals.{rough_in, SaiVco, SaiP, I2sVco, Late, sai_vco, sai_p, i2s_vco, late_numbers}

unused : (t : Bool) → t ≡ false → t ≡ true → ⊥
unused t a b = let z : ◌≡◌ {A = ℕ} 0 1 = cc in omega arith

module _ (d : CFGR) where
  data SaiView : ℕ → Type 0 where
    fine : (SaiVco d → ⊥) → (SaiP d → ⊥) → SaiView 0
    vco : SaiVco d → SaiView 9
    above : (SaiVco d → ⊥) → SaiP d → SaiView 10

  data I2sView : ℕ → Type 0 where
    fine : (I2sVco d → ⊥) → I2sView 0
    vco : I2sVco d → I2sView 11

  abbrev sai_vco_of : ℕ
  sai_vco_of = rough_in d d.sai.n.0

  sai_view : SaiView (sai_late (input_of d.sources.hse) d.pll.m.0 d.sai)
  unfolding sai_late first_refusal
  sai_view = from d.sai.use_pllsai refl
    where
      at : d.sai.use_pllsai ≡ true → (a b : ℕ) → Told (Between 192000000 432000000 sai_vco_of) (Outside 192000000 432000000 sai_vco_of) 9 a
          → Told (Between 0 48000000 (sai_vco_of / p_divider_of d.sai.p)) (Outside 0 48000000 (sai_vco_of / p_divider_of d.sai.p)) 10 b → SaiView (first_refusal a b)
      at u a b (inside p f) (inside q g) = fine (λ x. f x.1) (λ x. g (inr x.1))
      at u a b (inside p f) (broken (inl q) g) = absurd (omega arith)
      at u a b (inside p f) (broken (inr q) g) = above (λ x. f x.1) (u, q)
      at u a b (broken q g) y = vco (u, q)

      from : (t : Bool) → d.sai.use_pllsai ≡ t → SaiView (cond t (first_refusal (outside_of 192000000 432000000 9 sai_vco_of) (outside_of 0 48000000 10 (sai_vco_of / p_divider_of d.sai.p))) 0)
      from true u = at u _ _ (outside_told 192000000 432000000 9 sai_vco_of) (outside_told 0 48000000 10 (sai_vco_of / p_divider_of d.sai.p))
      from false u = fine (λ x. unused d.sai.use_pllsai u x.0) (λ x. unused d.sai.use_pllsai u x.0)

  abbrev i2s_vco_of : ℕ
  i2s_vco_of = rough_in d d.i2s.n.0

  i2s_view : I2sView (i2s_late (input_of d.sources.hse) d.pll.m.0 d.i2s)
  unfolding i2s_late
  i2s_view = from d.i2s.use_plli2s refl
    where
      at : d.i2s.use_plli2s ≡ true → (a : ℕ) → Told (Between 192000000 432000000 i2s_vco_of) (Outside 192000000 432000000 i2s_vco_of) 11 a → I2sView a
      at u a (inside p f) = fine (λ x. f x.1)
      at u a (broken q g) = vco (u, q)

      from : (t : Bool) → d.i2s.use_plli2s ≡ t → I2sView (cond t (outside_of 192000000 432000000 11 i2s_vco_of) 0)
      from true u = at u _ (outside_told 192000000 432000000 11 i2s_vco_of)
      from false u = fine (λ x. unused d.i2s.use_plli2s u x.0)

  both : (a b : ℕ) → SaiView a → I2sView b → First (Late d) (first_refusal a b)
  unfolding first_refusal turn_of
  both a b (fine f g) (fine h) = none (λ n x. from n x)
    where
      from : (n : ℕ) → Late d n → ⊥
      from n (sai_vco x) = f x
      from n (sai_p x) = g x
      from n (i2s_vco x) = h x
  both a b (fine f g) (vco x) = first (i2s_vco x) (λ n y. from n y)
    where
      from : (n : ℕ) → Late d n → turn_of 11 ≤ turn_of n
      from n (sai_vco x) = absurd (f x)
      from n (sai_p x) = absurd (g x)
      from n (i2s_vco x) = omega arith
  both a b (vco x) y = first (sai_vco x) (λ n z. from n z)
    where
      from : (n : ℕ) → Late d n → turn_of 9 ≤ turn_of n
      from n (sai_vco x) = omega arith
      from n (sai_p x) = omega arith
      from n (i2s_vco x) = omega arith
  both a b (above f x) y = first (sai_p x) (λ n z. from n z)
    where
      from : (n : ℕ) → Late d n → turn_of 10 ≤ turn_of n
      from n (sai_vco x) = absurd (f x)
      from n (sai_p x) = omega arith
      from n (i2s_vco x) = omega arith

  -- each of them is one of its list
  pub late_number : (n : ℕ) → Late d n → OneOf late_numbers n
  late_number n (sai_vco x) = tt
  late_number n (sai_p x) = tt
  late_number n (i2s_vco x) = tt

  pub late_first : First (Late d) (late_refusal d)
  unfolding late_refusal
  late_first = both _ _ sai_view i2s_view
