-- What the output of settings as they stand comes to, by the tests on them; each case is read off the definition, then all are put into one view.
use Prim.Native.Nat.{ℕ, ◌≤◌}
use mathlib.Core.Path.{◌≡◌, refl, sym, ◌∙◌}
use mathlib.Core.Bool.{Bool, true, false, true≢false, ◌&&◌}
use lib.Dec.{leb}
use borrow.Author.Tests.{leb-true, le-leb}
use Rattle.pll.specs.Fixed.{inside, InputOk, SettingsOk, vco_of, out_of, output_of}
use Rattle.kinds.specs.declared.refusals.Refusal.{Refusal}
use Rattle.kinds.specs.declared.refusals.Refusal.TheVariants.{Hse, Settings}
use Rattle.std.specs.Prelude.{Result, Ok, Err}

both : (s t : Bool) → s && t ≡ true → (s ≡ true) × (t ≡ true)
both true true h = (refl, refl)
both true false h = absurd (true≢false (sym h))
both false t h = absurd (true≢false (sym h))

-- a test that is another, and its answer
pub passed : {r t : Bool} → r ≡ t → r ≡ true → t ≡ true
passed a b = sym a ∙ b

pub failed : {r t : Bool} → r ≡ t → r ≡ false → t ≡ false
failed a b = sym a ∙ b

-- a test that x lies between lo and hi, as two facts and back
pub inside_told : (lo hi x : ℕ) → inside lo hi x ≡ true → (lo ≤ x) × (x ≤ hi)
inside_told lo hi x e = let h = both (leb lo x) (leb x hi) e in (leb-true lo x h.0, leb-true x hi h.1)

pub inside_test : (lo hi x : ℕ) → lo ≤ x → x ≤ hi → inside lo hi x ≡ true
inside_test lo hi x a b = simp (le-leb _ _ a, le-leb _ _ b)

-- the test of settings, as what document 01 says of them and back
pub settings_told : (m n d : ℕ) → inside 2 63 m && inside 50 432 n && inside 2 15 d ≡ true → SettingsOk m n d
settings_told m n d e =
    let r = both (inside 2 63 m && inside 50 432 n) (inside 2 15 d) e in
    let s = both (inside 2 63 m) (inside 50 432 n) r.0 in
    let x = inside_told 2 63 m s.0 in
    let y = inside_told 50 432 n s.1 in
    let z = inside_told 2 15 d r.1 in
    record { m_low = x.0; m_high = x.1; n_low = y.0; n_high = y.1; d_low = z.0; d_high = z.1 }

settings_test : (m n d : ℕ) → SettingsOk m n d → inside 2 63 m && inside 50 432 n && inside 2 15 d ≡ true
settings_test m n d s = rw (inside_test 2 63 m s.m_low s.m_high, inside_test 50 432 n s.n_low s.n_high, inside_test 2 15 d s.d_low s.d_high)

pub input_told : (f : ℕ) → inside 1000000 50000000 f ≡ true → InputOk f
input_told f e = let h = inside_told 1000000 50000000 f e in record { low = h.0; high = h.1 }

input_test : (f : ℕ) → InputOk f → inside 1000000 50000000 f ≡ true
input_test f i = inside_test 1000000 50000000 f i.low i.high

-- how an output comes about
pub data OutputView (f m n d : ℕ) : Result ℕ Refusal → Type 0 where
  input_bad : (InputOk f → ⊥) → OutputView f m n d (Err Hse)
  setting_bad : InputOk f → (SettingsOk m n d → ⊥) → OutputView f m n d (Err Settings)
  given : InputOk f → SettingsOk m n d → OutputView f m n d (Ok (out_of (vco_of f n m) d))

module _ (f m n d : ℕ) where
  by_tests : (s t : Bool) → inside 1000000 50000000 f ≡ s → (inside 2 63 m && inside 50 432 n && inside 2 15 d) ≡ t → OutputView f m n d (output_of f m n d)
  unfolding output_of
  by_tests false t a b = rw a (input_bad (λ i. true≢false (sym (input_test f i) ∙ a)))
  by_tests true false a b = rw (a, b) (setting_bad (input_told f a) (λ s. true≢false (sym (settings_test m n d s) ∙ b)))
  by_tests true true a b = rw (a, b) (given (input_told f a) (settings_told m n d b))

  pub output_view : OutputView f m n d (output_of f m n d)
  output_view = by_tests (inside 1000000 50000000 f) (inside 2 63 m && inside 50 432 n && inside 2 15 d) refl refl
