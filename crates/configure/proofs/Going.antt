-- `configured_of` goes one of document 01's five ways: window by window, then by what the search finds.
use Prim.Native.Nat.{ℕ}
use mathlib.Core.Path.{◌≡◌, refl, subst}
use mathlib.Core.Bool.{Bool, true, false, cond}
use lib.Dec.{eqb}
use native.Mathlib.Omega.{arith}
use Rattle.std.specs.Prelude.{Option, Some, None, Result, Ok, Err}
use borrow.Author.Tests.{eqb-true, eqb-false}
use Rattle.kinds.specs.Limits.{check_of}
use Rattle.kinds.specs.Refusals.{refusal_of}
use Rattle.kinds.specs.Table.{Checked}
use Rattle.kinds.proofs.Check.{check_told}
use Rattle.kinds.specs.declared.CFGR.{CFGR}
use Rattle.pll.specs.Walk.{search_of}
use Rattle.pll.specs.Good.{SomeWindow, Answer}
use Rattle.pll.specs.declared.Window.{Window}
use Rattle.pll.specs.declared.Pair.{Pair}
use Rattle.pll.specs.declared.Miss.{Miss}
use Rattle.pll.specs.declared.Miss.TheVariants.{BadInput, Nothing}
use Rattle.pll.proofs.Theorems.{answer_is_right}
use Rattle.pll.specs.Outputs.{p_output_of}
use Rattle.configure.specs.Configure.{refuse, taken_of, kept_of, settled_of, base_in, wanted_in, p_window_in, q_window_in, fits_in, chosen_of, configured_of}
use Rattle.configure.specs.Ways.{search_in, Seeks, Ways, refused, unneeded, fitting, missed, found}
use Rattle.configure.proofs.Configuring.{base_range}

base_in_lem : (c : CFGR) → Checked c → search_in c ≡ Err BadInput → ⊥
unfolding base_in
base_in_lem c k e = (subst (λ (z : Result Pair Miss). Answer (base_in c) (p_window_in c) (q_window_in c) z) e (answer_is_right (base_in c) (p_window_in c) (q_window_in c))) (base_range c k)

-- without a window nothing is sought
pub no_window : (p q : Option Window) → p ≡ None → q ≡ None → SomeWindow p q → ⊥
no_window p q a b s = subst (λ (z : Option Window). SomeWindow None z) b (subst (λ (z : Option Window). SomeWindow z q) a s)

module _ (c : CFGR) where
  taken_way : Seeks c → (f : Result Pair Miss) → search_in c ≡ f → Ways c (taken_of c f)
  unfolding taken_of
  taken_way s (Ok r) e = found s e
  taken_way s (Err BadInput) e = absurd (base_in_lem c s.checked e)
  taken_way s (Err (Nothing k)) e = missed s e

  fits_true : fits_in c ≡ true → wanted_in c ≡ p_output_of c
  unfolding fits_in
  fits_true e = eqb-true (wanted_in c) (p_output_of c) e

  fits_false : fits_in c ≡ false → wanted_in c ≡ p_output_of c → ⊥
  unfolding fits_in
  fits_false e = eqb-false (wanted_in c) (p_output_of c) e

  some : (p q : Option Window) → p_window_in c ≡ p → q_window_in c ≡ q → SomeWindow p q → SomeWindow (p_window_in c) (q_window_in c)
  some p q a b s = rw (a, b) s

  search_at : (p q : Option Window) → p_window_in c ≡ p → q_window_in c ≡ q → search_in c ≡ search_of (base_in c) p q
  search_at p q a b = rw (a, b)

  settled_way : Checked c → (p q : Option Window) → p_window_in c ≡ p → q_window_in c ≡ q → (t : Bool) → fits_in c ≡ t → Ways c (settled_of c (base_in c) p q t)
  unfolding settled_of kept_of
  settled_way k None None a b t e = unneeded k a b
  settled_way k (Some w) None a b true e = fitting k (some (Some w) None a b tt) b (fits_true e)
  settled_way k (Some w) None a b false e =
      taken_way (record { checked = k; sought = some (Some w) None a b tt; unfit = λ z. fits_false e }) _ (search_at (Some w) None a b)
  settled_way k None (Some w) a b t e =
      taken_way (record { checked = k; sought = some None (Some w) a b tt; unfit = λ z. absurd (let y : ◌≡◌ {A = ℕ} 0 1 = cc in omega arith) }) _ (search_at None (Some w) a b)
  settled_way k (Some v) (Some w) a b t e =
      taken_way (record { checked = k; sought = some (Some v) (Some w) a b tt; unfit = λ z. absurd (let y : ◌≡◌ {A = ℕ} 0 1 = cc in omega arith) }) _ (search_at (Some v) (Some w) a b)

  pub configured_way : Ways c (configured_of c)
  unfolding configured_of chosen_of
  configured_way = from (eqb (check_of c) 0) refl
    where
      from : (t : Bool) → eqb (check_of c) 0 ≡ t → Ways c (cond t (chosen_of c) (refuse (refusal_of (check_of c)) 0))
      from true a = settled_way (check_told c (eqb-true (check_of c) 0 a)) (p_window_in c) (q_window_in c) refl refl (fits_in c) refl
      from false a = refused (eqb-false (check_of c) 0 a)
