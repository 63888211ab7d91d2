-- What is promised of `pll_configure`, for every configuration; each is read off the five ways.
use Prim.Native.Nat.{ℕ, ◌≤◌}
use mathlib.Core.Path.{◌≡◌, refl, sym, ◌∙◌, subst}
use mathlib.Core.Logic.{⊎_elim, ◌↔◌}
use mathlib.Core.Bool.{true}
use mathlib.Core.List.{◌∷◌}
use native.Mathlib.Omega.{arith}
use Rattle.std.specs.Prelude.{None, Result, Ok, Err}
use Rattle.kinds.specs.Limits.{check_of}
use Rattle.kinds.specs.Table.{limit_numbers, Checked}
use Rattle.kinds.specs.Turns.{OneOf}
use Rattle.kinds.proofs.Turns.{wider, none_is}
use Rattle.kinds.proofs.Check.{told_check, check_gives_only}
use Rattle.kinds.proofs.Numbered.{check_numbered}
use Rattle.kinds.specs.declared.CFGR.{CFGR}
use Rattle.pll.specs.Numbers.{passes_of as search_passes}
use Rattle.pll.specs.Good.{Answer}
use Rattle.pll.specs.declared.Pair.{Pair}
use Rattle.pll.specs.declared.Miss.{Miss}
use Rattle.pll.specs.declared.Miss.TheVariants.{Nothing}
use Rattle.pll.proofs.Theorems.{answer_is_right}
use Rattle.pll.specs.Outputs.{p_output_of}
use Rattle.configure.specs.Configure.{ready, off_of, base_in, wanted_in, p_window_in, q_window_in, configured_of, number_of, passes_of}
use Rattle.configure.specs.Ways.{search_in, Seeks, gives, Ways, refused, unneeded, fitting, missed, found, NoneGood, configure_numbers, Settles, Near, Keeps}
use Rattle.configure.specs.declared.Configured.{Configured}
use Rattle.configure.specs.declared.Unplanned.{Unplanned}
use Rattle.configure.proofs.Configuring.{wanted_between}
use Rattle.configure.proofs.Going.{configured_way, no_window}
use Rattle.configure.proofs.Taking.{best, found_checked, found_output, taken_48}
use Rattle.configure.proofs.Near.{p_window_is, found_near}
use Rattle.configure.proofs.Again.{off_again, same_again, found_again}

none_good : (c : CFGR) {k : ℕ} → search_in c ≡ Err (Nothing k) → NoneGood c
none_good c e = (subst (λ (z : Result Pair Miss). Answer (base_in c) (p_window_in c) (q_window_in c) z) e (answer_is_right (base_in c) (p_window_in c) (q_window_in c))).1

-- ---- when it refuses
module _ (c : CFGR) where
  -- with a number of the check exactly as the check does
  pub refuses_as_the_check : (n : ℕ) → OneOf limit_numbers n → (number_of (configured_of c) ≡ n) ↔ (check_of c ≡ n)
  refuses_as_the_check n o = cases (configured_of c) (configured_way c)
    where
      not_0 : 0 ≡ n → ⊥
      not_0 e = none_is 0 limit_numbers tt n o (sym e)

      not_7 : 7 ≡ n → ⊥
      not_7 e = none_is 7 limit_numbers tt n o (sym e)

      kept : Checked c → check_of c ≡ n → ⊥
      kept h e = not_0 (sym (told_check c h) ∙ e)

      cases : (r : Result Configured Unplanned) → Ways c r → (number_of r ≡ n) ↔ (check_of c ≡ n)
      cases (Err u) (refused a) = rw (check_numbered c a) (λ e. e, λ e. e)
      cases (Err u) (missed s a) = (λ e. absurd (not_7 e), λ e. absurd (kept s.checked e))
      cases (Ok d) (unneeded h p q) = (λ e. absurd (not_0 e), λ e. absurd (kept h e))
      cases (Ok d) (fitting h s q f) = (λ e. absurd (not_0 e), λ e. absurd (kept h e))
      cases (Ok d) (found s a) = (λ e. absurd (not_0 e), λ e. absurd (kept s.checked e))

  -- with 7 exactly if the search runs and no pair is good
  pub refuses_with_7_exactly : (number_of (configured_of c) ≡ 7) ↔ (Seeks c × NoneGood c)
  refuses_with_7_exactly = cases (configured_of c) (configured_way c)
    where
      cases : (r : Result Configured Unplanned) → Ways c r → (number_of r ≡ 7) ↔ (Seeks c × NoneGood c)
      cases (Err u) (refused a) = rw (check_numbered c a) (λ e. absurd (none_is 7 (0 ∷ limit_numbers) tt (check_of c) (check_gives_only c) e), λ h. absurd (a (told_check c h.0.checked)))
      cases (Err u) (missed s a) = (λ e. (s, none_good c a), λ h. refl)
      cases (Ok d) (unneeded h p q) = (λ e. absurd (omega arith), λ w. absurd (no_window (p_window_in c) (q_window_in c) p q w.0.sought))
      cases (Ok d) (fitting h s q f) = (λ e. absurd (omega arith), λ w. absurd (w.0.unfit q f))
      cases (Ok d) (found {r = r} s a) =
          (λ e. absurd (omega arith), λ w. absurd (w.1 r.m.0 r.n.0 (best c r a).good))

  -- and with no other number
  pub configure_gives_only : OneOf (0 ∷ configure_numbers) (number_of (configured_of c))
  configure_gives_only = cases (configured_of c) (configured_way c)
    where
      cases : (r : Result Configured Unplanned) → Ways c r → OneOf (0 ∷ configure_numbers) (number_of r)
      cases (Err u) (refused a) = rw (check_numbered c a) (wider (0 ∷ limit_numbers) (0 ∷ configure_numbers) tt (check_of c) (check_gives_only c))
      cases (Err u) (missed s a) = tt
      cases (Ok d) w = tt

  -- ---- its passes: those of the search where it runs, whatever it finds
  pub passes_are_the_search's : Seeks c → passes_of (configured_of c) ≡ search_passes (search_in c)
  passes_are_the_search's w = cases (configured_of c) (configured_way c)
    where
      cases : (r : Result Configured Unplanned) → Ways c r → passes_of r ≡ search_passes (search_in c)
      cases (Err u) (refused a) = absurd (a (told_check c w.checked))
      cases (Err u) (missed s a) = rw a
      cases (Ok d) (unneeded h p q) = absurd (no_window (p_window_in c) (q_window_in c) p q w.sought)
      cases (Ok d) (fitting h s q f) = absurd (w.unfit q f)
      cases (Ok d) (found s a) = rw a

  -- 0 where no search runs
  pub no_search_no_pass : (Seeks c → ⊥) → passes_of (configured_of c) ≡ 0
  no_search_no_pass w = cases (configured_of c) (configured_way c)
    where
      cases : (r : Result Configured Unplanned) → Ways c r → passes_of r ≡ 0
      cases (Err u) (refused a) = refl
      cases (Err u) (missed s a) = absurd (w s)
      cases (Ok d) (unneeded h p q) = refl
      cases (Ok d) (fitting h s q f) = refl
      cases (Ok d) (found s a) = absurd (w s)

-- ---- a configuration as planned
ready_way : (c d : CFGR) (k : ℕ) → Settles c d k → Ways c (ready d k)
ready_way c d k e = subst (λ (r : Result Configured Unplanned). Ways c r) e (configured_way c)

off_checked : {c : CFGR} → Checked c → Checked (off_of c)
off_checked h = record { hse = h.hse; requests = h.requests; pll = record { m = h.pll.m; n = h.pll.n; q = h.pll.q }; sai = h.sai; i2s = h.i2s }

-- it comes of a configuration whose limits are kept
pub planned_from : (c d : CFGR) (k : ℕ) → Settles c d k → Checked c
planned_from c d k e = of (ready_way c d k e)
  where
    of : {d : CFGR} {k : ℕ} → Ways c (ready d k) → Checked c
    of (unneeded h p q) = h
    of (fitting h s q f) = h
    of (found s a) = s.checked

-- every limit is kept, so that no check refuses it
pub planned_checked : (c d : CFGR) (k : ℕ) → Settles c d k → Checked d
planned_checked c d k e = of (ready_way c d k e)
  where
    of : {d : CFGR} {k : ℕ} → Ways c (ready d k) → Checked d
    of (unneeded h p q) = off_checked h
    of (fitting h s q f) = h
    of (found {r = r} s a) = found_checked c r a s.checked

-- nothing but the main PLL's settings has changed, and not the 48 MHz choice
pub planned_keeps : (c d : CFGR) (k : ℕ) → Settles c d k → Keeps c d
planned_keeps c d k e = of (ready_way c d k e)
  where
    of : {d : CFGR} {k : ℕ} → Ways c (ready d k) → Keeps c d
    of (unneeded h p q) = record { sources = refl; requests = refl; choice = refl; sai = refl; i2s = refl; mco = refl }
    of (fitting h s q f) = record { sources = refl; requests = refl; choice = refl; sai = refl; i2s = refl; mco = refl }
    of (found {r = r} s a) = record { sources = refl; requests = refl; choice = taken_48 c.pll r.m r.n r.p r.q; sai = refl; i2s = refl; mco = refl }

-- with `use_pll`, its P output is at most 216 MHz
pub planned_output : (c d : CFGR) (k : ℕ) → Settles c d k → d.pll.use_pll ≡ true → p_output_of d ≤ 216000000
planned_output c d k e = of (ready_way c d k e)
  where
    of : {d : CFGR} {k : ℕ} → Ways c (ready d k) → d.pll.use_pll ≡ true → p_output_of d ≤ 216000000
    of (unneeded h p q) u = absurd (let z : ◌≡◌ {A = ℕ} 0 1 = cc in omega arith)
    of (fitting h s q f) u = rw f at (wanted_between c h).high
    of (found {r = r} s a) u = found_output c r a

-- with `use_pll` and a P window, it is at most 1 Hz above the wanted SYSCLK and at most 15 Hz below it
pub planned_near : (c d : CFGR) (k : ℕ) → Settles c d k → d.pll.use_pll ≡ true → (p_window_in c ≡ None → ⊥) → Near (wanted_in c) (p_output_of d)
planned_near c d k e = of (ready_way c d k e)
  where
    of : {d : CFGR} {k : ℕ} → Ways c (ready d k) → d.pll.use_pll ≡ true → (p_window_in c ≡ None → ⊥) → Near (wanted_in c) (p_output_of d)
    of (unneeded h p q) u w = absurd (w p)
    of (fitting h s q f) u w = rw f (record { above = omega arith; below = omega arith })
    of (found {r = r} s a) u w = ⊎_elim (λ p. absurd (w p)) (λ p. found_near c r a p) (p_window_is c)

-- ---- planned again
-- it stays as it is; its passes are the same where its own search runs, else 0
pub planned_again : (c d : CFGR) (k : ℕ) → Settles c d k → (Seeks d → Settles d d k) × ((Seeks d → ⊥) → Settles d d 0)
planned_again c d k e = of (ready_way c d k e)
  where
    of : {d : CFGR} {k : ℕ} → Ways c (ready d k) → (Seeks d → Settles d d k) × ((Seeks d → ⊥) → Settles d d 0)
    of (unneeded h p q) = off_again c (off_checked h) p q _ (configured_way (off_of c))
    of (fitting h s q f) = same_again c h s q f _ (configured_way c)
    of (found {r = r} s a) = found_again c r s a _ (configured_way (gives c r))
