-- A configuration as planned, planned again: by the way that it came about, and the ways that it can go.
use Prim.Native.Nat.{ℕ}
use mathlib.Core.Path.{◌≡◌, refl, ap}
use native.Mathlib.Omega.{arith}
use Rattle.std.specs.Prelude.{None, Result, Ok, Err}
use Rattle.kinds.specs.Setters.{put_pll}
use Rattle.kinds.specs.Table.{Checked}
use Rattle.kinds.proofs.Check.{told_check}
use Rattle.kinds.specs.declared.CFGR.{CFGR}
use Rattle.kinds.specs.declared.Pll.{Pll}
use Rattle.pll.specs.Good.{SomeWindow}
use Rattle.pll.specs.declared.Pair.{Pair}
use Rattle.pll.specs.declared.Miss.{Miss}
use Rattle.pll.specs.Outputs.{p_output_of}
use Rattle.configure.specs.Configure.{ready, off_of, wanted_in, p_window_in, q_window_in, base_in}
use Rattle.configure.specs.Ways.{search_in, Seeks, gives, Ways, refused, unneeded, fitting, missed, found}
use Rattle.configure.specs.declared.Configured.{Configured}
use Rattle.configure.specs.declared.Unplanned.{Unplanned}
use Rattle.configure.proofs.Going.{no_window}
use Rattle.configure.proofs.Taking.{found_checked, taken_again, same_p, same_q, same_search}

-- what comes of a configuration d whose limits are kept, planned with k passes before
abbrev pub Again : CFGR → ℕ → Result Configured Unplanned → Type 0
Again d k r = (Seeks d → r ≡ ready d k) × ((Seeks d → ⊥) → r ≡ ready d 0)

pub off_again : (c : CFGR) → Checked (off_of c) → p_window_in c ≡ None → q_window_in c ≡ None → (r : Result Configured Unplanned) → Ways (off_of c) r → Again (off_of c) 0 r
unfolding p_window_in q_window_in wanted_in base_in
off_again c h p q (Err u) (refused a) = absurd (a (told_check (off_of c) h))
off_again c h p q (Err u) (missed s a) = absurd (no_window _ _ p q s.sought)
off_again c h p q (Ok o) (unneeded g a b) = (λ s. refl, λ s. refl)
off_again c h p q (Ok o) (fitting g s a b) = (λ s. refl, λ s. refl)
off_again c h p q (Ok o) (found s a) = absurd (no_window _ _ p q s.sought)

pub same_again : (c : CFGR) → Checked c → SomeWindow (p_window_in c) (q_window_in c) → q_window_in c ≡ None → wanted_in c ≡ p_output_of c → (r : Result Configured Unplanned) → Ways c r → Again c 0 r
same_again c h s q f (Err u) (refused a) = absurd (a (told_check c h))
same_again c h s q f (Err u) (missed w a) = absurd (w.unfit q f)
same_again c h s q f (Ok o) (unneeded g a b) = absurd (no_window _ _ a b s)
same_again c h s q f (Ok o) (fitting g w a b) = (λ s. refl, λ s. refl)
same_again c h s q f (Ok o) (found w a) = absurd (w.unfit q f)

-- two answers of one search are one
pair_one : {f : Result Pair Miss} {r s : Pair} → f ≡ Ok r → f ≡ Ok s → s ≡ r
pair_one a b = cc

module _ (c : CFGR) (r : Pair) (s : Seeks c) (e : search_in c ≡ Ok r) where
  abbrev d : CFGR
  d = gives c r

  gives_again : gives d r ≡ d
  gives_again = ap (λ (l : Pll). put_pll c l) (taken_again c.pll r.m r.n r.p r.q)

  some : SomeWindow (p_window_in d) (q_window_in d)
  some = rw (same_p c r e, same_q c r e) s.sought

  pub found_again : (o : Result Configured Unplanned) → Ways d o → Again d r.passes o
  found_again (Err u) (refused a) = absurd (a (told_check d (found_checked c r e s.checked)))
  found_again (Err u) (missed w a) = absurd (let h = same_search c r e in let z : ◌≡◌ {A = ℕ} 0 1 = cc in omega arith)
  found_again (Ok o) (unneeded g a b) = absurd (no_window _ _ a b some)
  found_again (Ok o) (fitting g w a b) = (λ z. absurd (z.unfit a b), λ z. refl)
  found_again (Ok o) (found w a) = (λ z. rw (pair_one (same_search c r e) a, gives_again), λ z. absurd (z w))
