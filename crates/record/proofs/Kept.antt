-- A record of 64 bytes is well-formed exactly if it keeps every rule of the layout: rule by rule.
use Prim.Native.Nat.{ℕ, zero, suc, ◌+◌, ◌<◌, ◌≤◌}
use mathlib.Core.Path.{◌≡◌, refl, ap}
use mathlib.Core.Bool.{Bool, true, false, not, ◌||◌, true≢false}
use mathlib.Core.List.{List}
use mathlib.Core.Logic.{⊎_elim}
use native.Mathlib.Nat.{eq-or-lt_of_le}
use native.Mathlib.Omega.{arith}
use lib.ListN.{length, get_or}
use borrow.Author.Tests.{ltb-true, lt-ltb, leb-true, le-leb, eqb-true, eq-eqb, not-false}
use Rattle.record.specs.Numbers.{flag_at, u32_at}
use Rattle.record.specs.Places.{RECORD}
use Rattle.record.specs.Layout.{keeps, number, child, layout, blank_run, blanks}
use Rattle.record.specs.WellFormed.{WellFormed}
use Rattle.record.proofs.First.{Kept}

-- a pair, so that the rules of a list stand below each other
infixr 2 ◌and◌
abbrev ◌and◌ : {A B : Type 0} → A → B → A × B
a and b = (a, b)

-- one of two holds exactly if the second does wherever the first doesn't
or_off : (t u : Bool) → t || u ≡ true → t ≡ false → u ≡ true
or_off true u h e = absurd (true≢false e)
or_off false u h e = h

off_or : (t u : Bool) → (t ≡ false → u ≡ true) → t || u ≡ true
off_or true u h = refl
off_or false u h = h refl

-- the rules of a run of zero bytes, as a fact of each byte
run_zero :
    (b : List ℕ) (at n : ℕ) → Kept b (blank_run at n) → (j : ℕ) → at ≤ j → j < at + n → get_or b j 0 ≡ 0
unfolding blank_run
run_zero b at zero k j l u = absurd (omega arith)
run_zero b at (suc n) k j l u =
    ⊎_elim
    (λ e. rw (← e) (eqb-true _ _ k.0))
    (λ h. run_zero b (at + 1) n k.1 j (omega arith) (omega arith))
    (eq-or-lt_of_le l)

zero_run :
    (b : List ℕ) (at n : ℕ) → ((j : ℕ) → at ≤ j → j < at + n → get_or b j 0 ≡ 0) → Kept b (blank_run at n)
unfolding blank_run
zero_run b at zero h = tt
zero_run b at (suc n) h = (
  eq-eqb _ _ (h at (omega arith) (omega arith)),
  zero_run b (at + 1) n (λ j l u. h j (omega arith) (omega arith)),
)

module _ (b : List ℕ) where
  -- a rule on a value whose flag is off, and one on a child bit, as facts
  off_zero : (flag at : ℕ) → keeps b (number flag at) ≡ true → flag_at b flag ≡ false → u32_at b at ≡ 0
  off_zero flag at k e = eqb-true _ _ (or_off _ _ k e)

  zero_off : (flag at : ℕ) → (flag_at b flag ≡ false → u32_at b at ≡ 0) → keeps b (number flag at) ≡ true
  zero_off flag at f = off_or _ _ (λ e. eq-eqb _ _ (f e))

  has_parent : (bit parent : ℕ) → keeps b (child bit parent) ≡ true → flag_at b bit ≡ true → flag_at b parent ≡ true
  has_parent bit parent k e = or_off _ _ k (ap not e)

  parent_kept : (bit parent : ℕ) → (flag_at b bit ≡ true → flag_at b parent ≡ true) → keeps b (child bit parent) ≡ true
  parent_kept bit parent f = off_or _ _ (λ e. f (not-false _ e))

  -- every rule of the layout kept: each fact of a well-formed record
  pub well_formed : length b ≡ RECORD → Kept b layout → WellFormed b
  unfolding blanks
  well_formed whole (bits, (hse_by, (lse_by, (pllsai, (p, (sai_p, (m1, (p1, (m2, (p2, (b13, (hse, (hclk, (sysclk, (pclk1, (pclk2, tail)))))))))))))))) =
      record {
        whole = whole;
        bits_14_15 = ltb-true _ _ bits;
        byte_13 = eqb-true _ _ b13;
        bytes_40_to_63 = run_zero b 40 24 tail;
        p_code = leb-true _ _ p;
        pllsai_p_code = leb-true _ _ sai_p;
        mco1_code = leb-true _ _ m1;
        mco1pre_code = leb-true _ _ p1;
        mco2_code = leb-true _ _ m2;
        mco2pre_code = leb-true _ _ p2;
        hse_off = off_zero _ _ hse;
        hclk_off = off_zero _ _ hclk;
        sysclk_off = off_zero _ _ sysclk;
        pclk1_off = off_zero _ _ pclk1;
        pclk2_off = off_zero _ _ pclk2;
        hse_bypass = has_parent _ _ hse_by;
        lse_bypass = has_parent _ _ lse_by;
        choice_pllsai = has_parent _ _ pllsai;
      }

  -- each fact of a well-formed record: every rule of the layout kept
  pub layout_kept : WellFormed b → Kept b layout
  unfolding blanks
  layout_kept w =
      lt-ltb _ _ w.bits_14_15
      and parent_kept _ _ w.hse_bypass
      and parent_kept _ _ w.lse_bypass
      and parent_kept _ _ w.choice_pllsai
      and le-leb _ _ w.p_code
      and le-leb _ _ w.pllsai_p_code
      and le-leb _ _ w.mco1_code
      and le-leb _ _ w.mco1pre_code
      and le-leb _ _ w.mco2_code
      and le-leb _ _ w.mco2pre_code
      and eq-eqb _ _ w.byte_13
      and zero_off _ _ w.hse_off
      and zero_off _ _ w.hclk_off
      and zero_off _ _ w.sysclk_off
      and zero_off _ _ w.pclk1_off
      and zero_off _ _ w.pclk2_off
      and zero_run b 40 24 w.bytes_40_to_63
