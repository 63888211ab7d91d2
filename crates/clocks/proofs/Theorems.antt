-- What is promised of derive, for every configuration; each is read off one view of the answer and the lemmas of the other files.
use Rattle.std.proofs.Common.{◌≡◌, ℕ, ◌-◌, ◌/◌, ◌<◌, ◌≤◌, Bool, true, false, cond, T, eqb, ltb, leb, ◌↔◌, [], ◌∷◌, refl, sym, ◌∙◌, subst, arith, ltb-false, ltb-true, eqb-true, leb-false, leb-true}
use borrow.Author.Tests.{eqb-false, lt-leb}
use Rattle.std.specs.Prelude.{Result, Ok, Err}
use Rattle.kinds.specs.Limits.{check_of}
use Rattle.kinds.specs.Refusals.{refusal_of}
use Rattle.kinds.specs.declared.refusals.Refusal.{Refusal}
use Rattle.kinds.specs.declared.refusals.Refusal.TheVariants.{DerivedSysclk}
use Rattle.kinds.proofs.Numbered.{check_numbered}
use Rattle.kinds.specs.Table.{Between, Refused, limit_numbers, Checked}
use Rattle.kinds.specs.Turns.{turn_of, First, none, first, OneOf}
use Rattle.kinds.proofs.Turns.{exactly, wider, ahead, in_order, none_is}
use Rattle.kinds.proofs.Check.{check_told, told_check, kept_none, check_first, limit_number, check_gives_only}
use Rattle.kinds.specs.declared.CFGR.{CFGR}
use Rattle.clocks.specs.Derive.{sysclk_of, cap1_of, cap2_of, ahb_for, ahb_of, apb1_of, apb2_of, wait_states_of, clocks_of, config_of, settled_of, derived_of}
use Rattle.clocks.specs.Numbers.{derived_number}
use Rattle.clocks.specs.Refusals.{DeriveRefused, limit, sysclk, derive_numbers}
use Rattle.clocks.specs.Inner.{Sysclk}
use Rattle.clocks.specs.declared.Clocks.{Clocks}
use Rattle.clocks.specs.declared.InternalRCCConfig.{InternalRCCConfig}
use Rattle.clocks.specs.declared.Derived.{Derived}
use Rattle.clocks.proofs.Deriving.{sysclk_facts, hclk_range}
use Rattle.clocks.proofs.Table.{hpre_power}
use Rattle.clocks.proofs.Caps.{caps1, caps2, pclk_within}

-- ---- how an answer comes about
abbrev answer : CFGR → Result Derived Refusal
answer c = Ok (record { clocks = clocks_of c; config = config_of c })

pub data DerivedView (c : CFGR) : Result Derived Refusal → Type 0 where
  limited : (check_of c ≡ 0 → ⊥) → DerivedView c (Err (refusal_of (check_of c)))
  above : Checked c → 216000000 < sysclk_of c → DerivedView c (Err DerivedSysclk)
  given : Checked c → Sysclk (sysclk_of c) → DerivedView c (answer c)

pub derived_view : (c : CFGR) → DerivedView c (derived_of c)
unfolding derived_of settled_of
derived_view c = from (eqb (check_of c) 0) refl
  where
    at : (t : Bool) → ltb 216000000 (sysclk_of c) ≡ t → Checked c → DerivedView c (cond t (Err DerivedSysclk) (answer c))
    at true e k = above k (ltb-true 216000000 (sysclk_of c) e)
    at false e k = given k (sysclk_facts c k (ltb-false 216000000 (sysclk_of c) e))

    from : (t : Bool) → eqb (check_of c) 0 ≡ t → DerivedView c (cond t (cond (ltb 216000000 (sysclk_of c)) (Err DerivedSysclk) (answer c)) (Err (refusal_of (check_of c))))
    from true e = at (ltb 216000000 (sysclk_of c)) refl (check_told c (eqb-true (check_of c) 0 e))
    from false e = limited (eqb-false (check_of c) 0 e)

-- ---- which number it is
-- 8 comes after the numbers of the check
limits_ahead : T (ahead limit_numbers (8 ∷ []))
unfolding turn_of
limits_ahead = tt

-- the number is the first in turn of those that the table gives for derive, and 0 exactly where it gives none
pub derive_first : (c : CFGR) → First (DeriveRefused c) (derived_number (derived_of c))
derive_first c = from (derived_of c) (derived_view c)
  where
    before : (a : ℕ) → Refused c a → ((k : ℕ) → Refused c k → turn_of a ≤ turn_of k) → (k : ℕ) → DeriveRefused c k → turn_of a ≤ turn_of k
    before a r f k (limit s) = f k s
    before a r f k (sysclk h) = in_order limit_numbers (8 ∷ []) limits_ahead a 8 (limit_number c a r) tt

    limits : (a : ℕ) → First (Refused c) a → (a ≡ 0 → ⊥) → First (DeriveRefused c) a
    limits a (none f) n = absurd (n refl)
    limits a (first r f) n = first (limit r) (before a r f)

    only : Checked c → (k : ℕ) → DeriveRefused c k → turn_of 8 ≤ turn_of k
    only q k (limit r) = absurd (kept_none c q k r)
    only q k (sysclk h) = omega arith

    never : Checked c → sysclk_of c ≤ 216000000 → (k : ℕ) → DeriveRefused c k → ⊥
    never q l k (limit r) = kept_none c q k r
    never q l k (sysclk h) = omega arith

    from : (d : Result Derived Refusal) → DerivedView c d → First (DeriveRefused c) (derived_number d)
    from d (limited n) = subst (First (DeriveRefused c)) (sym (check_numbered c n)) (limits (check_of c) (check_first c) n)
    from d (above q h) = first (sysclk h) (only q)
    from d (given q s) = none (never q s.high)

-- so it is n exactly if n is the first in turn of those given
pub derive_refuses_exactly : (c : CFGR) (n : ℕ) → (derived_number (derived_of c) ≡ n) ↔ First (DeriveRefused c) n
derive_refuses_exactly c n = exactly (derive_first c)

-- it accepts exactly if every limit is kept and SYSCLK is at most 216 MHz
pub derive_accepts_exactly : (c : CFGR) → (derived_number (derived_of c) ≡ 0) ↔ (Checked c × (sysclk_of c ≤ 216000000))
derive_accepts_exactly c = from (derived_of c) (derived_view c)
  where
    from : (d : Result Derived Refusal) → DerivedView c d → (derived_number d ≡ 0) ↔ (Checked c × (sysclk_of c ≤ 216000000))
    from d (limited n) = (λ e. absurd (n (sym (check_numbered c n) ∙ e)), λ w. absurd (n (told_check c w.0)))
    from d (above q h) = (λ e. absurd (omega arith), λ w. absurd (omega (arith, w.1)))
    from d (given q s) = (λ e. (q, s.high), λ w. refl)

-- and its answer is then the clocks and codes that the settings give
pub derive_gives : (c : CFGR) → Checked c → sysclk_of c ≤ 216000000 → derived_of c ≡ answer c
derive_gives c k l = from (derived_of c) (derived_view c)
  where
    from : (d : Result Derived Refusal) → DerivedView c d → d ≡ answer c
    from d (limited n) = absurd (n (told_check c k))
    from d (above q h) = absurd (omega arith)
    from d (given q s) = refl

-- it refuses with 8 exactly if every limit is kept and SYSCLK is above 216 MHz
pub derive_refuses_with_8_exactly : (c : CFGR) → (derived_number (derived_of c) ≡ 8) ↔ (Checked c × (216000000 < sysclk_of c))
derive_refuses_with_8_exactly c = from (derived_of c) (derived_view c)
  where
    from : (d : Result Derived Refusal) → DerivedView c d → (derived_number d ≡ 8) ↔ (Checked c × (216000000 < sysclk_of c))
    from d (limited n) = (λ e. absurd (none_is 8 (0 ∷ limit_numbers) tt (check_of c) (check_gives_only c) (sym (check_numbered c n) ∙ e)), λ w. absurd (n (told_check c w.0)))
    from d (above q h) = (λ e. (q, h), λ w. refl)
    from d (given q s) = (λ e. absurd (omega arith), λ w. absurd (omega (arith, w.1, s.high)))

-- it gives no other number
pub derive_gives_only : (c : CFGR) → OneOf (0 ∷ derive_numbers) (derived_number (derived_of c))
derive_gives_only c = from (derived_of c) (derived_view c)
  where
    from : (d : Result Derived Refusal) → DerivedView c d → OneOf (0 ∷ derive_numbers) (derived_number d)
    from d (limited n) = subst (OneOf (0 ∷ derive_numbers)) (sym (check_numbered c n)) (wider (0 ∷ limit_numbers) (0 ∷ derive_numbers) tt (check_of c) (check_gives_only c))
    from d (above q h) = tt
    from d (given q s) = tt

-- ---- wait states
-- up to 216 MHz the ladder is (SYSCLK − 1) / 30,000,000
pub ladder_is_arithmetic : (s : ℕ) → s ≤ 216000000 → wait_states_of s ≡ (s - 1) / 30000000
unfolding wait_states_of
ladder_is_arithmetic s h =
    at (leb s 30000000) (leb s 60000000) (leb s 90000000) (leb s 120000000) (leb s 150000000) (leb s 180000000) (leb s 210000000) refl refl refl refl refl refl refl
  where
    at : (a b c d e f g : Bool) → leb s 30000000 ≡ a → leb s 60000000 ≡ b → leb s 90000000 ≡ c → leb s 120000000 ≡ d → leb s 150000000 ≡ e → leb s 180000000 ≡ f → leb s 210000000 ≡ g
        → cond a 0 (cond b 1 (cond c 2 (cond d 3 (cond e 4 (cond f 5 (cond g 6 7)))))) ≡ (s - 1) / 30000000
    at true b c d e f g p q r t u v w = omega (arith, leb-true s 30000000 p)
    at false true c d e f g p q r t u v w = omega (arith, leb-false s 30000000 p, leb-true s 60000000 q)
    at false false true d e f g p q r t u v w = omega (arith, leb-false s 60000000 q, leb-true s 90000000 r)
    at false false false true e f g p q r t u v w = omega (arith, leb-false s 90000000 r, leb-true s 120000000 t)
    at false false false false true f g p q r t u v w = omega (arith, leb-false s 120000000 t, leb-true s 150000000 u)
    at false false false false false true g p q r t u v w = omega (arith, leb-false s 150000000 u, leb-true s 180000000 v)
    at false false false false false false true p q r t u v w = omega (arith, leb-false s 180000000 v, leb-true s 210000000 w)
    at false false false false false false false p q r t u v w = omega (arith, leb-false s 210000000 w)

-- and above it is as for 216 MHz
pub ladder_above : (s : ℕ) → 216000000 ≤ s → wait_states_of s ≡ wait_states_of 216000000
unfolding wait_states_of
ladder_above s h =
    rw (lt-leb s 30000000 (omega arith), lt-leb s 60000000 (omega arith), lt-leb s 90000000 (omega arith), lt-leb s 120000000 (omega arith), lt-leb s 150000000 (omega arith), lt-leb s 180000000 (omega arith), lt-leb s 210000000 (omega arith))

-- ---- what it answers
module _ (c : CFGR) (x : Clocks) (y : InternalRCCConfig) (e : derived_of c ≡ Ok (record { clocks = x; config = y })) where
  -- what holds of the clocks and codes of a configuration that is accepted holds of the answer
  carried : (P : Clocks → InternalRCCConfig → Type 0) → (Checked c → Sysclk (sysclk_of c) → P (clocks_of c) (config_of c)) → P x y
  carried P f = from (derived_of c) (derived_view c) e
    where
      from : (d : Result Derived Refusal) → DerivedView c d → d ≡ Ok (record { clocks = x; config = y }) → P x y
      from d (limited n) h = absurd (let z : ◌≡◌ {A = ℕ} 0 1 = cc in omega arith)
      from d (above q g) h = absurd (let z : ◌≡◌ {A = ℕ} 0 1 = cc in omega arith)
      from d (given q s) h =
          let a : ◌≡◌ {A = Derived} (record { clocks = clocks_of c; config = config_of c }) (record { clocks = x; config = y }) = cc in
          subst (λ (z : Derived). P z.clocks z.config) a (f q s)

  -- HCLK is above 0 and at most SYSCLK
  pub hclk_within_sysclk : Between 1 x.sysclk.0 x.hclk.0
  unfolding clocks_of ahb_of
  hclk_within_sysclk = carried (λ z w. Between 1 z.sysclk.0 z.hclk.0) (λ k s. hclk_range (sysclk_of c) c.requests.hclk s refl)

  -- PCLK1 and PCLK2 are above 0 and within document 01's caps
  pub pclk1_within_cap : Between 1 (cap1_of x.sysclk.0) x.pclk1.0
  unfolding clocks_of ahb_of apb1_of ahb_for
  pclk1_within_cap = carried (λ z w. Between 1 (cap1_of z.sysclk.0) z.pclk1.0) (λ k s. pclk_within _ _ _ _ c.requests.pclk1 caps1 s (hpre_power _ _) k.requests.pclk1)

  pub pclk2_within_cap : Between 1 (cap2_of x.sysclk.0) x.pclk2.0
  unfolding clocks_of ahb_of apb2_of ahb_for
  pclk2_within_cap = carried (λ z w. Between 1 (cap2_of z.sysclk.0) z.pclk2.0) (λ k s. pclk_within _ _ _ _ c.requests.pclk2 caps2 s (hpre_power _ _) k.requests.pclk2)

  -- the wait states are (SYSCLK − 1) / 30,000,000
  pub wait_states_by_arithmetic : y.flash_waitstates ≡ (x.sysclk.0 - 1) / 30000000
  unfolding clocks_of config_of
  wait_states_by_arithmetic = carried (λ z w. w.flash_waitstates ≡ (z.sysclk.0 - 1) / 30000000) (λ k s. ladder_is_arithmetic (sysclk_of c) s.high)
