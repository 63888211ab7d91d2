-- The check gives the first in turn of document 01's table, and 0 exactly where every limit is kept: each limit by its range test, joined in the order of turns.
use Rattle.std.specs.Prelude.{None, Option, Some}
use Prim.Native.Nat.{ℕ, zero, suc, ◌≤◌, ◌<◌}
use mathlib.Core.Path.{◌≡◌, refl}
use mathlib.Core.Logic.{◌⊎◌, inl, inr, ◌↔◌}
use mathlib.Core.Bool.{Bool, true, false, cond, ◌&&◌}
use mathlib.Core.List.{◌∷◌}
use lib.Dec.{leb}
use native.Mathlib.Omega.{arith}
use borrow.Author.Tests.{leb-true, leb-false, ne_eqb}
use Rattle.kinds.specs.Limits.{outside_of, limited, first_refusal, hse_refusal, asked_refusal, requests_refusal, check_of}
use Rattle.kinds.specs.Table.{Between, Outside, HseWithin, HseOutside, AskedWithin, AskedOutside, Refused, hse, hclk, sysclk, pclk1, pclk2, pllm, plln, pllq, pllsain, pllsaiq, plli2sn, plli2sr, plli2sq, limit_numbers, Checked}
use Rattle.kinds.specs.Turns.{turn_of, First, none, first, OneOf}
use Rattle.kinds.proofs.Turns.{exactly, given_only, wider}
use Rattle.kinds.specs.declared.CFGR.{CFGR}
use Rattle.kinds.specs.declared.HSEClock.{HSEClock}
use Rattle.kinds.specs.declared.HSEClock.TheVariants.{Oscillator, Bypass}
use Rattle.kinds.specs.declared.Hertz.{Hertz}

-- ---- one limit
-- what a test of a limit tells: P is that it is kept, Q that it is broken, and k its number
pub data Told (P Q : Type 0) (k : ℕ) : ℕ → Type 0 where
  inside : P → (Q → ⊥) → Told P Q k 0
  broken : Q → (P → ⊥) → Told P Q k k

pub outside_told : (lo hi k x : ℕ) → Told (Between lo hi x) (Outside lo hi x) k (outside_of lo hi k x)
unfolding outside_of
outside_told lo hi k x = at (leb lo x) (leb x hi) refl refl
  where
    at : (s t : Bool) → leb lo x ≡ s → leb x hi ≡ t → Told (Between lo hi x) (Outside lo hi x) k (cond (s && t) 0 k)
    at true true a b = inside (record { low = leb-true lo x a; high = leb-true x hi b }) (λ o. apart o (leb-true lo x a) (leb-true x hi b))
      where
        apart : Outside lo hi x → lo ≤ x → x ≤ hi → ⊥
        apart (inl h) p q = omega arith
        apart (inr h) p q = omega arith
    at true false a b = broken (inr (leb-false x hi b)) (λ w. let h = leb-false x hi b in omega (arith, w.high))
    at false t a b = broken (inl (leb-false lo x a)) (λ w. let h = leb-false lo x a in omega (arith, w.low))

hse_told : (h : Option HSEClock) → Told (HseWithin h) (HseOutside h) 1 (hse_refusal h)
hse_told None = inside tt (λ o. o)
hse_told (Some (Oscillator f)) = outside_told 4000000 26000000 1 f.0
hse_told (Some (Bypass f)) = outside_told 1000000 50000000 1 f.0

asked_told : (lo hi k : ℕ) (q : Option Hertz) → Told (AskedWithin lo hi q) (AskedOutside lo hi q) k (asked_refusal (limited lo hi k) q)
asked_told lo hi k None = inside tt (λ o. o)
asked_told lo hi k (Some f) = outside_told lo hi k f.0

-- a number of 0 tells that the limit is kept, and a limit that is kept gives 0
zero_told : {P Q : Type 0} {k : ℕ} (a : ℕ) → 0 < k → Told P Q k a → a ≡ 0 → P
zero_told a pos (inside p q) e = p
zero_told a pos (broken q p) e = absurd (omega arith)

told_zero : {P Q : Type 0} {k : ℕ} (a : ℕ) → Told P Q k a → P → a ≡ 0
told_zero a (inside p q) w = refl
told_zero a (broken q p) w = absurd (p w)

pub outside_zero : (lo hi k x : ℕ) → 0 < k → outside_of lo hi k x ≡ 0 → Between lo hi x
outside_zero lo hi k x pos = zero_told _ pos (outside_told lo hi k x)

pub zero_outside : (lo hi k x : ℕ) → Between lo hi x → outside_of lo hi k x ≡ 0
zero_outside lo hi k x = told_zero _ (outside_told lo hi k x)

pub hse_zero : (h : Option HSEClock) → hse_refusal h ≡ 0 → HseWithin h
hse_zero h = zero_told _ (omega arith) (hse_told h)

pub zero_hse : (h : Option HSEClock) → HseWithin h → hse_refusal h ≡ 0
zero_hse h = told_zero _ (hse_told h)

-- ---- several limits: P is that all are kept, R n that number n is given, and lo to hi the turns of the numbers that can be
record Covers (P : Type 0) (R : ℕ → Type 0) (lo hi a : ℕ) : Type 0 where
  kept : a ≡ 0 → P
  none_given : P → (n : ℕ) → R n → ⊥
  given : 0 < a → R a
  first_given : 0 < a → (n : ℕ) → R n → turn_of a ≤ turn_of n
  low : (n : ℕ) → R n → lo ≤ turn_of n
  high : (n : ℕ) → R n → turn_of n ≤ hi
  span : lo ≤ hi

abbrev One : ℕ → Type 0 → ℕ → Type 0
One k Q n = (n ≡ k) × Q

abbrev Either : (ℕ → Type 0) → (ℕ → Type 0) → ℕ → Type 0
Either R S n = R n ⊎ S n

one : {P Q : Type 0} (k : ℕ) {a : ℕ} → 0 < k → Told P Q k a → Covers P (One k Q) (turn_of k) (turn_of k) a
one k pos (inside p q) = record {
  kept = λ _. p;
  none_given = λ _ n r. q r.1;
  given = λ h. absurd (omega arith);
  first_given = λ h. absurd (omega arith);
  low = λ n r. rw r.0 (omega arith);
  high = λ n r. rw r.0 (omega arith);
  span = omega arith;
}
one k pos (broken q p) = record {
  kept = λ e. absurd (omega arith);
  none_given = λ w n r. p w;
  given = λ _. (refl, q);
  first_given = λ _ n r. rw r.0 (omega arith);
  low = λ n r. rw r.0 (omega arith);
  high = λ n r. rw r.0 (omega arith);
  span = omega arith;
}

first_here : (k b : ℕ) → first_refusal (suc k) b ≡ suc k
unfolding first_refusal
first_here k b = let h : suc k ≡ 0 → ⊥ = λ e. omega arith in simp (ne_eqb _ _ h)

module _ {P S : Type 0} {R T : ℕ → Type 0} {l m h i : ℕ} (le : m ≤ h) where
  never : {a b : ℕ} → Covers P R l m a → Covers S T h i b → P × S → (n : ℕ) → R n ⊎ T n → ⊥
  never c d w n (inl r) = c.none_given w.0 n r
  never c d w n (inr t) = d.none_given w.1 n t

  lows : {a b : ℕ} → Covers P R l m a → Covers S T h i b → (n : ℕ) → R n ⊎ T n → l ≤ turn_of n
  lows c d n (inl r) = c.low n r
  lows c d n (inr t) = omega (arith, c.span, d.low n t)

  highs : {a b : ℕ} → Covers P R l m a → Covers S T h i b → (n : ℕ) → R n ⊎ T n → turn_of n ≤ i
  highs c d n (inl r) = omega (arith, d.span, c.high n r)
  highs c d n (inr t) = d.high n t

  -- joined, the first that refuses: where the turns rise, its number is the first in turn
  joined : (a b : ℕ) → Covers P R l m a → Covers S T h i b → Covers (P × S) (Either R T) l i (first_refusal a b)
  unfolding first_refusal
  joined zero b c d = record {
    kept = λ e. (c.kept refl, d.kept e);
    none_given = λ w n. never c d w n;
    given = λ p. inr (d.given p);
    first_given = λ p n. below p n;
    low = λ n. lows c d n;
    high = λ n. highs c d n;
    span = omega (arith, c.span, d.span);
  }
    where
      below : 0 < b → (n : ℕ) → R n ⊎ T n → turn_of b ≤ turn_of n
      below p n (inl r) = absurd (c.none_given (c.kept refl) n r)
      below p n (inr t) = d.first_given p n t
  joined (suc k) b c d = rw (first_here k b) (record {
    kept = λ e. absurd (omega arith);
    none_given = λ w n. never c d w n;
    given = λ p. inl (c.given p);
    first_given = λ p n. below p n;
    low = λ n. lows c d n;
    high = λ n. highs c d n;
    span = omega (arith, c.span, d.span);
  })
    where
      below : 0 < suc k → (n : ℕ) → R n ⊎ T n → turn_of (suc k) ≤ turn_of n
      below p n (inl r) = c.first_given p n r
      below p n (inr t) = omega (arith, c.high (suc k) (c.given p), d.low n t)

-- ---- the whole configuration
covers_asked : (lo hi k : ℕ) → 0 < k → (r : Option Hertz) → Covers (AskedWithin lo hi r) (One k (AskedOutside lo hi r)) (turn_of k) (turn_of k) (asked_refusal (limited lo hi k) r)
covers_asked lo hi k pos r = one k pos (asked_told lo hi k r)

-- any divider or factor
covers_six : (lo hi x : ℕ) → Covers (Between lo hi x) (One 6 (Outside lo hi x)) (turn_of 6) (turn_of 6) (outside_of lo hi 6 x)
covers_six lo hi x = one 6 (omega arith) (outside_told lo hi 6 x)

module _ (c : CFGR) where
  abbrev Requests : Type 0
  Requests =
      AskedWithin 0 216000000 c.requests.hclk
      × (AskedWithin 12500000 216000000 c.requests.sysclk
      × (AskedWithin 12500000 54000000 c.requests.pclk1
      × AskedWithin 12500000 108000000 c.requests.pclk2))

  abbrev Pll : Type 0
  Pll = Between 2 63 c.pll.m.0 × (Between 50 432 c.pll.n.0 × Between 2 15 c.pll.q.0)

  abbrev Sai : Type 0
  Sai = Between 50 432 c.sai.n.0 × Between 2 15 c.sai.q.0

  abbrev I2s : Type 0
  I2s = Between 50 432 c.i2s.n.0 × (Between 2 7 c.i2s.r.0 × Between 2 15 c.i2s.q.0)

  abbrev GivenRequests : ℕ → Type 0
  GivenRequests =
      Either (One 2 (AskedOutside 0 216000000 c.requests.hclk))
      (Either (One 3 (AskedOutside 12500000 216000000 c.requests.sysclk))
      (Either (One 4 (AskedOutside 12500000 54000000 c.requests.pclk1))
      (One 5 (AskedOutside 12500000 108000000 c.requests.pclk2))))

  abbrev GivenPll : ℕ → Type 0
  GivenPll = Either (One 6 (Outside 2 63 c.pll.m.0)) (Either (One 6 (Outside 50 432 c.pll.n.0)) (One 6 (Outside 2 15 c.pll.q.0)))

  abbrev GivenSai : ℕ → Type 0
  GivenSai = Either (One 6 (Outside 50 432 c.sai.n.0)) (One 6 (Outside 2 15 c.sai.q.0))

  abbrev GivenI2s : ℕ → Type 0
  GivenI2s = Either (One 6 (Outside 50 432 c.i2s.n.0)) (Either (One 6 (Outside 2 7 c.i2s.r.0)) (One 6 (Outside 2 15 c.i2s.q.0)))

  abbrev Given : ℕ → Type 0
  Given = Either (One 1 (HseOutside c.sources.hse)) (Either GivenRequests (Either GivenPll (Either GivenSai GivenI2s)))

  abbrev All : Type 0
  All = HseWithin c.sources.hse × (Requests × (Pll × (Sai × I2s)))

  covers_requests : Covers Requests GivenRequests (turn_of 2) (turn_of 5) (requests_refusal c.requests)
  unfolding turn_of
  covers_requests =
      joined (omega arith) _ _ (covers_asked 0 216000000 2 (omega arith) c.requests.hclk)
      (joined (omega arith) _ _ (covers_asked 12500000 216000000 3 (omega arith) c.requests.sysclk)
      (joined (omega arith) _ _ (covers_asked 12500000 54000000 4 (omega arith) c.requests.pclk1)
      (covers_asked 12500000 108000000 5 (omega arith) c.requests.pclk2)))

  -- a is what the whole check comes to
  abbrev Whole : ℕ → Type 0
  Whole a = Covers All Given (turn_of 1) (turn_of 6) a

  covers : Whole (check_of c)
  unfolding check_of turn_of
  covers =
      joined (omega arith) _ _ (one 1 (omega arith) (hse_told c.sources.hse))
      (joined (omega arith) _ _ covers_requests
      (joined (omega arith) _ _ (joined (omega arith) _ _ (covers_six 2 63 _) (joined (omega arith) _ _ (covers_six 50 432 _) (covers_six 2 15 _)))
      (joined (omega arith) _ _ (joined (omega arith) _ _ (covers_six 50 432 _) (covers_six 2 15 _))
      (joined (omega arith) _ _ (covers_six 50 432 _) (joined (omega arith) _ _ (covers_six 2 7 _) (covers_six 2 15 _))))))

  -- the table, group by group, as the sum that the join makes
  in_requests : (n : ℕ) → GivenRequests n → Given n
  in_requests n x = inr (inl x)

  in_pll : (n : ℕ) → GivenPll n → Given n
  in_pll n x = inr (inr (inl x))

  in_sai : (n : ℕ) → GivenSai n → Given n
  in_sai n x = inr (inr (inr (inl x)))

  in_i2s : (n : ℕ) → GivenI2s n → Given n
  in_i2s n x = inr (inr (inr (inr x)))

  to_given : (n : ℕ) → Refused c n → Given n
  to_given n (hse x) = inl (refl, x)
  to_given n (hclk x) = in_requests 2 (inl (refl, x))
  to_given n (sysclk x) = in_requests 3 (inr (inl (refl, x)))
  to_given n (pclk1 x) = in_requests 4 (inr (inr (inl (refl, x))))
  to_given n (pclk2 x) = in_requests 5 (inr (inr (inr (refl, x))))
  to_given n (pllm x) = in_pll 6 (inl (refl, x))
  to_given n (plln x) = in_pll 6 (inr (inl (refl, x)))
  to_given n (pllq x) = in_pll 6 (inr (inr (refl, x)))
  to_given n (pllsain x) = in_sai 6 (inl (refl, x))
  to_given n (pllsaiq x) = in_sai 6 (inr (refl, x))
  to_given n (plli2sn x) = in_i2s 6 (inl (refl, x))
  to_given n (plli2sr x) = in_i2s 6 (inr (inl (refl, x)))
  to_given n (plli2sq x) = in_i2s 6 (inr (inr (refl, x)))

  by : {k n : ℕ} → n ≡ k → Refused c k → Refused c n
  by e r = rw e r

  from_requests : (n : ℕ) → GivenRequests n → Refused c n
  from_requests n (inl (e, x)) = by e (hclk x)
  from_requests n (inr (inl (e, x))) = by e (sysclk x)
  from_requests n (inr (inr (inl (e, x)))) = by e (pclk1 x)
  from_requests n (inr (inr (inr (e, x)))) = by e (pclk2 x)

  from_pll : (n : ℕ) → GivenPll n → Refused c n
  from_pll n (inl (e, x)) = by e (pllm x)
  from_pll n (inr (inl (e, x))) = by e (plln x)
  from_pll n (inr (inr (e, x))) = by e (pllq x)

  from_sai : (n : ℕ) → GivenSai n → Refused c n
  from_sai n (inl (e, x)) = by e (pllsain x)
  from_sai n (inr (e, x)) = by e (pllsaiq x)

  from_i2s : (n : ℕ) → GivenI2s n → Refused c n
  from_i2s n (inl (e, x)) = by e (plli2sn x)
  from_i2s n (inr (inl (e, x))) = by e (plli2sr x)
  from_i2s n (inr (inr (e, x))) = by e (plli2sq x)

  from_given : (n : ℕ) → Given n → Refused c n
  from_given n (inl (e, x)) = by e (hse x)
  from_given n (inr (inl x)) = from_requests n x
  from_given n (inr (inr (inl x))) = from_pll n x
  from_given n (inr (inr (inr (inl x)))) = from_sai n x
  from_given n (inr (inr (inr (inr x)))) = from_i2s n x

  -- the check is the first in turn of the numbers that the table gives, or 0 where it gives none
  pub check_first : First (Refused c) (check_of c)
  check_first = at (check_of c) covers
    where
      at : (a : ℕ) → Whole a → First (Refused c) a
      at zero v = none (λ n r. v.none_given (v.kept refl) n (to_given n r))
      at (suc k) v = first (from_given (suc k) (v.given (omega arith))) (λ n r. v.first_given (omega arith) n (to_given n r))

  -- so it is n exactly if n is the first in turn of those given
  pub check_refuses_exactly : (n : ℕ) → (check_of c ≡ n) ↔ First (Refused c) n
  check_refuses_exactly n = exactly check_first

  -- the table gives no number but those of its list
  pub limit_number : (n : ℕ) → Refused c n → OneOf limit_numbers n
  limit_number n (hse x) = tt
  limit_number n (hclk x) = tt
  limit_number n (sysclk x) = tt
  limit_number n (pclk1 x) = tt
  limit_number n (pclk2 x) = tt
  limit_number n (pllm x) = tt
  limit_number n (plln x) = tt
  limit_number n (pllq x) = tt
  limit_number n (pllsain x) = tt
  limit_number n (pllsaiq x) = tt
  limit_number n (plli2sn x) = tt
  limit_number n (plli2sr x) = tt
  limit_number n (plli2sq x) = tt

  -- so the check gives no other but 0
  pub check_gives_only : OneOf (0 ∷ limit_numbers) (check_of c)
  check_gives_only = from (given_only check_first)
    where
      from : (check_of c ≡ 0) ⊎ Refused c (check_of c) → OneOf (0 ∷ limit_numbers) (check_of c)
      from (inl e) = rw e tt
      from (inr r) = wider limit_numbers (0 ∷ limit_numbers) tt (check_of c) (limit_number (check_of c) r)

  -- it is 0 exactly where every limit is kept
  pub check_told : check_of c ≡ 0 → Checked c
  check_told e = told (covers.kept e)
    where
      told : All → Checked c
      told (h, ((bus, (core, (one, two))), ((m, (n, q)), ((sai_n, sai_q), (i2s_n, (i2s_r, i2s_q)))))) = record {
        hse = h;
        requests = record { hclk = bus; sysclk = core; pclk1 = one; pclk2 = two };
        pll = record { m = m; n = n; q = q };
        sai = record { n = sai_n; q = sai_q };
        i2s = record { n = i2s_n; r = i2s_r; q = i2s_q };
      }

  kept_all : Checked c → All
  kept_all w =
      let q = w.requests in
      let p = w.pll in
      let i = w.i2s in
      (w.hse, ((q.hclk, (q.sysclk, (q.pclk1, q.pclk2))), ((p.m, (p.n, p.q)), ((w.sai.n, w.sai.q), (i.n, (i.r, i.q))))))

  -- then the table gives no number
  pub kept_none : Checked c → (n : ℕ) → Refused c n → ⊥
  kept_none w n r = covers.none_given (kept_all w) n (to_given n r)

  pub told_check : Checked c → check_of c ≡ 0
  told_check w = at (check_of c) covers
    where
      at : (a : ℕ) → Whole a → a ≡ 0
      at zero v = refl
      at (suc k) v = absurd (v.none_given (kept_all w) (suc k) (v.given (omega arith)))
