-- A file at the plan's values reads back to the plan's clocks: each code read is the divider that it was chosen for, case by case.
use Rattle.std.specs.Prelude.{None, Option, Some}
use Prim.Native.Nat.{ℕ, ◌+◌, ◌*◌, ◌/◌}
use mathlib.Core.Path.{◌≡◌, refl, ap, sym, ◌∙◌}
use mathlib.Core.Bool.{Bool, true, false, cond}
use mathlib.Core.List.{List}
use lib.Dec.{leb, eqb}
use borrow.Author.Tests.{lt-ltb}
use Rattle.kinds.specs.Config.{input_of}
use Rattle.kinds.specs.Codes.{asked_hertz, pllp_code, p_divider_of}
use Rattle.kinds.specs.declared.CFGR.{CFGR}
use Rattle.kinds.specs.declared.Pll.{Pll}
use Rattle.kinds.specs.declared.Hertz.{Hertz}
use Rattle.kinds.specs.declared.HSEClock.{HSEClock}
use Rattle.kinds.specs.declared.HSEClock.TheVariants.{Oscillator, Bypass}
use Rattle.kinds.specs.declared.PLLP.{PLLP}
use Rattle.kinds.specs.declared.PLLP.TheVariants.{Div2, Div4, Div6, Div8}
use Rattle.pll.specs.Outputs.{base_of, p_output_of}
use Rattle.clocks.specs.Ratio.{ratio_up}
use Rattle.clocks.specs.Rows.{Row, row, hpre_row, ppre_row}
use Rattle.clocks.specs.Derive.{timclk_of, sysclk_of, hpre_of, ahb_for, apb_for, ahb_of, apb1_of, apb2_of, hse_given, clocks_of, config_of}
use Rattle.clocks.specs.declared.Clocks.{Clocks}
use Rattle.order.specs.Order.{src_of, pll_stored}
use Rattle.order.specs.Safe.{PllSet, Settled}
use Rattle.order.specs.Back.{hpre_divider, ppre_divider, p_output_in, sysclk_in, hclk_in, timclk1_in, timclk2_in, pclk1_in, pclk2_in, Reads, Powered}

-- ---- prescalers
-- reading a row's code gives its divider
record Coded (read : ℕ → ℕ) (x : Row) : Type 0 where
  is : read x.code ≡ x.divider

coded : {read : ℕ → ℕ} (d k : ℕ) → read k ≡ d → Coded read (row d k)
coded d k e = record { is = e }

either : (b : Bool) {read : ℕ → ℕ} {x y : Row} → Coded read x → Coded read y → Coded read (cond b x y)
either true p q = p
either false p q = q

-- HPRE by its ratio, the last row for a request of 0
hpre_rows : (r : ℕ) → Coded hpre_divider (hpre_row r)
unfolding hpre_row
hpre_rows r =
    either (leb r 1) (coded 1 0 refl)
    (either (leb r 2) (coded 2 8 refl)
    (either (leb r 5) (coded 4 9 refl)
    (either (leb r 11) (coded 8 10 refl)
    (either (leb r 39) (coded 16 11 refl)
    (either (leb r 95) (coded 64 12 refl)
    (either (leb r 191) (coded 128 13 refl)
    (either (leb r 383) (coded 256 14 refl) (coded 512 15 refl))))))))

hpre_coded : (s w : ℕ) → Coded hpre_divider (hpre_of s w)
unfolding hpre_of
hpre_coded s w = either (eqb w 0) (coded 512 15 refl) (hpre_rows (ratio_up s w))

ppre_coded : (r : ℕ) → Coded ppre_divider (ppre_row r)
unfolding ppre_row
ppre_coded r =
    either (leb r 1) (coded 1 0 refl)
    (either (leb r 2) (coded 2 4 refl)
    (either (leb r 6) (coded 4 5 refl)
    (either (leb r 12) (coded 8 6 refl) (coded 16 7 refl))))

-- HCLK and PCLK as granted are the divisions that the codes ask for
ahb_back : (s : ℕ) (q : Option Hertz) → s / hpre_divider (ahb_for s q).hpre ≡ (ahb_for s q).hclk.0
unfolding ahb_for
ahb_back s q = ap (λ (d : ℕ). s / d) (hpre_coded s _).is

apb_back : (most h : ℕ) (q : Option Hertz) → h / ppre_divider (apb_for most h q).ppre ≡ (apb_for most h q).pclk.0
unfolding apb_for
apb_back most h q = ap (λ (d : ℕ). h / d) (ppre_coded _).is

tim_back : (most h : ℕ) (q : Option Hertz) → timclk_of (h / ppre_divider (apb_for most h q).ppre) (ppre_divider (apb_for most h q).ppre) ≡ (apb_for most h q).timclk.0
unfolding apb_for
tim_back most h q = ap (λ (d : ℕ). timclk_of (h / d) d) (ppre_coded _).is

-- ---- SYSCLK
-- P's codes 0 to 3
p_back : (p : PLLP) → 2 * (pllp_code p + 1) ≡ p_divider_of p
p_back Div2 = refl
p_back Div4 = refl
p_back Div6 = refl
p_back Div8 = refl

-- PLLSRC
source_back : (h : Option HSEClock) → cond (eqb (src_of h) 0) 16000000 (asked_hertz (hse_given h)) ≡ input_of h
unfolding input_of
source_back None = refl
source_back (Some (Oscillator f)) = refl
source_back (Some (Bypass f)) = refl

-- SW: the P output as read, p, counts with `use_pll` alone; a plan with a 48 MHz choice stores the PLL's fields without it too
switch_back : (on : Bool) (h : Option HSEClock) (p q : ℕ) → (on ≡ true → p ≡ q)
    → cond (eqb (cond on 2 (src_of h)) 0) (base_of 16000000) (cond (eqb (cond on 2 (src_of h)) 1) (base_of (asked_hertz (hse_given h))) p) ≡ cond on q (base_of (input_of h))
unfolding input_of
switch_back true h p q e = e refl
switch_back false None p q e = refl
switch_back false (Some (Oscillator f)) p q e = refl
switch_back false (Some (Bypass f)) p q e = refl

-- `use_pll` alone has the plan store the PLL's fields
stored : (l : Pll) → l.use_pll ≡ true → pll_stored l ≡ true
stored l e = rw e

module _ (d : CFGR) (f : List ℕ) where
  p_output_back : PllSet d (config_of d) f → p_output_in (asked_hertz (hse_given d.sources.hse)) f ≡ p_output_of d
  unfolding p_output_of
  p_output_back s = rw (s.m, s.n, s.p, s.src, p_back d.pll.p, source_back d.sources.hse)

  sysclk_back : Settled d (config_of d) f → sysclk_in (asked_hertz (hse_given d.sources.hse)) f ≡ sysclk_of d
  unfolding sysclk_in sysclk_of
  sysclk_back s =
      rw s.source
      (switch_back d.pll.use_pll d.sources.hse _ _ (λ e. p_output_back (s.pll (stored d.pll e))))

  hclk_back : Settled d (config_of d) f → hclk_in (asked_hertz (hse_given d.sources.hse)) f ≡ (ahb_of d).hclk.0
  unfolding hclk_in config_of ahb_of
  hclk_back s = rw (sysclk_back s, s.bus.hpre) (ahb_back (sysclk_of d) d.requests.hclk)

  -- ---- what is promised
  pub reads_back : Settled d (config_of d) f → Reads (clocks_of d) f
  unfolding timclk1_in timclk2_in pclk1_in pclk2_in clocks_of config_of apb1_of apb2_of
  reads_back s =
      record {
        sysclk = sysclk_back s;
        hclk = hclk_back s;
        pclk1 = rw (hclk_back s, s.bus.ppre1) (apb_back _ (ahb_of d).hclk.0 d.requests.pclk1);
        pclk2 = rw (hclk_back s, s.bus.ppre2) (apb_back _ (ahb_of d).hclk.0 d.requests.pclk2);
        timclk1 = rw (hclk_back s, s.bus.ppre1) (tim_back _ (ahb_of d).hclk.0 d.requests.pclk1);
        timclk2 = rw (hclk_back s, s.bus.ppre2) (tim_back _ (ahb_of d).hclk.0 d.requests.pclk2);
        latency = s.bus.latency;
      }

  pub powered : Settled d (config_of d) f → pll_stored d.pll ≡ true → Powered (clocks_of d) f
  unfolding clocks_of config_of
  powered s on = record { vos = (s.pll on).vos; over = λ h. s.over on (lt-ltb _ _ h) }

-- two plans with the same HSE whose codes one file holds have the same clocks
module _ (x z : Clocks) (f : List ℕ) (e : x.hse ≡ z.hse) (r : Reads x f) (t : Reads z f) where
  agree : (g : ℕ → List ℕ → ℕ) {a b : ℕ} → g (asked_hertz x.hse) f ≡ a → g (asked_hertz z.hse) f ≡ b → a ≡ b
  agree g p q = sym p ∙ ap (λ (h : Option Hertz). g (asked_hertz h) f) e ∙ q

  pub same_clocks : (x.sysclk.0 ≡ z.sysclk.0) × (x.hclk.0 ≡ z.hclk.0) × (x.pclk1.0 ≡ z.pclk1.0) × (x.pclk2.0 ≡ z.pclk2.0)
  same_clocks =
      (agree sysclk_in r.sysclk t.sysclk, agree hclk_in r.hclk t.hclk, agree pclk1_in r.pclk1 t.pclk1, agree pclk2_in r.pclk2 t.pclk2)
