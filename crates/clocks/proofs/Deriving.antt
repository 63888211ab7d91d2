-- What each step to the derived clocks asks of those before it: HCLK, PCLKs and SYSCLK of a checked configuration stay in their ranges.
use Rattle.std.specs.Prelude.{Option, None, Some}
use Rattle.std.proofs.Common.{◌≡◌, refl, ℕ, ◌+◌, ◌*◌, ◌/◌, ◌%◌, ◌<◌, ◌≤◌, Bool, true, false, cond, leb, ap, le_trans, mul-le-mul, le-div_iff_mul-le, div-le_self, arith}
use Rattle.kinds.specs.Config.{input_of}
use Rattle.kinds.specs.Limits.{check_of}
use Rattle.kinds.specs.Table.{Between, AskedWithin, Checked}
use Rattle.kinds.specs.declared.Hertz.{Hertz}
use Rattle.kinds.specs.declared.Divider.{Divider}
use Rattle.kinds.specs.declared.CFGR.{CFGR}
use Rattle.pll.specs.Fixed.{InputOk, recip_of, vco_of, out_of}
use Rattle.kinds.proofs.Check.{check_told}
use Rattle.pll.proofs.Settings.{input_within, p_range}
use Rattle.clocks.specs.Rows.{Row, ppre_row}
use Rattle.pll.specs.Outputs.{base_of, p_output_of}
use Rattle.clocks.specs.Derive.{sysclk_of, wanted_of, ahb_for, cap_of, cap1_of, cap2_of}
use Rattle.clocks.specs.Inner.{ppre_held, Sysclk, Hclk, sysclk_by}
use Rattle.clocks.specs.declared.Prescaler.{Prescaler}
use Rattle.clocks.specs.declared.Ahb.{Ahb}
use Rattle.clocks.proofs.Table.{Power, power_low, power_high, hpre_power, ppre_power}

-- ---- HCLK
pub wanted_high : (most own : ℕ) (q : Option Hertz) → most ≤ 216000000 → wanted_of most own q ≤ 216000000
unfolding wanted_of
wanted_high most own None h = omega arith
wanted_high most own (Some f) h = omega arith

-- any row leaves something of SYSCLK
pub row_range : (s : ℕ) (x : Row) → Sysclk s → Power 9 x → Between 1 s (s / x.divider)
row_range s x k p = record { low = (le-div_iff_mul-le (power_low p)).1 (omega (arith, power_high p, k.low)); high = div-le_self s _ }

pub hclk_range : (s : ℕ) (q : Option Hertz) {h : Ahb} → Sysclk s → h ≡ ahb_for s q → Between 1 s h.hclk.0
unfolding ahb_for
hclk_range s q k e = rw (ap (λ (u : Ahb). u.hclk.0) e) (row_range s _ k (hpre_power s (wanted_of s s q)))

-- ---- PCLK
pub wanted_range : (most h : ℕ) (q : Option Hertz) → Hclk most h q → Between 1 216000000 (wanted_of most h q)
unfolding wanted_of
wanted_range most h None k = let a = k.most_low in let b = k.most_high in let d = k.low in record { low = omega arith; high = omega arith }
wanted_range most h (Some f) k = let a = k.most_low in let b = k.most_high in let d = k.asked.low in record { low = omega arith; high = omega arith }

pub ppre_pos : {x : Prescaler Divider} (r : ℕ) → x ≡ ppre_held (ppre_row r) → 1 ≤ x.div.0
ppre_pos r e = rw (ap (λ (z : Prescaler Divider). z.div.0) e) (power_low (ppre_power r))

weaken : (hi : ℕ) (q : Option Hertz) → hi ≤ 216000000 → AskedWithin 12500000 hi q → AskedWithin 12500000 216000000 q
weaken hi None h a = tt
weaken hi (Some f) h a = record { low = a.low; high = le_trans a.high h }

-- what a PCLK asks of HCLK, its cap (lo or hi) and its request (up to hi)
pub hclk_facts : (s lo hi h : ℕ) (q : Option Hertz) {most : ℕ} → Sysclk s → Between 1 s h → most ≡ cap_of s lo hi → Between 1 216000000 lo → Between 1 216000000 hi → AskedWithin 12500000 hi q → Hclk most h q
unfolding cap_of
hclk_facts s lo hi h q y x e a b z = rw e (at (leb s 180000000))
  where
    by : (cap : ℕ) → Between 1 216000000 cap → Hclk cap h q
    by cap r = record { most_low = r.low; most_high = r.high; low = x.low; high = le_trans x.high y.high; asked = weaken hi q b.high z }

    at : (t : Bool) → Hclk (cond t lo hi) h q
    at true = by lo a
    at false = by hi b

-- ---- SYSCLK is a multiple of 16, and large enough
mul_ge : (x y : ℕ) {a b : ℕ} → x ≤ a → y ≤ b → x * y ≤ a * b
mul_ge x y h k = mul-le-mul h k

recip_low : (k q m : ℕ) → 0 < m → q * m ≤ 2147483648 → 2 * k ≤ q + 1 → k ≤ recip_of m
unfolding recip_of
recip_low k q m p a b = let d : q ≤ 2147483648 / m = (le-div_iff_mul-le p).1 a in omega arith

vco_low : (f n m : ℕ) → 1000000 ≤ f → 50 ≤ n → 2 ≤ m → m ≤ 63 → 793600 ≤ vco_of f n m
unfolding vco_of
vco_low f n m a b d e =
    let r : 17043521 ≤ recip_of m = recip_low 17043521 34087042 m (omega arith) (omega arith) (omega arith) in
    let p : 62500 * 50 * 17043521 ≤ f / 16 * n * recip_of m = mul_ge (62500 * 50) 17043521 (mul_ge 62500 50 (omega arith) b) r in
    omega arith

out_low : (v d : ℕ) → 793600 ≤ v → 2 ≤ d → d ≤ 8 → 1024 ≤ out_of v d
unfolding out_of
out_low v d a b e =
    let r : 134217728 ≤ recip_of d = recip_low 134217728 268435456 d (omega arith) (omega arith) (omega arith) in
    let p : 49600 * 134217728 ≤ v / 16 * recip_of d = mul_ge 49600 134217728 (omega arith) r in
    omega arith

p_output_low : (c : CFGR) → Checked c → 1024 ≤ p_output_of c
unfolding p_output_of
p_output_low c k =
    let i = input_within c.sources.hse k.hse in
    let d = p_range c.pll.p in
    out_low _ _ (vco_low _ _ _ i.low k.pll.n.low k.pll.m.low k.pll.m.high) d.low d.high

p_output_16 : (c : CFGR) → p_output_of c % 16 ≡ 0
unfolding p_output_of out_of
p_output_16 c = omega arith

base_16 : (f : ℕ) → base_of f % 16 ≡ 0
unfolding base_of
base_16 f = omega arith

base_low : (f : ℕ) → InputOk f → 1024 ≤ base_of f
unfolding base_of
base_low f i = omega (arith, i.low)

-- the SYSCLK of a configuration is that of its input and main PLL
sysclk_by_lem : (c : CFGR) → sysclk_by (input_of c.sources.hse) c.pll ≡ sysclk_of c
unfolding sysclk_by sysclk_of p_output_of
sysclk_by_lem c = refl

-- a SYSCLK up to 216 MHz is one that can be divided
pub sysclk_facts : (c : CFGR) → Checked c → sysclk_of c ≤ 216000000 → Sysclk (sysclk_of c)
unfolding sysclk_of
sysclk_facts c k = at c.pll.use_pll
  where
    at : (t : Bool) → cond t (p_output_of c) (base_of (input_of c.sources.hse)) ≤ 216000000 → Sysclk (cond t (p_output_of c) (base_of (input_of c.sources.hse)))
    at true h = record { low = p_output_low c k; high = h; sixteen = p_output_16 c }
    at false h = record { low = base_low _ (input_within c.sources.hse k.hse); high = h; sixteen = base_16 _ }

-- ---- a configuration that the check passes
module _ (c : CFGR) (k : check_of c ≡ 0) where
  pub sysclk_kept : {s : ℕ} → s ≡ sysclk_of c → s ≤ 216000000 → Sysclk s
  sysclk_kept e h = rw e (sysclk_facts c (check_told c k) (rw e at h))

  pub pclk1_kept : {s m : ℕ} {a : Ahb} → Sysclk s → a ≡ ahb_for s c.requests.hclk → m ≡ cap1_of s → Hclk m a.hclk.0 c.requests.pclk1
  pclk1_kept {s = s} x ea em =
      hclk_facts s _ _ _ _ x (hclk_range s _ x ea) em (record { low = omega arith; high = omega arith }) (record { low = omega arith; high = omega arith }) (check_told c k).requests.pclk1

  pub pclk2_kept : {s m : ℕ} {a : Ahb} → Sysclk s → a ≡ ahb_for s c.requests.hclk → m ≡ cap2_of s → Hclk m a.hclk.0 c.requests.pclk2
  pclk2_kept {s = s} x ea em =
      hclk_facts s _ _ _ _ x (hclk_range s _ x ea) em (record { low = omega arith; high = omega arith }) (record { low = omega arith; high = omega arith }) (check_told c k).requests.pclk2
