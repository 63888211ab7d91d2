-- The settings of a checked configuration keep the limits of an output: the input by its kind, P divider by divider.
use Rattle.std.specs.Prelude.{None, Option, Some, Ok}
use Prim.Native.Nat.{ℕ}
use mathlib.Core.Path.{◌≡◌}
use native.Mathlib.Omega.{arith}
use Rattle.kinds.specs.Config.{input_of}
use Rattle.kinds.specs.Codes.{p_divider_of}
use Rattle.kinds.specs.Limits.{check_of}
use Rattle.kinds.specs.Table.{Between, HseWithin}
use Rattle.kinds.proofs.Check.{check_told}
use Rattle.kinds.specs.declared.CFGR.{CFGR}
use Rattle.kinds.specs.declared.PLLP.{PLLP}
use Rattle.kinds.specs.declared.PLLP.TheVariants.{Div2, Div4, Div6, Div8}
use Rattle.kinds.specs.declared.HSEClock.{HSEClock}
use Rattle.kinds.specs.declared.HSEClock.TheVariants.{Oscillator, Bypass}
use Rattle.pll.specs.Fixed.{InputOk, SettingsOk, vco_of, out_of, output_of}
use Rattle.pll.proofs.Theorems.{output_given}

pub input_within : (h : Option HSEClock) → HseWithin h → InputOk (input_of h)
unfolding input_of
input_within None w = record { low = omega arith; high = omega arith }
input_within (Some (Oscillator f)) w = record { low = omega (arith, w.low); high = omega (arith, w.high) }
input_within (Some (Bypass f)) w = w

pub p_range : (p : PLLP) → Between 2 8 (p_divider_of p)
p_range Div2 = record { low = omega arith; high = omega arith }
p_range Div4 = record { low = omega arith; high = omega arith }
p_range Div6 = record { low = omega arith; high = omega arith }
p_range Div8 = record { low = omega arith; high = omega arith }

-- an M and an N within their limits, and a P
pub p_settings : (m n : ℕ) (p : PLLP) {d : ℕ} → Between 2 63 m → Between 50 432 n → d ≡ p_divider_of p → SettingsOk m n d
p_settings m n p a b e =
    let r = p_range p in
    rw e (record { m_low = a.low; m_high = a.high; n_low = b.low; n_high = b.high; d_low = r.low; d_high = omega (arith, r.high) })

-- ---- what the check leaves of an output's settings
module _ (c : CFGR) (k : check_of c ≡ 0) where
  -- an output of settings that keep their limits is never refused
  pub output_kept : {n d : ℕ} → Between 50 432 n → Between 2 15 d → output_of (input_of c.sources.hse) c.pll.m.0 n d ≡ Ok (out_of (vco_of (input_of c.sources.hse) n c.pll.m.0) d)
  output_kept en ed =
      let w = check_told c k in
      output_given _ _ _ _ (input_within c.sources.hse w.hse) (record { m_low = w.pll.m.low; m_high = w.pll.m.high; n_low = en.low; n_high = en.high; d_low = ed.low; d_high = ed.high })

  -- its N beside a divider by P or its Q; likewise PLLSAI's N
  pub n_kept : Between 50 432 c.pll.n.0
  n_kept = (check_told c k).pll.n

  pub q_kept : Between 2 15 c.pll.q.0
  q_kept = (check_told c k).pll.q

  pub sai_n_kept : Between 50 432 c.sai.n.0
  sai_n_kept = (check_told c k).sai.n

pub p_kept : (p : PLLP) {d : ℕ} → d ≡ p_divider_of p → Between 2 15 d
p_kept p e = let r = p_range p in rw e (record { low = r.low; high = omega (arith, r.high) })
