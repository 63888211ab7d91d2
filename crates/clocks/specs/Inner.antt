-- What the private functions ask of each other and hand on. No promise names these.
use Rattle.std.specs.Prelude.{◌≡◌, ℕ, ◌%◌, ◌^◌, ◌≤◌, cond, pos, Float, Option}
use Rattle.std.specs.Float.{binary32}
use Rattle.std.specs.Float.Ieee.{of_int, to_unsigned}
use Rattle.kinds.specs.Codes.{p_divider_of}
use Rattle.kinds.specs.Table.{AskedWithin}
use Rattle.kinds.specs.declared.Pll.{Pll}
use Rattle.kinds.specs.declared.Requests.{Requests}
use Rattle.kinds.specs.declared.Hertz.{Hertz}
use Rattle.kinds.specs.declared.Divider.{Divider}
use Rattle.pll.specs.Fixed.{vco_of, out_of}
use Rattle.pll.specs.Outputs.{base_of}
use Rattle.clocks.specs.Rows.{Row}
use Rattle.clocks.specs.Derive.{cap1_of, cap2_of, ahb_for, apb_for}
use Rattle.clocks.specs.declared.Prescaler.{Prescaler}
use Rattle.clocks.specs.declared.Granted.{Granted}

-- a row as the code holds it, HPRE's divider as an f32
abbrev pub hpre_held : Row → Prescaler Float
hpre_held x = record { div = of_int binary32 (pos x.divider); code = x.code }

abbrev pub ppre_held : Row → Prescaler Divider
ppre_held x = record { div = record { 0 = x.divider }; code = x.code }

-- the whole number that an f32 divider is
abbrev pub whole_of : Float → ℕ
whole_of x = to_unsigned 32 x

-- x is one of 1, 2, 4 .. 512, as an f32
pub record PowerOfTwo (x : Float) : Type 0 where
  pub exponent : ℕ
  pub small : exponent ≤ 9
  pub is : x ≡ of_int binary32 (pos (2 ^ exponent))

-- a SYSCLK that is divided: a multiple of 16 from 1,024 to 216 MHz, so that each HPRE divider leaves something
pub record Sysclk (s : ℕ) : Type 0 where
  pub low : 1024 ≤ s
  pub high : s ≤ 216000000
  pub sixteen : s % 16 ≡ 0

-- an HCLK that is divided, beside PCLK's cap and request
pub record Hclk (most h : ℕ) (q : Option Hertz) : Type 0 where
  pub most_low : 1 ≤ most
  pub most_high : most ≤ 216000000
  pub low : 1 ≤ h
  pub high : h ≤ 216000000
  pub asked : AskedWithin 12500000 216000000 q

-- SYSCLK by the input and the group of the main PLL
unfoldable pub sysclk_by : ℕ → Pll → ℕ
sysclk_by f l = cond l.use_pll (out_of (vco_of f l.n.0 l.m.0) (p_divider_of l.p)) (base_of f)

-- what a SYSCLK grants
unfoldable pub granted_of : ℕ → Requests → Granted
granted_of s q =
    record {
      sysclk = record { 0 = s };
      ahb = ahb_for s q.hclk;
      apb1 = apb_for (cap1_of s) (ahb_for s q.hclk).hclk.0 q.pclk1;
      apb2 = apb_for (cap2_of s) (ahb_for s q.hclk).hclk.0 q.pclk2;
    }
