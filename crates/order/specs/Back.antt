-- Reading a register file's codes back into clocks, by document 01's rules. h is HSE's frequency, which no register holds.
use Rattle.std.specs.Prelude.{ℕ, ◌+◌, ◌-◌, ◌*◌, ◌/◌, ◌<◌, cond, ◌≡◌, List, [], ◌∷◌, eqb, get_or}
use Rattle.kinds.specs.Codes.{asked_hertz}
use Rattle.pll.specs.Fixed.{vco_of, out_of}
use Rattle.pll.specs.Outputs.{base_of}
use Rattle.clocks.specs.Derive.{timclk_of, wait_states_of, scale_of}
use Rattle.clocks.specs.declared.Clocks.{Clocks}
use Rattle.order.specs.Places.{SW, PPRE1, PPRE2, HPRE, PLLM, PLLN, PLLP, PLLSRC, VOS, LATENCY}
use Rattle.order.specs.Safe.{OverSet}

-- HPRE's codes 8 to 15: 2, 4, 8, 16, 64, 128, 256, 512; below, 1
abbrev pub hpre_divider : ℕ → ℕ
hpre_divider code = get_or (1 ∷ 2 ∷ 4 ∷ 8 ∷ 16 ∷ 64 ∷ 128 ∷ 256 ∷ 512 ∷ []) (code - 7) 512

-- PPRE's codes 4 to 7: 2, 4, 8, 16; below, 1
abbrev pub ppre_divider : ℕ → ℕ
ppre_divider code = get_or (1 ∷ 2 ∷ 4 ∷ 8 ∷ 16 ∷ []) (code - 3) 16

-- the PLL's input by PLLSRC; its P output, P's codes 0 to 3 being 2, 4, 6, 8
abbrev pub source_in : ℕ → List ℕ → ℕ
source_in h f = cond (eqb (get_or f PLLSRC 0) 0) 16000000 h

abbrev pub p_output_in : ℕ → List ℕ → ℕ
p_output_in h f = out_of (vco_of (source_in h f) (get_or f PLLN 0) (get_or f PLLM 0)) (2 * (get_or f PLLP 0 + 1))

-- SYSCLK by SW: HSI 0, HSE 1, PLL 2
unfoldable pub sysclk_in : ℕ → List ℕ → ℕ
sysclk_in h f = cond (eqb (get_or f SW 0) 0) (base_of 16000000) (cond (eqb (get_or f SW 0) 1) (base_of h) (p_output_in h f))

-- HCLK and a PCLK by their prescalers
unfoldable pub hclk_in : ℕ → List ℕ → ℕ
hclk_in h f = sysclk_in h f / hpre_divider (get_or f HPRE 0)

unfoldable pub pclk1_in : ℕ → List ℕ → ℕ
pclk1_in h f = hclk_in h f / ppre_divider (get_or f PPRE1 0)

unfoldable pub pclk2_in : ℕ → List ℕ → ℕ
pclk2_in h f = hclk_in h f / ppre_divider (get_or f PPRE2 0)

-- a timer clock is PCLK if its divider is 1, else twice PCLK
unfoldable pub timclk1_in : ℕ → List ℕ → ℕ
timclk1_in h f = timclk_of (pclk1_in h f) (ppre_divider (get_or f PPRE1 0))

unfoldable pub timclk2_in : ℕ → List ℕ → ℕ
timclk2_in h f = timclk_of (pclk2_in h f) (ppre_divider (get_or f PPRE2 0))

-- the file's codes are those of the clocks x
pub record Reads (x : Clocks) (f : List ℕ) : Type 0 where
  pub sysclk : sysclk_in (asked_hertz x.hse) f ≡ x.sysclk.0
  pub hclk : hclk_in (asked_hertz x.hse) f ≡ x.hclk.0
  pub pclk1 : pclk1_in (asked_hertz x.hse) f ≡ x.pclk1.0
  pub pclk2 : pclk2_in (asked_hertz x.hse) f ≡ x.pclk2.0
  pub timclk1 : timclk1_in (asked_hertz x.hse) f ≡ x.timclk1.0
  pub timclk2 : timclk2_in (asked_hertz x.hse) f ≡ x.timclk2.0
  pub latency : get_or f LATENCY 0 ≡ wait_states_of x.sysclk.0

-- and, where the plan stores the PLL's fields: VOS is SYSCLK's scale, and above 180 MHz over-drive is on
pub record Powered (x : Clocks) (f : List ℕ) : Type 0 where
  pub vos : get_or f VOS 0 ≡ scale_of x.sysclk.0
  pub over : 180000000 < x.sysclk.0 → OverSet f
