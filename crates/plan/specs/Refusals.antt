-- Document 01's table of refusals as far as plan goes: when it gives a number; of several, the first in turn is answered (`First`).
use Rattle.std.specs.Prelude.{ℕ, ◌/◌, ◌<◌, ◌≡◌, true, List, [], ◌∷◌, ◌++◌}
use Rattle.kinds.specs.Config.{input_of}
use Rattle.kinds.specs.Codes.{p_divider_of}
use Rattle.kinds.specs.Table.{Outside, Refused}
use Rattle.kinds.specs.declared.CFGR.{CFGR}
use Rattle.configure.specs.Ways.{Seeks, NoneGood, configure_numbers, Settles}
use Rattle.plan.specs.Plan.{rough_of}

-- floor(input/M) × N of a configuration as planned
abbrev pub rough_in : CFGR → ℕ → ℕ
rough_in d n = rough_of (input_of d.sources.hse) d.pll.m.0 n

-- PLLSAI used, its VCO outside 192 to 432 MHz
abbrev pub SaiVco : CFGR → Type 0
SaiVco d = (d.sai.use_pllsai ≡ true) × Outside 192000000 432000000 (rough_in d d.sai.n.0)

-- PLLSAI used, its P output above 48 MHz
abbrev pub SaiP : CFGR → Type 0
SaiP d = (d.sai.use_pllsai ≡ true) × (48000000 < rough_in d d.sai.n.0 / p_divider_of d.sai.p)

-- PLLI2S used, its VCO outside 192 to 432 MHz
abbrev pub I2sVco : CFGR → Type 0
I2sVco d = (d.i2s.use_plli2s ≡ true) × Outside 192000000 432000000 (rough_in d d.i2s.n.0)

pub data Late (d : CFGR) : ℕ → Type 0 where
  sai_vco : SaiVco d → Late d 9
  sai_p : SaiP d → Late d 10
  i2s_vco : I2sVco d → Late d 11

-- the numbers that this can be
abbrev pub late_numbers : List ℕ
late_numbers = 9 ∷ 10 ∷ 11 ∷ []

-- 1 to 6 as the table has them; 7: the search has no answer; 9 to 11 with the M planned
pub data PlanRefused (c : CFGR) : ℕ → Type 0 where
  limit : {n : ℕ} → Refused c n → PlanRefused c n
  search : Seeks c → NoneGood c → PlanRefused c 7
  late : {d : CFGR} {k n : ℕ} → Settles c d k → Late d n → PlanRefused c n

-- the numbers that plan can give
abbrev pub plan_numbers : List ℕ
plan_numbers = configure_numbers ++ late_numbers
