-- Document 01's table of refusals as far as derive goes: when it gives a number; of several, the first in turn is answered (`First`).
use Rattle.std.specs.Prelude.{ℕ, ◌<◌, List, ◌∷◌}
use Rattle.kinds.specs.Table.{Refused, limit_numbers}
use Rattle.kinds.specs.declared.CFGR.{CFGR}
use Rattle.clocks.specs.Derive.{sysclk_of}

-- 1 to 6 as the table has them; 8: derived SYSCLK above 216 MHz
pub data DeriveRefused (c : CFGR) : ℕ → Type 0 where
  limit : {n : ℕ} → Refused c n → DeriveRefused c n
  sysclk : 216000000 < sysclk_of c → DeriveRefused c 8

-- the numbers that it can give
abbrev pub derive_numbers : List ℕ
derive_numbers = 8 ∷ limit_numbers
