-- Document 01's table of refusals, 1 to 6, as facts: when a number is given, which can be, and what a configuration holds that none refuses.
use Rattle.std.specs.Prelude.{ℕ, ◌≤◌, ◌<◌, ◌⊎◌, List, [], ◌∷◌, None, Option, Some}
use Rattle.kinds.specs.declared.CFGR.{CFGR}
use Rattle.kinds.specs.declared.Requests.{Requests}
use Rattle.kinds.specs.declared.Pll.{Pll}
use Rattle.kinds.specs.declared.Sai.{Sai}
use Rattle.kinds.specs.declared.I2s.{I2s}
use Rattle.kinds.specs.declared.HSEClock.{HSEClock}
use Rattle.kinds.specs.declared.HSEClock.TheVariants.{Oscillator, Bypass}
use Rattle.kinds.specs.declared.Hertz.{Hertz}

-- x lies in lo to hi, all ends inclusive; or it doesn't
pub record Between (lo hi x : ℕ) : Type 0 where
  pub low : lo ≤ x
  pub high : x ≤ hi

abbrev pub Outside : ℕ → ℕ → ℕ → Type 0
Outside lo hi x = (x < lo) ⊎ (hi < x)

-- HSE: 4 to 26 MHz (oscillator), 1 to 50 MHz (bypass)
abbrev pub HseWithin : Option HSEClock → Type 0
HseWithin None = Unit {0}
HseWithin (Some (Oscillator f)) = Between 4000000 26000000 f.0
HseWithin (Some (Bypass f)) = Between 1000000 50000000 f.0

abbrev pub HseOutside : Option HSEClock → Type 0
HseOutside None = ⊥
HseOutside (Some (Oscillator f)) = Outside 4000000 26000000 f.0
HseOutside (Some (Bypass f)) = Outside 1000000 50000000 f.0

-- a request, where there is one
abbrev pub AskedWithin : ℕ → ℕ → Option Hertz → Type 0
AskedWithin lo hi None = Unit {0}
AskedWithin lo hi (Some f) = Between lo hi f.0

abbrev pub AskedOutside : ℕ → ℕ → Option Hertz → Type 0
AskedOutside lo hi None = ⊥
AskedOutside lo hi (Some f) = Outside lo hi f.0

-- the table: number n is given when
pub data Refused (c : CFGR) : ℕ → Type 0 where
  hse : HseOutside c.sources.hse → Refused c 1
  hclk : AskedOutside 0 216000000 c.requests.hclk → Refused c 2
  sysclk : AskedOutside 12500000 216000000 c.requests.sysclk → Refused c 3
  pclk1 : AskedOutside 12500000 54000000 c.requests.pclk1 → Refused c 4
  pclk2 : AskedOutside 12500000 108000000 c.requests.pclk2 → Refused c 5
  pllm : Outside 2 63 c.pll.m.0 → Refused c 6
  plln : Outside 50 432 c.pll.n.0 → Refused c 6
  pllq : Outside 2 15 c.pll.q.0 → Refused c 6
  pllsain : Outside 50 432 c.sai.n.0 → Refused c 6
  pllsaiq : Outside 2 15 c.sai.q.0 → Refused c 6
  plli2sn : Outside 50 432 c.i2s.n.0 → Refused c 6
  plli2sr : Outside 2 7 c.i2s.r.0 → Refused c 6
  plli2sq : Outside 2 15 c.i2s.q.0 → Refused c 6

-- the numbers that it can give
abbrev pub limit_numbers : List ℕ
limit_numbers = 1 ∷ 2 ∷ 3 ∷ 4 ∷ 5 ∷ 6 ∷ []

-- every limit kept, by groups
pub record RequestsWithin (q : Requests) : Type 0 where
  pub hclk : AskedWithin 0 216000000 q.hclk
  pub sysclk : AskedWithin 12500000 216000000 q.sysclk
  pub pclk1 : AskedWithin 12500000 54000000 q.pclk1
  pub pclk2 : AskedWithin 12500000 108000000 q.pclk2

pub record PllWithin (p : Pll) : Type 0 where
  pub m : Between 2 63 p.m.0
  pub n : Between 50 432 p.n.0
  pub q : Between 2 15 p.q.0

pub record SaiWithin (s : Sai) : Type 0 where
  pub n : Between 50 432 s.n.0
  pub q : Between 2 15 s.q.0

pub record I2sWithin (i : I2s) : Type 0 where
  pub n : Between 50 432 i.n.0
  pub r : Between 2 7 i.r.0
  pub q : Between 2 15 i.q.0

pub record Checked (c : CFGR) : Type 0 where
  pub hse : HseWithin c.sources.hse
  pub requests : RequestsWithin c.requests
  pub pll : PllWithin c.pll
  pub sai : SaiWithin c.sai
  pub i2s : I2sWithin c.i2s
