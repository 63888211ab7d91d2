-- Document 01, "Numbers for every refusal", 1 to 6: which number each limit gives, and the check of a configuration.
use Rattle.std.specs.Prelude.{ℕ, cond, ◌&&◌, leb, eqb, None, Option, Some}
use Rattle.kinds.specs.declared.CFGR.{CFGR}
use Rattle.kinds.specs.declared.Requests.{Requests}
use Rattle.kinds.specs.declared.Pll.{Pll}
use Rattle.kinds.specs.declared.Sai.{Sai}
use Rattle.kinds.specs.declared.I2s.{I2s}
use Rattle.kinds.specs.declared.Divider.{Divider}
use Rattle.kinds.specs.declared.Factor.{Factor}
use Rattle.kinds.specs.declared.Hertz.{Hertz}
use Rattle.kinds.specs.declared.HSEClock.{HSEClock}
use Rattle.kinds.specs.declared.HSEClock.TheVariants.{Oscillator, Bypass}

-- number k where x lies outside lo to hi, both ends inside; else 0
unfoldable pub outside_of : ℕ → ℕ → ℕ → ℕ → ℕ
outside_of lo hi k x = cond (leb lo x && leb x hi) 0 k

-- 1: HSE outside 4 to 26 MHz (oscillator) or 1 to 50 MHz (bypass)
abbrev pub hse_refusal : Option HSEClock → ℕ
hse_refusal None = 0
hse_refusal (Some (Oscillator f)) = outside_of 4000000 26000000 1 f.0
hse_refusal (Some (Bypass f)) = outside_of 1000000 50000000 1 f.0

-- a frequency outside lo to hi
abbrev pub limited : ℕ → ℕ → ℕ → Hertz → ℕ
limited lo hi k f = outside_of lo hi k f.0

-- 2: HCLK request above 216 MHz
abbrev pub hclk_refusal : Hertz → ℕ
hclk_refusal = limited 0 216000000 2

-- 3: SYSCLK request outside 12.5 to 216 MHz
abbrev pub sysclk_refusal : Hertz → ℕ
sysclk_refusal = limited 12500000 216000000 3

-- 4: PCLK1 request outside 12.5 to 54 MHz
abbrev pub pclk1_refusal : Hertz → ℕ
pclk1_refusal = limited 12500000 54000000 4

-- 5: PCLK2 request outside 12.5 to 108 MHz
abbrev pub pclk2_refusal : Hertz → ℕ
pclk2_refusal = limited 12500000 108000000 5

-- 6: M outside 2..63, any N outside 50..432, any Q outside 2..15, PLLI2S R outside 2..7
abbrev pub m_refusal : Divider → ℕ
m_refusal d = outside_of 2 63 6 d.0

abbrev pub n_refusal : Factor → ℕ
n_refusal n = outside_of 50 432 6 n.0

abbrev pub q_refusal : Divider → ℕ
q_refusal d = outside_of 2 15 6 d.0

abbrev pub r_refusal : Divider → ℕ
r_refusal d = outside_of 2 7 6 d.0

-- a request that isn't there is never refused
abbrev pub asked_refusal : (Hertz → ℕ) → Option Hertz → ℕ
asked_refusal limit None = 0
asked_refusal limit (Some f) = limit f

-- several at once: the first in turn; the parts below stand in the order of their turns
unfoldable pub first_refusal : ℕ → ℕ → ℕ
first_refusal a b = cond (eqb a 0) b a

abbrev pub requests_refusal : Requests → ℕ
requests_refusal q =
    first_refusal (asked_refusal hclk_refusal q.hclk)
    (first_refusal (asked_refusal sysclk_refusal q.sysclk)
    (first_refusal (asked_refusal pclk1_refusal q.pclk1)
    (asked_refusal pclk2_refusal q.pclk2)))

abbrev pub pll_refusal : Pll → ℕ
pll_refusal p = first_refusal (m_refusal p.m) (first_refusal (n_refusal p.n) (q_refusal p.q))

abbrev pub sai_refusal : Sai → ℕ
sai_refusal s = first_refusal (n_refusal s.n) (q_refusal s.q)

abbrev pub i2s_refusal : I2s → ℕ
i2s_refusal i = first_refusal (n_refusal i.n) (first_refusal (r_refusal i.r) (q_refusal i.q))

-- the check of 1 to 6: 0 where nothing is refused
unfoldable pub check_of : CFGR → ℕ
check_of c =
    first_refusal (hse_refusal c.sources.hse)
    (first_refusal (requests_refusal c.requests)
    (first_refusal (pll_refusal c.pll)
    (first_refusal (sai_refusal c.sai) (i2s_refusal c.i2s))))
