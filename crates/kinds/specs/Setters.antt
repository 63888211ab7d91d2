-- The Rust's setters: what each hands back, by name and in the Rust's order.
use Rattle.std.specs.Prelude.{ℕ, true, cond, eqb, Some, Result, Ok, Err}
use Rattle.kinds.specs.declared.CFGR.{CFGR}
use Rattle.kinds.specs.declared.refusals.Refusal.{Refusal}
use Rattle.kinds.specs.declared.Unset.{Unset}
use Rattle.kinds.specs.Refusals.{number_of, refusal_of}
use Rattle.kinds.specs.declared.Sources.{Sources}
use Rattle.kinds.specs.declared.Requests.{Requests}
use Rattle.kinds.specs.declared.Pll.{Pll}
use Rattle.kinds.specs.declared.Sai.{Sai}
use Rattle.kinds.specs.declared.I2s.{I2s}
use Rattle.kinds.specs.declared.Mco.{Mco}
use Rattle.kinds.specs.declared.Divider.{Divider}
use Rattle.kinds.specs.declared.Factor.{Factor}
use Rattle.kinds.specs.declared.Hertz.{Hertz}
use Rattle.kinds.specs.declared.PLLP.{PLLP}
use Rattle.kinds.specs.declared.MCO1.{MCO1}
use Rattle.kinds.specs.declared.MCO2.{MCO2}
use Rattle.kinds.specs.declared.MCOPRE.{MCOPRE}
use Rattle.kinds.specs.declared.HSEClock.{HSEClock}
use Rattle.kinds.specs.declared.HSEClock.TheVariants.{Oscillator, Bypass}
use Rattle.kinds.specs.declared.HSEClockMode.{HSEClockMode}
use Rattle.kinds.specs.declared.HSEClockMode.TheVariants.{Oscillator as ByCrystal, Bypass as ByClock}
use Rattle.kinds.specs.declared.LSEClockMode.{LSEClockMode}
use Rattle.kinds.specs.declared.PLL48CLK.{PLL48CLK}
use Rattle.kinds.specs.Limits.{hse_refusal, hclk_refusal, sysclk_refusal, pclk1_refusal, pclk2_refusal, m_refusal, n_refusal, q_refusal, r_refusal}

-- what a setter hands back: a configuration, or its refusal with the configuration as it came
abbrev pub Setting : Type 0
Setting = Result CFGR Unset

-- the number of such an answer, 0 where nothing is refused; and the configuration that it hands back in any case
abbrev pub setting_number : Setting → ℕ
setting_number (Ok d) = 0
setting_number (Err r) = number_of r.refusal

abbrev pub handed : Setting → CFGR
handed (Ok d) = d
handed (Err r) = r.cfgr

-- number n of 1 to 6: that refusal, and the configuration c as it came; 0: the configuration d as it was to become
unfoldable pub setting_of : ℕ → CFGR → CFGR → Setting
setting_of n c d = cond (eqb n 0) (Ok d) (Err (record { refusal = refusal_of n; cfgr = c }))

-- a setter that takes every value
abbrev pub set : CFGR → Setting
set d = Ok d

-- a refusal, with the configuration as it came
abbrev pub held_to : CFGR → Result (Unit {0}) Refusal → Result (Unit {0}) Unset
held_to c (Ok t) = Ok t
held_to c (Err k) = Err (record { refusal = k; cfgr = c })

-- a configuration with one group in another's place
abbrev pub put_sources : CFGR → Sources → CFGR
put_sources c x = record { sources = x; requests = c.requests; pll = c.pll; sai = c.sai; i2s = c.i2s; mco = c.mco }

abbrev pub put_requests : CFGR → Requests → CFGR
put_requests c x = record { sources = c.sources; requests = x; pll = c.pll; sai = c.sai; i2s = c.i2s; mco = c.mco }

abbrev pub put_pll : CFGR → Pll → CFGR
put_pll c x = record { sources = c.sources; requests = c.requests; pll = x; sai = c.sai; i2s = c.i2s; mco = c.mco }

abbrev pub put_sai : CFGR → Sai → CFGR
put_sai c x = record { sources = c.sources; requests = c.requests; pll = c.pll; sai = x; i2s = c.i2s; mco = c.mco }

abbrev pub put_i2s : CFGR → I2s → CFGR
put_i2s c x = record { sources = c.sources; requests = c.requests; pll = c.pll; sai = c.sai; i2s = x; mco = c.mco }

abbrev pub put_mco : CFGR → Mco → CFGR
put_mco c x = record { sources = c.sources; requests = c.requests; pll = c.pll; sai = c.sai; i2s = c.i2s; mco = x }

-- what HSE is with a frequency and a mode
abbrev pub hse_of : Hertz → HSEClockMode → HSEClock
hse_of f ByCrystal = Oscillator f
hse_of f ByClock = Bypass f

-- a configuration with one field in another's place
abbrev pub with_hse : CFGR → HSEClock → CFGR
with_hse c x = put_sources c (record { hse = Some x; lse = c.sources.lse; lsi = c.sources.lsi })

abbrev pub with_hclk : CFGR → Hertz → CFGR
with_hclk c x = put_requests c (record { hclk = Some x; sysclk = c.requests.sysclk; pclk1 = c.requests.pclk1; pclk2 = c.requests.pclk2 })

abbrev pub with_sysclk : CFGR → Hertz → CFGR
with_sysclk c x = put_requests c (record { hclk = c.requests.hclk; sysclk = Some x; pclk1 = c.requests.pclk1; pclk2 = c.requests.pclk2 })

abbrev pub with_pclk1 : CFGR → Hertz → CFGR
with_pclk1 c x = put_requests c (record { hclk = c.requests.hclk; sysclk = c.requests.sysclk; pclk1 = Some x; pclk2 = c.requests.pclk2 })

abbrev pub with_pclk2 : CFGR → Hertz → CFGR
with_pclk2 c x = put_requests c (record { hclk = c.requests.hclk; sysclk = c.requests.sysclk; pclk1 = c.requests.pclk1; pclk2 = Some x })

abbrev pub with_lse : CFGR → LSEClockMode → CFGR
with_lse c x = put_sources c (record { hse = c.sources.hse; lse = Some x; lsi = c.sources.lsi })

abbrev pub with_lsi : CFGR → CFGR
with_lsi c = put_sources c (record { hse = c.sources.hse; lse = c.sources.lse; lsi = true })

abbrev pub with_use_pll : CFGR → CFGR
with_use_pll c = put_pll c (record { use_pll = true; pll48clk = c.pll.pll48clk; m = c.pll.m; n = c.pll.n; p = c.pll.p; q = c.pll.q })

abbrev pub with_pll48clk : CFGR → PLL48CLK → CFGR
with_pll48clk c x = put_pll c (record { use_pll = c.pll.use_pll; pll48clk = Some x; m = c.pll.m; n = c.pll.n; p = c.pll.p; q = c.pll.q })

abbrev pub with_pllm : CFGR → Divider → CFGR
with_pllm c x = put_pll c (record { use_pll = c.pll.use_pll; pll48clk = c.pll.pll48clk; m = x; n = c.pll.n; p = c.pll.p; q = c.pll.q })

abbrev pub with_plln : CFGR → Factor → CFGR
with_plln c x = put_pll c (record { use_pll = c.pll.use_pll; pll48clk = c.pll.pll48clk; m = c.pll.m; n = x; p = c.pll.p; q = c.pll.q })

abbrev pub with_pllp : CFGR → PLLP → CFGR
with_pllp c x = put_pll c (record { use_pll = c.pll.use_pll; pll48clk = c.pll.pll48clk; m = c.pll.m; n = c.pll.n; p = x; q = c.pll.q })

abbrev pub with_pllq : CFGR → Divider → CFGR
with_pllq c x = put_pll c (record { use_pll = c.pll.use_pll; pll48clk = c.pll.pll48clk; m = c.pll.m; n = c.pll.n; p = c.pll.p; q = x })

abbrev pub with_use_pllsai : CFGR → CFGR
with_use_pllsai c = put_sai c (record { use_pllsai = true; n = c.sai.n; p = c.sai.p; q = c.sai.q })

abbrev pub with_pllsain : CFGR → Factor → CFGR
with_pllsain c x = put_sai c (record { use_pllsai = c.sai.use_pllsai; n = x; p = c.sai.p; q = c.sai.q })

abbrev pub with_pllsaip : CFGR → PLLP → CFGR
with_pllsaip c x = put_sai c (record { use_pllsai = c.sai.use_pllsai; n = c.sai.n; p = x; q = c.sai.q })

abbrev pub with_pllsaiq : CFGR → Divider → CFGR
with_pllsaiq c x = put_sai c (record { use_pllsai = c.sai.use_pllsai; n = c.sai.n; p = c.sai.p; q = x })

abbrev pub with_use_plli2s : CFGR → CFGR
with_use_plli2s c = put_i2s c (record { use_plli2s = true; n = c.i2s.n; r = c.i2s.r; q = c.i2s.q })

abbrev pub with_plli2sn : CFGR → Factor → CFGR
with_plli2sn c x = put_i2s c (record { use_plli2s = c.i2s.use_plli2s; n = x; r = c.i2s.r; q = c.i2s.q })

abbrev pub with_plli2sq : CFGR → Divider → CFGR
with_plli2sq c x = put_i2s c (record { use_plli2s = c.i2s.use_plli2s; n = c.i2s.n; r = c.i2s.r; q = x })

abbrev pub with_plli2sr : CFGR → Divider → CFGR
with_plli2sr c x = put_i2s c (record { use_plli2s = c.i2s.use_plli2s; n = c.i2s.n; r = x; q = c.i2s.q })

abbrev pub with_mco1 : CFGR → MCO1 → CFGR
with_mco1 c x = put_mco c (record { mco1 = x; mco1pre = c.mco.mco1pre; mco2 = c.mco.mco2; mco2pre = c.mco.mco2pre })

abbrev pub with_mco1pre : CFGR → MCOPRE → CFGR
with_mco1pre c x = put_mco c (record { mco1 = c.mco.mco1; mco1pre = x; mco2 = c.mco.mco2; mco2pre = c.mco.mco2pre })

abbrev pub with_mco2 : CFGR → MCO2 → CFGR
with_mco2 c x = put_mco c (record { mco1 = c.mco.mco1; mco1pre = c.mco.mco1pre; mco2 = x; mco2pre = c.mco.mco2pre })

abbrev pub with_mco2pre : CFGR → MCOPRE → CFGR
with_mco2pre c x = put_mco c (record { mco1 = c.mco.mco1; mco1pre = c.mco.mco1pre; mco2 = c.mco.mco2; mco2pre = x })

-- the setters

abbrev pub set_hse : CFGR → Hertz → HSEClockMode → Setting
set_hse c f mode = setting_of (hse_refusal (Some (hse_of f mode))) c (with_hse c (hse_of f mode))

abbrev pub set_hclk : CFGR → Hertz → Setting
set_hclk c f = setting_of (hclk_refusal f) c (with_hclk c f)

abbrev pub set_sysclk : CFGR → Hertz → Setting
set_sysclk c f = setting_of (sysclk_refusal f) c (with_sysclk c f)

abbrev pub set_pclk1 : CFGR → Hertz → Setting
set_pclk1 c f = setting_of (pclk1_refusal f) c (with_pclk1 c f)

abbrev pub set_pclk2 : CFGR → Hertz → Setting
set_pclk2 c f = setting_of (pclk2_refusal f) c (with_pclk2 c f)

abbrev pub set_lse : CFGR → LSEClockMode → Setting
set_lse c mode = set (with_lse c mode)

abbrev pub set_lsi : CFGR → Setting
set_lsi c = set (with_lsi c)

abbrev pub set_use_pll : CFGR → Setting
set_use_pll c = set (with_use_pll c)

abbrev pub set_pll48clk : CFGR → PLL48CLK → Setting
set_pll48clk c x = set (with_pll48clk c x)

abbrev pub set_pllm : CFGR → Divider → Setting
set_pllm c m = setting_of (m_refusal m) c (with_pllm c m)

abbrev pub set_plln : CFGR → Factor → Setting
set_plln c n = setting_of (n_refusal n) c (with_plln c n)

abbrev pub set_pllp : CFGR → PLLP → Setting
set_pllp c p = set (with_pllp c p)

abbrev pub set_pllq : CFGR → Divider → Setting
set_pllq c q = setting_of (q_refusal q) c (with_pllq c q)

abbrev pub set_use_pllsai : CFGR → Setting
set_use_pllsai c = set (with_use_pllsai c)

abbrev pub set_pllsain : CFGR → Factor → Setting
set_pllsain c n = setting_of (n_refusal n) c (with_pllsain c n)

abbrev pub set_pllsaip : CFGR → PLLP → Setting
set_pllsaip c p = set (with_pllsaip c p)

abbrev pub set_pllsaiq : CFGR → Divider → Setting
set_pllsaiq c q = setting_of (q_refusal q) c (with_pllsaiq c q)

abbrev pub set_use_plli2s : CFGR → Setting
set_use_plli2s c = set (with_use_plli2s c)

abbrev pub set_plli2sn : CFGR → Factor → Setting
set_plli2sn c n = setting_of (n_refusal n) c (with_plli2sn c n)

abbrev pub set_plli2sq : CFGR → Divider → Setting
set_plli2sq c q = setting_of (q_refusal q) c (with_plli2sq c q)

abbrev pub set_plli2sr : CFGR → Divider → Setting
set_plli2sr c r = setting_of (r_refusal r) c (with_plli2sr c r)

abbrev pub set_mco1 : CFGR → MCO1 → Setting
set_mco1 c x = set (with_mco1 c x)

abbrev pub set_mco1pre : CFGR → MCOPRE → Setting
set_mco1pre c x = set (with_mco1pre c x)

abbrev pub set_mco2 : CFGR → MCO2 → Setting
set_mco2 c x = set (with_mco2 c x)

abbrev pub set_mco2pre : CFGR → MCOPRE → Setting
set_mco2pre c x = set (with_mco2pre c x)

abbrev pub set_defaults : CFGR → Setting
set_defaults c = set_sysclk c (record { 0 = 216000000 })
