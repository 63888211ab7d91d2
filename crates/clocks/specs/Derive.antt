-- Document 01, "Derived clocks": what a configuration's settings give as they stand.
use Rattle.std.specs.Prelude.{ℕ, ◌*◌, ◌/◌, min, Bool, false, cond, ◌&&◌, ◌==◌, nat_le, nat_lt, Option, None, Some, Result, Ok, Err}
use Rattle.kinds.specs.Config.{input_of}
use Rattle.kinds.specs.Codes.{p_divider_of}
use Rattle.kinds.specs.Limits.{check_of}
use Rattle.kinds.specs.Refusals.{refusal_of}
use Rattle.kinds.specs.declared.refusals.Refusal.{Refusal}
use Rattle.kinds.specs.declared.refusals.Refusal.TheVariants.{DerivedSysclk}
use Rattle.kinds.specs.declared.CFGR.{CFGR}
use Rattle.kinds.specs.declared.Pll.{Pll}
use Rattle.kinds.specs.declared.Sai.{Sai}
use Rattle.kinds.specs.declared.Sources.{Sources}
use Rattle.kinds.specs.declared.Hertz.{Hertz}
use Rattle.kinds.specs.declared.PLL48CLK.{PLL48CLK}
use Rattle.kinds.specs.declared.PLL48CLK.TheVariants.{Pllq, Pllsai}
use Rattle.kinds.specs.declared.HSEClock.{HSEClock}
use Rattle.kinds.specs.declared.HSEClock.TheVariants.{Oscillator, Bypass}
use Rattle.kinds.specs.declared.LSEClockMode.{LSEClockMode}
use Rattle.kinds.specs.declared.LSEClockMode.TheVariants.{Oscillator as LseOscillator, Bypass as LseBypass}
use Rattle.pll.specs.Fixed.{inside, vco_of, out_of}
use Rattle.pll.specs.Outputs.{base_of, p_output_of, q_low, q_high}
use Rattle.clocks.specs.Ratio.{ratio_up}
use Rattle.clocks.specs.Rows.{Row, row, hpre_row, ppre_row}
use Rattle.clocks.specs.declared.Ahb.{Ahb}
use Rattle.clocks.specs.declared.Apb.{Apb}
use Rattle.clocks.specs.declared.Clocks.{Clocks}
use Rattle.clocks.specs.declared.InternalRCCConfig.{InternalRCCConfig}
use Rattle.clocks.specs.declared.Derived.{Derived}

-- SYSCLK is 16 × b without `use_pll`, else the P output
unfoldable pub sysclk_of : CFGR → ℕ
sysclk_of c = cond c.pll.use_pll (p_output_of c) (base_of (input_of c.sources.hse))

-- the smaller of `most` and the request, or `own` without one; HCLK wanted: the smaller of SYSCLK and any request, so both are SYSCLK
unfoldable pub wanted_of : ℕ → ℕ → Option Hertz → ℕ
wanted_of most own None = min most own
wanted_of most own (Some f) = min most f.0

-- HPRE's row for SYSCLK s and HCLK wanted w: by the ratio, the last for a request of 0
unfoldable pub hpre_of : ℕ → ℕ → Row
hpre_of s w = cond (w == 0) (row 512 15) (hpre_row (ratio_up s w))

-- HCLK granted is floor(SYSCLK / divider)
abbrev pub ahb_by : ℕ → Row → Ahb
ahb_by s x = record { hclk = record { 0 = s / x.divider }; hpre = x.code }

unfoldable pub ahb_for : ℕ → Option Hertz → Ahb
ahb_for s q = ahb_by s (hpre_of s (wanted_of s s q))

-- PCLK's cap: the first while SYSCLK is at most 180 MHz, else the second
unfoldable pub cap_of : ℕ → ℕ → ℕ → ℕ
cap_of s lo hi = cond (nat_le s 180000000) lo hi

abbrev pub cap1_of : ℕ → ℕ
cap1_of s = cap_of s 45000000 54000000

abbrev pub cap2_of : ℕ → ℕ
cap2_of s = cap_of s 90000000 108000000

-- a timer clock is PCLK if its divider is 1, else twice PCLK
unfoldable pub timclk_of : ℕ → ℕ → ℕ
timclk_of p d = cond (d == 1) p (2 * p)

-- PCLK granted is floor(HCLK / divider)
abbrev pub apb_by : ℕ → Row → Apb
apb_by h x = record { pclk = record { 0 = h / x.divider }; timclk = record { 0 = timclk_of (h / x.divider) x.divider }; ppre = x.code }

-- PCLK wanted is the smaller of its cap and its request (HCLK without one)
unfoldable pub apb_for : ℕ → ℕ → Option Hertz → Apb
apb_for most h q = apb_by h (ppre_row (ratio_up h (wanted_of most h q)))

-- wait states: 0 up to 30 MHz, one more for each further 30 MHz begun, 7 above 210 MHz
unfoldable pub wait_states_of : ℕ → ℕ
wait_states_of s =
    cond (nat_le s 30000000) 0
    (cond (nat_le s 60000000) 1
    (cond (nat_le s 90000000) 2
    (cond (nat_le s 120000000) 3
    (cond (nat_le s 150000000) 4
    (cond (nat_le s 180000000) 5
    (cond (nat_le s 210000000) 6 7))))))

-- voltage scale 3 up to 144 MHz, 2 up to 168 MHz, else 1
unfoldable pub scale_of : ℕ → ℕ
scale_of s = cond (nat_le s 144000000) 3 (cond (nat_le s 168000000) 2 1)

-- over-drive above 180 MHz
abbrev pub overdrive_of : ℕ → Bool
overdrive_of s = nat_lt 180000000 s

-- the 48 MHz clock is valid when its fixed-point output (PLLQ, or PLLSAI's N and P if PLLSAI is used) lies in the Q window;
-- with no choice, or PLLSAI chosen but not used, it isn't valid
abbrev pub valid_by : Option PLL48CLK → ℕ → Pll → Sai → Bool
valid_by None f l a = false
valid_by (Some Pllq) f l a = inside q_low q_high (out_of (vco_of f l.n.0 l.m.0) l.q.0)
valid_by (Some Pllsai) f l a = a.use_pllsai && inside q_low q_high (out_of (vco_of f a.n.0 l.m.0) (p_divider_of a.p))

unfoldable pub valid_of : ℕ → Pll → Sai → Bool
valid_of f l a = valid_by l.pll48clk f l a

-- `Clocks` also hands back HSE as given, LSE 32,768 and LSI 32,000 where asked
abbrev pub hse_given : Option HSEClock → Option Hertz
hse_given None = None
hse_given (Some (Oscillator f)) = Some f
hse_given (Some (Bypass f)) = Some f

abbrev pub lse_given : Option LSEClockMode → Option Hertz
lse_given None = None
lse_given (Some LseOscillator) = Some (record { 0 = 32768 })
lse_given (Some LseBypass) = Some (record { 0 = 32768 })

abbrev pub lsi_given : Bool → Option Hertz
lsi_given on = cond on (Some (record { 0 = 32000 })) None

abbrev pub clocks_by : ℕ → Ahb → Apb → Apb → Sources → Bool → Clocks
clocks_by s bus one two o valid =
    record {
      hclk = bus.hclk;
      pclk1 = one.pclk;
      pclk2 = two.pclk;
      sysclk = record { 0 = s };
      timclk1 = one.timclk;
      timclk2 = two.timclk;
      pll48clk_valid = valid;
      hse = hse_given o.hse;
      lse = lse_given o.lse;
      lsi = lsi_given o.lsi;
    }

-- the field codes beside them
abbrev pub config_by : ℕ → Ahb → Apb → Apb → InternalRCCConfig
config_by s bus one two =
    record {
      hpre = bus.hpre;
      ppre1 = one.ppre;
      ppre2 = two.ppre;
      flash_waitstates = wait_states_of s;
      overdrive = overdrive_of s;
      vos_scale = scale_of s;
    }

-- the buses of a configuration
unfoldable pub ahb_of : CFGR → Ahb
ahb_of c = ahb_for (sysclk_of c) c.requests.hclk

unfoldable pub apb1_of : CFGR → Apb
apb1_of c = apb_for (cap1_of (sysclk_of c)) (ahb_of c).hclk.0 c.requests.pclk1

unfoldable pub apb2_of : CFGR → Apb
apb2_of c = apb_for (cap2_of (sysclk_of c)) (ahb_of c).hclk.0 c.requests.pclk2

-- its clocks and their field codes
unfoldable pub clocks_of : CFGR → Clocks
clocks_of c = clocks_by (sysclk_of c) (ahb_of c) (apb1_of c) (apb2_of c) c.sources (valid_of (input_of c.sources.hse) c.pll c.sai)

unfoldable pub config_of : CFGR → InternalRCCConfig
config_of c = config_by (sysclk_of c) (ahb_of c) (apb1_of c) (apb2_of c)

-- derive takes the settings as they stand: 8 for a derived SYSCLK above 216 MHz
unfoldable pub settled_of : CFGR → Result Derived Refusal
settled_of c = cond (nat_lt 216000000 (sysclk_of c)) (Err DerivedSysclk) (Ok (record { clocks = clocks_of c; config = config_of c }))

-- it checks 1 to 6 again
unfoldable pub derived_of : CFGR → Result Derived Refusal
derived_of c = cond (check_of c == 0) (settled_of c) (Err (refusal_of (check_of c)))
