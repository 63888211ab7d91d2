-- Document 01, "Whether the PLL is used".
use Rattle.std.specs.Prelude.{ℕ, ◌+◌, ◌-◌, Bool, true, false, cond, eqb, Option, Some, None, Result, Ok, Err}
use Rattle.kinds.specs.Config.{input_of}
use Rattle.kinds.specs.Limits.{check_of}
use Rattle.kinds.specs.Refusals.{refusal_of, number_of as number_of_refusal}
use Rattle.kinds.specs.Setters.{put_pll}
use Rattle.kinds.specs.declared.CFGR.{CFGR}
use Rattle.kinds.specs.declared.Pll.{Pll}
use Rattle.kinds.specs.declared.Divider.{Divider}
use Rattle.kinds.specs.declared.Factor.{Factor}
use Rattle.kinds.specs.declared.PLLP.{PLLP}
use Rattle.kinds.specs.declared.PLLP.TheVariants.{Div2, Div4, Div6, Div8}
use Rattle.kinds.specs.declared.Hertz.{Hertz}
use Rattle.kinds.specs.declared.PLL48CLK.{PLL48CLK}
use Rattle.kinds.specs.declared.PLL48CLK.TheVariants.{Pllq, Pllsai}
use Rattle.kinds.specs.declared.refusals.Refusal.{Refusal}
use Rattle.kinds.specs.declared.refusals.Refusal.TheVariants.{Hse, NoPair}
use Rattle.pll.specs.Outputs.{base_of, p_output_of, q_low, q_high}
use Rattle.pll.specs.Walk.{search_of}
use Rattle.pll.specs.declared.Window.{Window}
use Rattle.pll.specs.declared.Pair.{Pair}
use Rattle.pll.specs.declared.Miss.{Miss}
use Rattle.pll.specs.declared.Miss.TheVariants.{BadInput, Nothing}
use Rattle.configure.specs.declared.Configured.{Configured}
use Rattle.configure.specs.declared.Unplanned.{Unplanned}

-- the two answers, each with its passes: a configuration as planned, and a refusal
abbrev pub ready : CFGR → ℕ → Result Configured Unplanned
ready c k = Ok (record { cfgr = c; passes = k })

abbrev pub unplanned : Refusal → ℕ → Unplanned
unplanned r k = record { refusal = r; passes = k }

abbrev pub refuse : Refusal → ℕ → Result Configured Unplanned
refuse r k = Err (unplanned r k)

-- SYSCLK wanted is the request or, without one, 16 × b
abbrev pub wanted_of : Option Hertz → ℕ → ℕ
wanted_of None b = b
wanted_of (Some f) b = f.0

-- if it equals 16 × b there is no P window; else the window is wanted ± 1
unfoldable pub p_window_of : ℕ → ℕ → Option Window
p_window_of w b = cond (eqb w b) None (Some (record { lo = record { 0 = w - 1 }; hi = record { 0 = w + 1 } }))

-- the Q window is present only when the 48 MHz clock comes from PLLQ
abbrev pub q_window_of : Option PLL48CLK → Option Window
q_window_of None = None
q_window_of (Some Pllq) = Some (record { lo = record { 0 = q_low }; hi = record { 0 = q_high } })
q_window_of (Some Pllsai) = None

abbrev pub pllp_of : ℕ → PLLP
pllp_of d = cond (eqb d 2) Div2 (cond (eqb d 4) Div4 (cond (eqb d 6) Div6 Div8))

-- M and N are taken
abbrev pub with_mn : Pll → Divider → Factor → Pll
with_mn l m n = record { use_pll = l.use_pll; pll48clk = l.pll48clk; m = m; n = n; p = l.p; q = l.q }

-- P and `use_pll` = true if P was sought
abbrev pub with_p : Pll → Option Divider → Pll
with_p l None = l
with_p l (Some d) = record { use_pll = true; pll48clk = l.pll48clk; m = l.m; n = l.n; p = pllp_of d.0; q = l.q }

-- Q if Q was sought
abbrev pub with_q : Pll → Option Divider → Pll
with_q l None = l
with_q l (Some d) = record { use_pll = l.use_pll; pll48clk = l.pll48clk; m = l.m; n = l.n; p = l.p; q = d }

-- what a search without an answer is refused with
abbrev pub missed_of : Miss → Unplanned
missed_of BadInput = unplanned Hse 0
missed_of (Nothing k) = unplanned NoPair k

-- the search runs: what it finds is taken; with no answer, 7
unfoldable pub taken_of : CFGR → Result Pair Miss → Result Configured Unplanned
taken_of c (Ok r) = ready (put_pll c (with_q (with_p (with_mn c.pll r.m r.n) r.p) r.q)) r.passes
taken_of c (Err e) = Err (missed_of e)

-- `use_pll` becomes false
abbrev pub off_of : CFGR → CFGR
off_of c = put_pll c (record { use_pll = false; pll48clk = c.pll.pll48clk; m = c.pll.m; n = c.pll.n; p = c.pll.p; q = c.pll.q })

-- a P window alone: if the present settings fit, nothing changes, `use_pll` included; else the search runs
unfoldable pub kept_of : CFGR → ℕ → Option Window → Bool → Result Configured Unplanned
kept_of c b p true = ready c 0
kept_of c b p false = taken_of c (search_of b p None)

-- neither window: `use_pll` becomes false; a Q window: the search runs
unfoldable pub settled_of : CFGR → ℕ → Option Window → Option Window → Bool → Result Configured Unplanned
settled_of c b None None fit = ready (off_of c) 0
settled_of c b (Some v) None fit = kept_of c b (Some v) fit
settled_of c b p (Some w) fit = taken_of c (search_of b p (Some w))

-- 16 × b of a configuration's input, SYSCLK wanted, and the windows
unfoldable pub base_in : CFGR → ℕ
base_in c = base_of (input_of c.sources.hse)

unfoldable pub wanted_in : CFGR → ℕ
wanted_in c = wanted_of c.requests.sysclk (base_in c)

unfoldable pub p_window_in : CFGR → Option Window
p_window_in c = p_window_of (wanted_in c) (base_in c)

unfoldable pub q_window_in : CFGR → Option Window
q_window_in c = q_window_of c.pll.pll48clk

-- the present M, N, P derive the wanted value
unfoldable pub fits_in : CFGR → Bool
fits_in c = eqb (wanted_in c) (p_output_of c)

-- of a configuration that no check refuses
unfoldable pub chosen_of : CFGR → Result Configured Unplanned
chosen_of c = settled_of c (base_in c) (p_window_in c) (q_window_in c) (fits_in c)

-- 1 to 6 are checked again, and first
unfoldable pub configured_of : CFGR → Result Configured Unplanned
configured_of c = cond (eqb (check_of c) 0) (chosen_of c) (refuse (refusal_of (check_of c)) 0)

-- document 01's number of an answer, and its passes
abbrev pub number_of : Result Configured Unplanned → ℕ
number_of (Ok r) = 0
number_of (Err u) = number_of_refusal u.refusal

abbrev pub passes_of : Result Configured Unplanned → ℕ
passes_of (Ok r) = r.passes
passes_of (Err u) = u.passes
