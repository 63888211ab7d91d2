-- Document 01, "Whether the PLL is used", as facts: when the search runs, and the five ways to an answer.
use Rattle.std.specs.Prelude.{ℕ, ◌+◌, ◌≤◌, ◌≡◌, List, ◌∷◌, None, Result, Ok, Err}
use Rattle.kinds.specs.Limits.{check_of}
use Rattle.kinds.specs.Refusals.{refusal_of}
use Rattle.kinds.specs.Setters.{put_pll}
use Rattle.kinds.specs.Table.{limit_numbers, Checked}
use Rattle.kinds.specs.declared.CFGR.{CFGR}
use Rattle.kinds.specs.declared.refusals.Refusal.TheVariants.{NoPair}
use Rattle.pll.specs.Walk.{search_of}
use Rattle.pll.specs.Good.{SomeWindow, GoodPair}
use Rattle.pll.specs.declared.Pair.{Pair}
use Rattle.pll.specs.declared.Miss.{Miss}
use Rattle.pll.specs.declared.Miss.TheVariants.{Nothing}
use Rattle.pll.specs.Outputs.{p_output_of}
use Rattle.configure.specs.Configure.{ready, refuse, with_p, with_q, with_mn, off_of, base_in, wanted_in, p_window_in, q_window_in, configured_of}
use Rattle.configure.specs.declared.Configured.{Configured}
use Rattle.configure.specs.declared.Unplanned.{Unplanned}

-- the search that a configuration asks for
abbrev pub search_in : CFGR → Result Pair Miss
search_in c = search_of (base_in c) (p_window_in c) (q_window_in c)

-- it runs: some window is there and, without a Q window, the present M, N, P do not derive the wanted value
pub record Seeks (c : CFGR) : Type 0 where
  pub checked : Checked c
  pub sought : SomeWindow (p_window_in c) (q_window_in c)
  pub unfit : q_window_in c ≡ None → wanted_in c ≡ p_output_of c → ⊥

-- it has no answer: no pair is good
abbrev pub NoneGood : CFGR → Type 0
NoneGood c = (M N : ℕ) → GoodPair (base_in c) (p_window_in c) (q_window_in c) M N → ⊥

-- the configuration that an answer of the search gives
abbrev pub gives : CFGR → Pair → CFGR
gives c r = put_pll c (with_q (with_p (with_mn c.pll r.m r.n) r.p) r.q)

pub data Ways (c : CFGR) : Result Configured Unplanned → Type 0 where
  refused : (check_of c ≡ 0 → ⊥) → Ways c (refuse (refusal_of (check_of c)) 0)
  unneeded : Checked c → p_window_in c ≡ None → q_window_in c ≡ None → Ways c (ready (off_of c) 0)
  fitting : Checked c → SomeWindow (p_window_in c) (q_window_in c) → q_window_in c ≡ None → wanted_in c ≡ p_output_of c → Ways c (ready c 0)
  missed : {k : ℕ} → Seeks c → search_in c ≡ Err (Nothing k) → Ways c (refuse NoPair k)
  found : {r : Pair} → Seeks c → search_in c ≡ Ok r → Ways c (ready (gives c r) r.passes)

-- the numbers that it can refuse with: those of the check, and 7
abbrev pub configure_numbers : List ℕ
configure_numbers = 7 ∷ limit_numbers

-- d is c as planned, after k passes
abbrev pub Settles : CFGR → CFGR → ℕ → Type 0
Settles c d k = configured_of c ≡ ready d k

-- SYSCLK s beside a wanted value w: at most 1 Hz above it and 15 Hz below it
pub record Near (w s : ℕ) : Type 0 where
  pub above : s ≤ w + 1
  pub below : w ≤ s + 15

-- nothing but the main PLL's settings changes, and of these not the 48 MHz choice
pub record Keeps (c d : CFGR) : Type 0 where
  pub sources : d.sources ≡ c.sources
  pub requests : d.requests ≡ c.requests
  pub choice : d.pll.pll48clk ≡ c.pll.pll48clk
  pub sai : d.sai ≡ c.sai
  pub i2s : d.i2s ≡ c.i2s
  pub mco : d.mco ≡ c.mco
