-- The setters build exactly the configurations that the check passes: no call breaks a limit, and a chain of calls, group by group, reaches any that keeps them.
use Rattle.std.specs.Prelude.{None, Option, Some, Ok, Err}
use Prim.Native.Nat.{ℕ, ◌≤◌}
use mathlib.Core.Path.{◌≡◌, refl, ap, subst, ◌∙◌}
use mathlib.Core.Logic.{◌↔◌}
use mathlib.Core.Bool.{Bool, true, false, cond}
use lib.Dec.{eqb}
use native.Mathlib.Omega.{arith}
use borrow.Author.Tests.{eqb-true, eq-eqb}
use Rattle.kinds.specs.Config.{defaults}
use Rattle.kinds.specs.Limits.{outside_of, check_of}
use Rattle.kinds.specs.Refusals.{refusal_of}
use Rattle.kinds.specs.Setters.{Setting, handed, setting_of, hse_of, put_sources, put_requests, put_pll, put_sai, put_i2s, put_mco}
use Rattle.calls.specs.Calls.{call_setting}
use Rattle.kinds.specs.Table.{Between, HseWithin, AskedWithin, RequestsWithin, PllWithin, SaiWithin, I2sWithin, Checked}
use Rattle.calls.specs.Built.{Built, starts, calls}
use Rattle.kinds.specs.declared.CFGR.{CFGR}
use Rattle.calls.specs.declared.Setter.{Setter}
use Rattle.calls.specs.declared.Setter.TheVariants.{Hse, Hclk, Sysclk, Pclk1, Pclk2, Lse, Lsi, UsePll, UsePll48clk, Pllm, Plln, Pllp, Pllq, UsePllsai, Pllsain, Pllsaip, Pllsaiq, UsePlli2s, Plli2sn, Plli2sq, Plli2sr, Mco1, Mco1pre, Mco2, Mco2pre, SetDefaults}
use Rattle.kinds.specs.declared.Hertz.{Hertz}
use Rattle.kinds.specs.declared.Sources.{Sources}
use Rattle.kinds.specs.declared.Requests.{Requests}
use Rattle.kinds.specs.declared.Pll.{Pll}
use Rattle.kinds.specs.declared.Sai.{Sai}
use Rattle.kinds.specs.declared.I2s.{I2s}
use Rattle.kinds.specs.declared.Mco.{Mco}
use Rattle.kinds.specs.declared.HSEClock.{HSEClock}
use Rattle.kinds.specs.declared.HSEClock.TheVariants.{Oscillator, Bypass}
use Rattle.kinds.specs.declared.HSEClockMode.TheVariants.{Oscillator as ByCrystal, Bypass as ByClock}
use Rattle.kinds.specs.declared.LSEClockMode.{LSEClockMode}
use Rattle.kinds.specs.declared.LSEClockMode.TheVariants.{Oscillator as LseOscillator, Bypass as LseBypass}
use Rattle.kinds.specs.declared.LSEClockMode.TheVariants.{Oscillator as LseByCrystal, Bypass as LseByClock}
use Rattle.kinds.specs.declared.PLL48CLK.TheVariants.{Pllq as ByPllq, Pllsai as ByPllsai}
use Rattle.kinds.specs.declared.PLL48CLK.{PLL48CLK}
use Rattle.kinds.specs.declared.PLL48CLK.TheVariants.{Pllq as FromPllq, Pllsai as FromPllsai}
use Rattle.kinds.proofs.Check.{outside_zero, zero_outside, hse_zero, zero_hse, check_told, told_check}

-- ---- no call breaks a limit
-- a setter that may refuse: what it hands back keeps the limits, if the new configuration does wherever the number is 0
keeps : (n : ℕ) {c d : CFGR} → Checked c → (n ≡ 0 → Checked d) → Checked (handed (setting_of n c d))
unfolding setting_of
keeps n {c} {d} w h = at (eqb n 0) refl
  where
    at : (t : Bool) → eqb n 0 ≡ t → Checked (handed (cond t (Ok d) (Err (record { refusal = refusal_of n; cfgr = c }))))
    at true e = h (eqb-true n 0 e)
    at false e = w

module _ {c : CFGR} (w : Checked c) where
  checked_sources : (x : Sources) → HseWithin x.hse → Checked (put_sources c x)
  checked_sources x v = record { hse = v; requests = w.requests; pll = w.pll; sai = w.sai; i2s = w.i2s }

  checked_requests : (q : Requests) → RequestsWithin q → Checked (put_requests c q)
  checked_requests q v = record { hse = w.hse; requests = v; pll = w.pll; sai = w.sai; i2s = w.i2s }

  checked_pll : (p : Pll) → PllWithin p → Checked (put_pll c p)
  checked_pll p v = record { hse = w.hse; requests = w.requests; pll = v; sai = w.sai; i2s = w.i2s }

  checked_sai : (s : Sai) → SaiWithin s → Checked (put_sai c s)
  checked_sai s v = record { hse = w.hse; requests = w.requests; pll = w.pll; sai = v; i2s = w.i2s }

  checked_i2s : (i : I2s) → I2sWithin i → Checked (put_i2s c i)
  checked_i2s i v = record { hse = w.hse; requests = w.requests; pll = w.pll; sai = w.sai; i2s = v }

  checked_mco : (x : Mco) → Checked (put_mco c x)
  checked_mco x = record { hse = w.hse; requests = w.requests; pll = w.pll; sai = w.sai; i2s = w.i2s }

call_keeps : {c : CFGR} → Checked c → (s : Setter) → Checked (handed (call_setting c s))
unfolding call_setting
call_keeps w (Hse f mode) = keeps _ w (λ e. checked_sources w _ (hse_zero (Some (hse_of f mode)) e))
call_keeps w (Hclk x) = keeps _ w (λ e. checked_requests w _ (record { hclk = outside_zero 0 216000000 2 x.0 (omega arith) e; sysclk = w.requests.sysclk; pclk1 = w.requests.pclk1; pclk2 = w.requests.pclk2 }))
call_keeps w (Sysclk x) = keeps _ w (λ e. checked_requests w _ (record { hclk = w.requests.hclk; sysclk = outside_zero 12500000 216000000 3 x.0 (omega arith) e; pclk1 = w.requests.pclk1; pclk2 = w.requests.pclk2 }))
call_keeps w (Pclk1 x) = keeps _ w (λ e. checked_requests w _ (record { hclk = w.requests.hclk; sysclk = w.requests.sysclk; pclk1 = outside_zero 12500000 54000000 4 x.0 (omega arith) e; pclk2 = w.requests.pclk2 }))
call_keeps w (Pclk2 x) = keeps _ w (λ e. checked_requests w _ (record { hclk = w.requests.hclk; sysclk = w.requests.sysclk; pclk1 = w.requests.pclk1; pclk2 = outside_zero 12500000 108000000 5 x.0 (omega arith) e }))
call_keeps w (Lse mode) = checked_sources w _ w.hse
call_keeps w Lsi = checked_sources w _ w.hse
call_keeps w UsePll = checked_pll w _ (record { m = w.pll.m; n = w.pll.n; q = w.pll.q })
call_keeps w (UsePll48clk x) = checked_pll w _ (record { m = w.pll.m; n = w.pll.n; q = w.pll.q })
call_keeps w (Pllm x) = keeps _ w (λ e. checked_pll w _ (record { m = outside_zero 2 63 6 x.0 (omega arith) e; n = w.pll.n; q = w.pll.q }))
call_keeps w (Plln x) = keeps _ w (λ e. checked_pll w _ (record { m = w.pll.m; n = outside_zero 50 432 6 x.0 (omega arith) e; q = w.pll.q }))
call_keeps w (Pllp x) = checked_pll w _ (record { m = w.pll.m; n = w.pll.n; q = w.pll.q })
call_keeps w (Pllq x) = keeps _ w (λ e. checked_pll w _ (record { m = w.pll.m; n = w.pll.n; q = outside_zero 2 15 6 x.0 (omega arith) e }))
call_keeps w UsePllsai = checked_sai w _ (record { n = w.sai.n; q = w.sai.q })
call_keeps w (Pllsain x) = keeps _ w (λ e. checked_sai w _ (record { n = outside_zero 50 432 6 x.0 (omega arith) e; q = w.sai.q }))
call_keeps w (Pllsaip x) = checked_sai w _ (record { n = w.sai.n; q = w.sai.q })
call_keeps w (Pllsaiq x) = keeps _ w (λ e. checked_sai w _ (record { n = w.sai.n; q = outside_zero 2 15 6 x.0 (omega arith) e }))
call_keeps w UsePlli2s = checked_i2s w _ (record { n = w.i2s.n; r = w.i2s.r; q = w.i2s.q })
call_keeps w (Plli2sn x) = keeps _ w (λ e. checked_i2s w _ (record { n = outside_zero 50 432 6 x.0 (omega arith) e; r = w.i2s.r; q = w.i2s.q }))
call_keeps w (Plli2sq x) = keeps _ w (λ e. checked_i2s w _ (record { n = w.i2s.n; r = w.i2s.r; q = outside_zero 2 15 6 x.0 (omega arith) e }))
call_keeps w (Plli2sr x) = keeps _ w (λ e. checked_i2s w _ (record { n = w.i2s.n; r = outside_zero 2 7 6 x.0 (omega arith) e; q = w.i2s.q }))
call_keeps w (Mco1 x) = checked_mco w _
call_keeps w (Mco1pre x) = checked_mco w _
call_keeps w (Mco2 x) = checked_mco w _
call_keeps w (Mco2pre x) = checked_mco w _
call_keeps w SetDefaults = keeps _ w (λ e. checked_requests w _ (record { hclk = w.requests.hclk; sysclk = outside_zero 12500000 216000000 3 216000000 (omega arith) e; pclk1 = w.requests.pclk1; pclk2 = w.requests.pclk2 }))

defaults_checked : Checked defaults
defaults_checked = record {
  hse = tt;
  requests = record { hclk = tt; sysclk = tt; pclk1 = tt; pclk2 = tt };
  pll = record { m = span (omega arith) (omega arith); n = span (omega arith) (omega arith); q = span (omega arith) (omega arith) };
  sai = record { n = span (omega arith) (omega arith); q = span (omega arith) (omega arith) };
  i2s = record { n = span (omega arith) (omega arith); r = span (omega arith) (omega arith); q = span (omega arith) (omega arith) };
}
  where
    span : {lo hi x : ℕ} → lo ≤ x → x ≤ hi → Between lo hi x
    span a b = record { low = a; high = b }

built_checked : {c : CFGR} → Built c → Checked c
built_checked starts = defaults_checked
built_checked (calls b s) = call_keeps (built_checked b) s

-- ---- a chain of calls reaches any that keeps the limits
-- a setter whose number is 0 hands back the new configuration
taken : (n : ℕ) {c d : CFGR} (s : Setter) → call_setting c s ≡ setting_of n c d → n ≡ 0 → Built c → Built d
unfolding setting_of
taken n {c} {d} s e z b = subst (λ (x : CFGR). Built x) (ap (λ (x : Setting). handed x) e ∙ new) (calls b s)
  where
    new : handed (setting_of n c d) ≡ d
    new = simp (eq-eqb _ _ z)

-- a divider or a factor within its limit
ranged : (lo hi x : ℕ) {c d : CFGR} (s : Setter) → call_setting c s ≡ setting_of (outside_of lo hi 6 x) c d → Between lo hi x → Built c → Built d
ranged lo hi x s e w = taken (outside_of lo hi 6 x) s e (zero_outside lo hi 6 x w)

-- a request within its limit, or none
asked : (lo hi k : ℕ) (P : Option Hertz → CFGR) (s : Hertz → Setter)
    → ((f : Hertz) → call_setting (P None) (s f) ≡ setting_of (outside_of lo hi k f.0) (P None) (P (Some f)))
    → (q : Option Hertz) → AskedWithin lo hi q → Built (P None) → Built (P q)
asked lo hi k P s e None w b = b
asked lo hi k P s e (Some f) w b = taken (outside_of lo hi k f.0) (s f) (e f) (zero_outside lo hi k f.0 w) b

-- a flag
flagged : (P : Bool → CFGR) (s : Setter) → handed (call_setting (P false) s) ≡ P true → (t : Bool) → Built (P false) → Built (P t)
flagged P s e true b = subst (λ (x : CFGR). Built x) e (calls b s)
flagged P s e false b = b

module _ (d : CFGR) where
  abbrev sources : Option HSEClock → Option LSEClockMode → Bool → CFGR
  sources h l t = put_sources d (record { hse = h; lse = l; lsi = t })

  build_hse : (h : Option HSEClock) → HseWithin h → Built (sources None None false) → Built (sources h None false)
  unfolding call_setting
  build_hse None w b = b
  build_hse (Some (Oscillator f)) w b = taken _ (Hse f ByCrystal) refl (zero_hse (Some (Oscillator f)) w) b
  build_hse (Some (Bypass f)) w b = taken _ (Hse f ByClock) refl (zero_hse (Some (Bypass f)) w) b

  build_lse : (h : Option HSEClock) (l : Option LSEClockMode) → Built (sources h None false) → Built (sources h l false)
  unfolding call_setting
  build_lse h None b = b
  build_lse h (Some LseOscillator) b = calls b (Lse LseByCrystal)
  build_lse h (Some LseBypass) b = calls b (Lse LseByClock)

  build_sources : (x : Sources) → HseWithin x.hse → Built (put_sources d defaults.sources) → Built (put_sources d x)
  unfolding call_setting
  build_sources x w b = flagged (sources x.hse x.lse) Lsi refl x.lsi (build_lse x.hse x.lse (build_hse x.hse w b))

  abbrev requests : Option Hertz → Option Hertz → Option Hertz → Option Hertz → CFGR
  requests h s a b = put_requests d (record { hclk = h; sysclk = s; pclk1 = a; pclk2 = b })

  build_requests : (q : Requests) → RequestsWithin q → Built (put_requests d defaults.requests) → Built (put_requests d q)
  unfolding call_setting
  build_requests q w b =
      let b₁ = asked 0 216000000 2 (λ x. requests x None None None) Hclk (λ f. refl) q.hclk w.hclk b in
      let b₂ = asked 12500000 216000000 3 (λ x. requests q.hclk x None None) Sysclk (λ f. refl) q.sysclk w.sysclk b₁ in
      let b₃ = asked 12500000 54000000 4 (λ x. requests q.hclk q.sysclk x None) Pclk1 (λ f. refl) q.pclk1 w.pclk1 b₂ in
      asked 12500000 108000000 5 (λ x. requests q.hclk q.sysclk q.pclk1 x) Pclk2 (λ f. refl) q.pclk2 w.pclk2 b₃

  abbrev pll : Bool → Option PLL48CLK → CFGR
  pll t k = put_pll d (record { use_pll = t; pll48clk = k; m = defaults.pll.m; n = defaults.pll.n; p = defaults.pll.p; q = defaults.pll.q })

  build_choice : (t : Bool) (k : Option PLL48CLK) → Built (pll t None) → Built (pll t k)
  unfolding call_setting
  build_choice t None b = b
  build_choice t (Some FromPllq) b = calls b (UsePll48clk ByPllq)
  build_choice t (Some FromPllsai) b = calls b (UsePll48clk ByPllsai)

  build_pll : (p : Pll) → PllWithin p → Built (put_pll d defaults.pll) → Built (put_pll d p)
  unfolding call_setting
  build_pll p w b =
      let b₁ = build_choice p.use_pll p.pll48clk (flagged (λ t. pll t None) UsePll refl p.use_pll b) in
      let b₂ = ranged 2 63 p.m.0 (Pllm p.m) refl w.m b₁ in
      let b₃ = ranged 50 432 p.n.0 (Plln p.n) refl w.n b₂ in
      ranged 2 15 p.q.0 (Pllq p.q) refl w.q (calls b₃ (Pllp p.p))

  build_sai : (s : Sai) → SaiWithin s → Built (put_sai d defaults.sai) → Built (put_sai d s)
  unfolding call_setting
  build_sai s w b =
      let b₁ = flagged (λ t. put_sai d (record { use_pllsai = t; n = defaults.sai.n; p = defaults.sai.p; q = defaults.sai.q })) UsePllsai refl s.use_pllsai b in
      let b₂ = ranged 50 432 s.n.0 (Pllsain s.n) refl w.n b₁ in
      ranged 2 15 s.q.0 (Pllsaiq s.q) refl w.q (calls b₂ (Pllsaip s.p))

  build_i2s : (i : I2s) → I2sWithin i → Built (put_i2s d defaults.i2s) → Built (put_i2s d i)
  unfolding call_setting
  build_i2s i w b =
      let b₁ = flagged (λ t. put_i2s d (record { use_plli2s = t; n = defaults.i2s.n; r = defaults.i2s.r; q = defaults.i2s.q })) UsePlli2s refl i.use_plli2s b in
      let b₂ = ranged 50 432 i.n.0 (Plli2sn i.n) refl w.n b₁ in
      let b₃ = ranged 2 7 i.r.0 (Plli2sr i.r) refl w.r b₂ in
      ranged 2 15 i.q.0 (Plli2sq i.q) refl w.q b₃

  build_mco : (x : Mco) → Built (put_mco d defaults.mco) → Built (put_mco d x)
  unfolding call_setting
  build_mco x b = calls (calls (calls (calls b (Mco1 x.mco1)) (Mco1pre x.mco1pre)) (Mco2 x.mco2)) (Mco2pre x.mco2pre)

checked_built : (c : CFGR) → Checked c → Built c
checked_built c w =
    let c₁ = put_sources defaults c.sources in
    let c₂ = put_requests c₁ c.requests in
    let c₃ = put_pll c₂ c.pll in
    let c₄ = put_sai c₃ c.sai in
    let b₁ = build_sources defaults c.sources w.hse starts in
    let b₂ = build_requests c₁ c.requests w.requests b₁ in
    let b₃ = build_pll c₂ c.pll w.pll b₂ in
    let b₄ = build_sai c₃ c.sai w.sai b₃ in
    build_mco (put_i2s c₄ c.i2s) c.mco (build_i2s c₄ c.i2s w.i2s b₄)

-- ---- the setters build exactly what the check passes
pub built_exactly : (c : CFGR) → Built c ↔ (check_of c ≡ 0)
built_exactly c = (λ (b : Built c). told_check c (built_checked b), λ (e : check_of c ≡ 0). checked_built c (check_told c e))
