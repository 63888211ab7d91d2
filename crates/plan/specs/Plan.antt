-- Document 01, "Numbers for every refusal": what planning a configuration answers.
use Rattle.std.specs.Prelude.{ℕ, ◌*◌, ◌/◌, cond, eqb, Result, Ok, Err}
use Rattle.kinds.specs.Config.{input_of}
use Rattle.kinds.specs.Codes.{p_divider_of}
use Rattle.kinds.specs.Limits.{outside_of, first_refusal}
use Rattle.kinds.specs.Refusals.{refusal_of, number_of as number_of_refusal}
use Rattle.kinds.specs.declared.CFGR.{CFGR}
use Rattle.kinds.specs.declared.Sai.{Sai}
use Rattle.kinds.specs.declared.I2s.{I2s}
use Rattle.kinds.specs.declared.refusals.Refusal.{Refusal}
use Rattle.configure.specs.Configure.{unplanned, configured_of}
use Rattle.configure.specs.declared.Configured.{Configured}
use Rattle.configure.specs.declared.Unplanned.{Unplanned}
use Rattle.clocks.specs.Derive.{derived_of}
use Rattle.clocks.specs.declared.Clocks.{Clocks}
use Rattle.clocks.specs.declared.InternalRCCConfig.{InternalRCCConfig}
use Rattle.clocks.specs.declared.Derived.{Derived}
use Rattle.plan.specs.declared.Planned.{Planned}

-- the two answers, each with its passes: a plan, and a refusal
abbrev pub ready : CFGR → ℕ → Clocks → InternalRCCConfig → Result Planned Unplanned
ready c k x y = Ok (record { cfgr = c; passes = k; derived = record { clocks = x; config = y } })

abbrev pub refuse : Refusal → ℕ → Result Planned Unplanned
refuse r k = Err (unplanned r k)

-- PLLSAI and PLLI2S checks use floor(input/M) × N, the input not cut to a multiple of 16
unfoldable pub rough_of : ℕ → ℕ → ℕ → ℕ
rough_of f m n = f / m * n

-- 9: PLLSAI used, its VCO outside 192 to 432 MHz; 10: PLLSAI used, its P output above 48 MHz
unfoldable pub sai_late : ℕ → ℕ → Sai → ℕ
sai_late f m s =
    cond s.use_pllsai
    (first_refusal (outside_of 192000000 432000000 9 (rough_of f m s.n.0))
    (outside_of 0 48000000 10 (rough_of f m s.n.0 / p_divider_of s.p)))
    0

-- 11: PLLI2S used, its VCO outside 192 to 432 MHz
unfoldable pub i2s_late : ℕ → ℕ → I2s → ℕ
i2s_late f m i = cond i.use_plli2s (outside_of 192000000 432000000 11 (rough_of f m i.n.0)) 0

-- several at once: the first in turn
unfoldable pub late_refusal : CFGR → ℕ
late_refusal c = first_refusal (sai_late (input_of c.sources.hse) c.pll.m.0 c.sai) (i2s_late (input_of c.sources.hse) c.pll.m.0 c.i2s)

unfoldable pub limited_of : CFGR → ℕ → Clocks → InternalRCCConfig → ℕ → Result Planned Unplanned
limited_of c k x y n = cond (eqb n 0) (ready c k x y) (refuse (refusal_of n) k)

-- 9 to 11 are checked with the M planned, after what derive refuses
unfoldable pub clocked_of : CFGR → ℕ → Result Derived Refusal → Result Planned Unplanned
clocked_of c k (Ok d) = limited_of c k d.clocks d.config (late_refusal c)
clocked_of c k (Err r) = refuse r k

-- 1 to 6, then 7, then what the configuration as planned comes to
unfoldable pub planned_of : Result Configured Unplanned → Result Planned Unplanned
planned_of (Ok r) = clocked_of r.cfgr r.passes (derived_of r.cfgr)
planned_of (Err u) = Err u

unfoldable pub plan_of : CFGR → Result Planned Unplanned
plan_of c = planned_of (configured_of c)

-- document 01's number of an answer, and its passes: those of the search wherever one ran
abbrev pub number_of : Result Planned Unplanned → ℕ
number_of (Ok p) = 0
number_of (Err u) = number_of_refusal u.refusal

abbrev pub passes_of : Result Planned Unplanned → ℕ
passes_of (Ok p) = p.passes
passes_of (Err u) = u.passes
