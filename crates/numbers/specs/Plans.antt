-- What pll_configure, calculate_clocks and plan answer as numbers, and what the lent numbers hold then.
use Rattle.std.specs.Prelude.{ℕ, ◌≡◌, List, [], ◌∷◌, Result, Ok, Err}
use Rattle.configure.specs.declared.Configured.{Configured}
use Rattle.configure.specs.declared.Unplanned.{Unplanned}
use Rattle.clocks.specs.declared.Clocks.{Clocks}
use Rattle.clocks.specs.declared.InternalRCCConfig.{InternalRCCConfig}
use Rattle.clocks.specs.declared.Derived.{Derived}
use Rattle.plan.specs.declared.Planned.{Planned}
use Rattle.kinds.specs.declared.refusals.Refusal.{Refusal}
use Rattle.kinds.specs.Refusals.{number_of}
use Rattle.kinds.specs.Codes.{flag_of, asked_hertz}
use Rattle.numbers.specs.Numbers.{config_numbers}
use Rattle.numbers.specs.declared.plans.Refused.{Refused}

-- how many numbers the clocks are, with their field codes
abbrev pub CLOCKS : ℕ
CLOCKS = 16

-- SYSCLK, HCLK, PCLK1, PCLK2, both timers; HPRE, PPRE1, PPRE2, wait states, scale, over-drive; 48 MHz valid, HSE, LSE, LSI (0 absent)
unfoldable pub clock_numbers : Clocks → InternalRCCConfig → List ℕ
clock_numbers x y =
    x.sysclk.0 ∷ x.hclk.0 ∷ x.pclk1.0 ∷ x.pclk2.0 ∷ x.timclk1.0 ∷ x.timclk2.0
    ∷ y.hpre ∷ y.ppre1 ∷ y.ppre2 ∷ y.flash_waitstates ∷ y.vos_scale ∷ flag_of y.overdrive
    ∷ flag_of x.pll48clk_valid ∷ asked_hertz x.hse ∷ asked_hertz x.lse ∷ asked_hertz x.lsi
    ∷ []

-- the number answered, the lent numbers as they are left, and the passes
pub record PlanReply : Type 0 where
  pub number : ℕ
  pub config : List ℕ
  pub clocks : List ℕ
  pub passes : ℕ

pub record Plans (y : PlanReply) (r : ℕ) (config clocks : List ℕ) (passes : ℕ) : Type 0 where
  pub answer : r ≡ y.number
  pub config_holds : config ≡ y.config
  pub clocks_hold : clocks ≡ y.clocks
  pub passes_hold : passes ≡ y.passes

-- why there is no plan or no configuration, as it is told: the refusal's number, and the passes
abbrev pub refused_of : Unplanned → Refused
refused_of u = record { number = number_of u.refusal; passes = u.passes }

-- an answer with its refusal as it is told
abbrev pub told : {T : Type 0} → Result T Unplanned → Result T Refused
told (Ok x) = Ok x
told (Err u) = Err (refused_of u)

abbrev pub numbered : {T : Type 0} → Result T Refusal → Result T ℕ
numbered (Ok x) = Ok x
numbered (Err r) = Err (number_of r)

-- refused, with any number, the lent numbers are as they came; the passes are those of the search wherever one ran
abbrev pub planned_reply : Result Planned Refused → List ℕ → List ℕ → PlanReply
planned_reply (Err u) config clocks = record { number = u.number; config = config; clocks = clocks; passes = u.passes }
planned_reply (Ok p) config clocks = record { number = 0; config = config_numbers p.cfgr; clocks = clock_numbers p.derived.clocks p.derived.config; passes = p.passes }

-- pll_configure has no clocks, calculate_clocks neither a configuration nor passes
pub record Configures (y : PlanReply) (r : ℕ) (config : List ℕ) (passes : ℕ) : Type 0 where
  pub answer : r ≡ y.number
  pub config_holds : config ≡ y.config
  pub passes_hold : passes ≡ y.passes

abbrev pub configured_reply : Result Configured Refused → List ℕ → PlanReply
configured_reply (Err u) config = record { number = u.number; config = config; clocks = []; passes = u.passes }
configured_reply (Ok r) config = record { number = 0; config = config_numbers r.cfgr; clocks = []; passes = r.passes }

pub record Derives (y : PlanReply) (r : ℕ) (clocks : List ℕ) : Type 0 where
  pub answer : r ≡ y.number
  pub clocks_hold : clocks ≡ y.clocks

abbrev pub derived_reply : Result Derived ℕ → List ℕ → PlanReply
derived_reply (Err n) clocks = record { number = n; config = []; clocks = clocks; passes = 0 }
derived_reply (Ok d) clocks = record { number = 0; config = []; clocks = clock_numbers d.clocks d.config; passes = 0 }
