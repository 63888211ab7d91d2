-- What the functions for pll_configure, calculate_clocks and plan answer, from what the record reads as and what is planned.
use Prim.Native.Nat.{ℕ}
use mathlib.Core.Path.{◌≡◌, refl}
use mathlib.Core.List.{List}
use Rattle.std.specs.Prelude.{Result, Ok, Err}
use Rattle.kinds.specs.declared.CFGR.{CFGR}
use Rattle.configure.specs.Configure.{configured_of}
use Rattle.configure.specs.declared.Configured.{Configured}
use Rattle.configure.specs.declared.Unplanned.{Unplanned}
use Rattle.kinds.specs.declared.refusals.Refusal.{Refusal}
use Rattle.clocks.specs.Derive.{derived_of}
use Rattle.clocks.specs.declared.Derived.{Derived}
use Rattle.plan.specs.Plan.{plan_of}
use Rattle.plan.specs.declared.Planned.{Planned}
use Rattle.record.specs.declared.Fault.{Fault}
use Rattle.record.proofs.Exactly.{malformed_14}
use Rattle.numbers.specs.declared.plans.Refused.{Refused}
use Rattle.numbers.specs.Plans.{told, numbered, Configures, configured_reply, Derives, derived_reply, Plans, planned_reply}
use Rattle.woolturret.specs.Plans.{configure_reply, derive_reply, plan_reply}

module _ {z : Result CFGR Fault} {f : Fault} (e : z ≡ Err f) where
  pub configure_malformed : (config : List ℕ) → Configures (configure_reply z config) 14 config 0
  configure_malformed config = rw e (record { answer = rw (malformed_14 f); config_holds = refl; passes_hold = refl })

  pub derive_malformed : (clocks : List ℕ) → Derives (derive_reply z clocks) 14 clocks
  derive_malformed clocks = rw e (record { answer = rw (malformed_14 f); clocks_hold = refl })

  pub plan_malformed : (config clocks : List ℕ) → Plans (plan_reply z config clocks) 14 config clocks 0
  plan_malformed config clocks = rw e (record { answer = rw (malformed_14 f); config_holds = refl; clocks_hold = refl; passes_hold = refl })

module _ {z : Result CFGR Fault} {c : CFGR} (e : z ≡ Ok c) where
  pub configure_read : {a : Result Configured Unplanned} {b : Result Configured Refused} {r k : ℕ} {l : List ℕ} (config : List ℕ) → a ≡ configured_of c → b ≡ told a → Configures (configured_reply b config) r l k → Configures (configure_reply z config) r l k
  configure_read config p q w = rw e (rw p at (rw q at w))

  pub derive_read : {a : Result Derived Refusal} {b : Result Derived ℕ} {r : ℕ} {l : List ℕ} (clocks : List ℕ) → a ≡ derived_of c → b ≡ numbered a → Derives (derived_reply b clocks) r l → Derives (derive_reply z clocks) r l
  derive_read clocks p q w = rw e (rw p at (rw q at w))

  pub plan_read : {a : Result Planned Unplanned} {b : Result Planned Refused} {r k : ℕ} {l m : List ℕ} (config clocks : List ℕ) → a ≡ plan_of c → b ≡ told a → Plans (planned_reply b config clocks) r l m k → Plans (plan_reply z config clocks) r l m k
  plan_read config clocks p q w = rw e (rw p at (rw q at w))
