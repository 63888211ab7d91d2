-- What "a configuration its setters can build" means: the Rust's defaults, and what any setter hands back of such a one, refused or not.
use Rattle.kinds.specs.Config.{defaults}
use Rattle.kinds.specs.Setters.{handed}
use Rattle.calls.specs.Calls.{call_setting}
use Rattle.kinds.specs.declared.CFGR.{CFGR}
use Rattle.calls.specs.declared.Setter.{Setter}

pub data Built : CFGR → Type 0 where
  starts : Built defaults
  calls : {c : CFGR} → Built c → (s : Setter) → Built (handed (call_setting c s))
