-- What the check of a configuration hands on: the configuration as it came, or why it is refused.
use Rattle.std.specs.Prelude.{Result, Ok, Err}
use Rattle.kinds.specs.declared.CFGR.{CFGR}
use Rattle.kinds.specs.declared.refusals.Refusal.{Refusal}
use Rattle.pll.specs.declared.checked.Checked.{Checked}

abbrev pub told_of : Result Checked Refusal → Result CFGR Refusal
told_of (Ok x) = Ok x.cfgr
told_of (Err e) = Err e
