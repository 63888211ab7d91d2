-- `woolturret_check` meets its contract: what the check answers tells its number.
use mathlib.Core.Path.{sym, ◌∙◌}
use Rattle.woolturret.proofs.Replying.{check_passed, check_refused}
use Rattle.woolturret.proofs.woolturret_check.Goals as goal

pub returns-in-Ok-check : goal.returns-in-Ok-check
returns-in-Ok-check c = check_passed (sym c.read_record.ensures ∙ c.in-Ok.is) c.check.ensures c.in-Ok-check.is

pub returns-in-Err-check : goal.returns-in-Err-check
returns-in-Err-check c = c.from-in-Err-check.ensures ∙ check_refused (sym c.read_record.ensures ∙ c.in-Ok.is) c.check.ensures c.in-Err-check.is
