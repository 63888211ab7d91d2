-- `woolturret_start` meets its contract: by its limit, then from what the record reads as.
use mathlib.Core.Path.{sym, ◌∙◌}
use Rattle.woolturret.proofs.Starting.{start_13, start_malformed, start_read}
use Rattle.woolturret.proofs.woolturret_start.Goals as goal

pub returns-in-Err : goal.returns-in-Err
returns-in-Err c = start_13 _ _ _ _ _ _ c.check_limit.ensures c.in-Err.is c.refused.ensures

pub returns-in-Err-read_record : goal.returns-in-Err-read_record
returns-in-Err-read_record c = start_malformed _ _ _ _ _ _ c.check_limit.ensures c.in_default.is (sym c.read_record.ensures ∙ c.in-Err-read_record.is) c.refused-in-Err-read_record.ensures

pub returns-in-Ok : goal.returns-in-Ok
returns-in-Ok c = start_read _ _ _ _ _ _ c.check_limit.ensures c.in_default.is (sym c.read_record.ensures ∙ c.in-Ok.is) c.placed.ensures
