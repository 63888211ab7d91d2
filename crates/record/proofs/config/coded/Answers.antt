-- `config::coded` meets its contract: what no value has reads as the last.
use Rattle.record.proofs.Codes.{last_read}
use Rattle.record.proofs.config.coded.Goals as goal

pub returns-in-Err : goal.returns-in-Err
returns-in-Err g c = last_read _ _ _ _ _ c.try_from.ensures c.in-Err.is
