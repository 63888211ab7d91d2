-- `freeze` meets its contract: by whether its limit is refused, then by what the plan answers.
use Rattle.startup.proofs.Runs.{begun_ran, room}
use Rattle.startup.proofs.Starting.{start_refused, start_ready, limit_refused, limit_within, limit_good}
use Rattle.startup.proofs.freeze.Goals as goal

pub returns-in-Err : goal.returns-in-Err
returns-in-Err c = limit_refused _ _ _ _ _ c.check_limit.ensures c.in-Err.is c.refused.ensures

pub begin-run-requires : goal.begin-run-requires
begin-run-requires c = limit_within _ c.check_limit.ensures c.in_default.is

pub all_parts-requires : goal.all_parts-requires
all_parts-requires c = room c.in-Ok.planned.cfgr c.in-Ok.planned.derived.config c.begin-run.ensures.machine

pub returns-in-Err-plan : goal.returns-in-Err-plan
returns-in-Err-plan c =
    limit_good _ _ _ _ _ c.check_limit.ensures c.in_default.is (start_refused _ _ _ c.plan.ensures c.in-Err-plan.is c.refused-in-Err-plan.ensures)

pub returns-in-Ok : goal.returns-in-Ok
returns-in-Ok c =
    limit_good _ _ _ _ _ c.check_limit.ensures c.in_default.is
    (start_ready c.plan.ensures c.in-Ok.is (begun_ran c.begin-run.ensures c.all_parts.ensures) c.ended.ensures)
