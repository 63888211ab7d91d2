-- `plan` meets its contract: what pll_configure settles is checked.
use Rattle.plan.proofs.Planning.{settled_checked}
use Rattle.plan.proofs.plan.Goals as goal

pub check_late-requires : goal.check_late-requires
check_late-requires c = settled_checked _ c.pll_configure.ensures c.in-Ok.is
