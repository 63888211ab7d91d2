-- `Run::set` meets its contract: the file that it stores has the one place changed.
use mathlib.Core.Path.{refl}
use Rattle.startup.proofs.Runs.{puts}
use Rattle.startup.proofs.machine.Run.set.Goals as goal

pub returns-clause-machine : goal.returns-clause-machine
returns-clause-machine c = puts (record { is = refl }) c.store.ensures.machine
