-- `Run::i2s_part` meets its contract: by whether PLLI2S is used.
use Rattle.startup.proofs.Runs.{puts, goes_none, goes_put}
use Rattle.startup.proofs.machine.Run.i2s_part.Goals as goal

pub returns-then-i2s : goal.returns-then-i2s
returns-then-i2s c =
    let fields = goes_put goes_none (puts c.plli2scfgr.ensures c.store.ensures.machine) c.store.ensures.same in
    rw c.if-i2s.true (goes_put fields c.set.ensures.machine c.set.ensures.same)
