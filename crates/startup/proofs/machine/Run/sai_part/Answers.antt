-- `Run::sai_part` meets its contract: by whether PLLSAI is used.
use Rattle.startup.proofs.Runs.{puts, goes_none, goes_put}
use Rattle.startup.proofs.machine.Run.sai_part.Goals as goal

pub returns-then-sai : goal.returns-then-sai
returns-then-sai c =
    let fields = goes_put goes_none (puts c.pllsaicfgr.ensures c.store.ensures.machine) c.store.ensures.same in
    rw c.if-sai.true (goes_put fields c.set.ensures.machine c.set.ensures.same)
