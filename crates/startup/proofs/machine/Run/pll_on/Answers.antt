-- `Run::pll_on` meets its contract: its stores and its wait, one after the other.
use Rattle.startup.proofs.Runs.{puts, goes_none, goes_put, goes_wait}
use Rattle.startup.proofs.machine.Run.pll_on.Goals as goal

pub returns : goal.returns
returns c =
    let off = goes_put goes_none c.set.ensures.machine c.set.ensures.same in
    let fields = goes_put off (puts c.pllcfgr.ensures c.store.ensures.machine) c.store.ensures.same in
    let power = goes_put fields c.set-2.ensures.machine c.set-2.ensures.same in
    let scale = goes_put power c.set-3.ensures.machine c.set-3.ensures.same in
    let on = goes_put scale c.set-4.ensures.machine c.set-4.ensures.same in
    goes_wait on c.wait.ensures.machine c.wait.ensures.same
