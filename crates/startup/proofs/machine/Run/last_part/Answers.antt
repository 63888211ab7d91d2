-- `Run::last_part` meets its contract: its stores and its wait, one after the other.
use Rattle.startup.proofs.Runs.{puts, goes_none, goes_put, goes_wait}
use Rattle.startup.proofs.machine.Run.last_part.Goals as goal

pub returns : goal.returns
returns c =
    let mco = goes_put goes_none (puts c.mco.ensures c.store.ensures.machine) c.store.ensures.same in
    let acr = goes_put mco (puts c.acr.ensures c.store-2.ensures.machine) c.store-2.ensures.same in
    let prescalers = goes_put acr (puts c.prescalers.ensures c.store-3.ensures.machine) c.store-3.ensures.same in
    let sw = goes_put prescalers c.set.ensures.machine c.set.ensures.same in
    goes_wait sw c.wait.ensures.machine c.wait.ensures.same
