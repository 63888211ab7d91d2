-- `starts::placed` meets its contract: by the places of the file.
use Rattle.woolturret.proofs.Starting.{placed_whole, placed_else}
use Rattle.woolturret.proofs.starts.placed.Goals as goal

pub returns-in-Some : goal.returns-in-Some
returns-in-Some c = placed_whole _ _ _ _ _ c.in-Some.ensures.cases.long c.in-Some.ensures.cases.same c.freeze-started.ensures c.hand_back.ensures

pub returns-in-None : goal.returns-in-None
returns-in-None c = placed_else _ _ _ _ _ c.in-None.ensures.cases c.refused.ensures
