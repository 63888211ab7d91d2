-- `Run::all_parts` meets its contract: its sections one after the other, and room for the waits of the last.
use mathlib.Core.Path.{sym}
use Rattle.startup.proofs.Runs.{goes_more, room_after}
use Rattle.startup.proofs.machine.Run.all_parts.Goals as goal

pub last_part-requires : goal.last_part-requires
last_part-requires c =
    rw c.sw.ensures
    (room_after c.i2s_part.ensures (room_after c.choice_part.ensures (room_after c.sai_part.ensures (room_after c.lsi_part.ensures
    (room_after c.lse_part.ensures (room_after c.pll_part.ensures (room_after c.hse_part.ensures (room_after c.hsi_part.ensures c.requires))))))))

pub returns : goal.returns
returns c =
    rw (sym c.sw.ensures)
    (goes_more c.hsi_part.ensures (goes_more c.hse_part.ensures (goes_more c.pll_part.ensures (goes_more c.lse_part.ensures
    (goes_more c.lsi_part.ensures (goes_more c.sai_part.ensures (goes_more c.choice_part.ensures (goes_more c.i2s_part.ensures c.last_part.ensures))))))))
