-- `granted` asks of each PCLK what its cap, its request and HCLK keep.
use Rattle.clocks.proofs.Deriving.{pclk1_kept, pclk2_kept}
use Rattle.clocks.proofs.checked.granted.Goals as goal

pub apb-requires : goal.apb-requires
apb-requires c = pclk1_kept _ c.args.checked.kept c.args.sysclk.divides c.ahb-ahb.ensures c.cap.ensures

pub apb-requires-2 : goal.apb-requires-2
apb-requires-2 c = pclk2_kept _ c.args.checked.kept c.args.sysclk.divides c.ahb-ahb.ensures c.cap-2.ensures
