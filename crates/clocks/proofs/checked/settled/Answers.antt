-- `settled` grants only of a SYSCLK that can be divided: up to 216 MHz, of settings that keep their limits.
use Rattle.std.proofs.Common.{arith}
use Rattle.clocks.proofs.Deriving.{sysclk_kept}
use Rattle.clocks.proofs.checked.settled.Goals as goal

pub invariant_of-granted : goal.invariant_of-granted
invariant_of-granted c = record { divides = sysclk_kept _ c.args.checked.kept c.sysclk-sysclk.ensures (omega arith) }
