-- `main` ends: each step leaves fewer records to read.
use native.Mathlib.Omega.{arith}
use Rattle.planner.proofs.Asking.{stepped_less}
use Rattle.planner.proofs.main.Goals as goal

pub loop-left-smaller : goal.loop-left-smaller
loop-left-smaller c = stepped_less c.step-left.ensures c.loop-left-test.true

pub loop-left-preserved : goal.loop-left-preserved
loop-left-preserved c = omega (arith, stepped_less c.step-left.ensures c.loop-left-test.true, c.loop-left.invariant)
