-- `main` ends: each step leaves fewer records to read.
use Prim.Native.Nat.{◌≤◌}
use Rattle.planner.proofs.main.Given as goal

abbrev pub invariant-loop-left : goal.invariant-loop-left
invariant-loop-left l = l.left ≤ 1000000

abbrev pub decreases-loop-left : goal.decreases-loop-left
decreases-loop-left l = l.left
