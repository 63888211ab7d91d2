-- `take_in` meets its contract: no read brings more than is still wanted, and each but the last brings some.
use Prim.Native.Nat.{◌-◌, ◌≤◌}
use mathlib.Core.Path.{◌≡◌}
use lib.ListN.{length}
use Rattle.planner.proofs.take_in.Given as goal

abbrev pub invariant-loop-got : goal.invariant-loop-got
invariant-loop-got l = (length l.input ≡ length l.initial.input) × (l.got ≤ l.want)

abbrev pub decreases-loop-got : goal.decreases-loop-got
decreases-loop-got l = l.want - l.got
