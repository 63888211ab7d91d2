-- `put_numbers` meets its contract: after some turns the numbers so far stand, each in at most eleven bytes.
use Prim.Native.Nat.{◌+◌, ◌*◌, ◌≤◌}
use lib.ListN.{take}
use Rattle.text.specs.Line.{spaced}
use Rattle.text.specs.Placing.{Wrote}
use Rattle.text.proofs.put_numbers.Given as goal

abbrev pub invariant-loop-n : goal.invariant-loop-n
invariant-loop-n l = record {
  wrote : Wrote l.initial.out l.at (spaced (take l.n-index l.ns)) l.out l.next;
  near : l.next ≤ l.at + 11 * l.n-index;
}
