-- `put_text` meets its contract: after some turns the lines of the records so far stand.
use Prim.Native.Nat.{◌*◌}
use Rattle.text.specs.Line.{LINE}
use Rattle.planner.specs.Output.{lines_of, Filled}
use Rattle.planner.proofs.lines.put_text.Given as goal

abbrev pub invariant-loop-record : goal.invariant-loop-record
invariant-loop-record l = Filled l.initial.out 0 (lines_of l.input l.record-index) (LINE * l.record-index) l.out l.next
