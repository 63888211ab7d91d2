-- `blanks` looks at the rules of a run: where nothing is found so far, the whole run gives what its rest gives.
use mathlib.Core.Path.{◌≡◌}
use Rattle.std.specs.Prelude.{Ok}
use Rattle.record.specs.Layout.{breach_from, blanks}
use Rattle.record.proofs.numbers.Record.blanks.Given as goal

abbrev pub invariant-loop-at : goal.invariant-loop-at
invariant-loop-at l = breach_from l.self.bytes.now (Ok tt) (blanks l.from l.end) ≡ breach_from l.self.bytes.now (Ok tt) (blanks l.at l.end)
