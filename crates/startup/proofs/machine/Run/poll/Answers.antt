-- `Run::poll` meets its contract: each turn of the loop is one poll more.
use mathlib.Core.Path.{refl}
use native.Mathlib.Omega.{arith}
use Rattle.startup.proofs.Polls.{ready, missed, passed, silent}
use Rattle.startup.proofs.machine.Run.poll.Goals as goal
use Rattle.startup.proofs.machine.Run.poll.Goals.{then-self+else-ready, else-self}

pub returns-then-ready-clause-machine : goal.returns-then-ready-clause-machine
returns-then-ready-clause-machine c = ready c.loop.invariant.polling c.loop.invariant.same.answers (omega arith) (omega arith) c.if-ready.true

pub loop-preserved : goal.loop-preserved
loop-preserved c =
    let t = c.loop.invariant in
    elim c.if-self.branch [
      | then-self+else-ready w ↦ rw w.self-is (record { end = refl; same = record { answers = t.same.answers; limit = t.same.limit }; polling = missed t.polling t.same.answers c.loop-test.true (omega arith) w.if-ready.false })
      | else-self w ↦ rw w.self-is (record { end = refl; same = record { answers = t.same.answers; limit = t.same.limit }; polling = passed t.polling t.same.answers c.loop-test.true (omega arith) })
    ]

pub returns-clause-machine : goal.returns-clause-machine
returns-clause-machine c = silent c.loop.invariant.polling (omega arith)
