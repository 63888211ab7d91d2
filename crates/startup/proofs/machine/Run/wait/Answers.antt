-- `Run::wait` meets its contract: by whether the start goes on, and by what its polls come to.
use mathlib.Core.Path.{sym, ◌∙◌}
use Rattle.startup.proofs.Runs.{answered, unanswered, no_wait}
use Rattle.startup.proofs.machine.Run.wait.Goals as goal
use Rattle.startup.proofs.machine.Run.wait.Goals.{else-goes_on-via-then-goes_on+else-not-poll, else-goes_on-via-else-goes_on}

pub returns-then-not-poll-clause-machine : goal.returns-then-not-poll-clause-machine
returns-then-not-poll-clause-machine c = unanswered (sym c.goes_on.ensures ∙ c.if-goes_on.true) c.args.self.now.limited c.if-not-poll.ensures.machine

pub returns-else-goes_on-clause-machine : goal.returns-else-goes_on-clause-machine
returns-else-goes_on-clause-machine c =
    elim c.else-goes_on.branch [
      | else-goes_on-via-then-goes_on+else-not-poll w ↦ rw w.self-is (answered (sym c.goes_on.ensures ∙ w.if-goes_on.true) c.args.self.now.limited w.if-not-poll.ensures.machine)
      | else-goes_on-via-else-goes_on w ↦ rw w.self-is (no_wait (sym c.goes_on.ensures ∙ w.if-goes_on.false))
    ]
