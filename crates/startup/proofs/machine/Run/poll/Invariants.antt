-- `Run::poll` meets its contract: the loop keeps what is left of the polls.
use mathlib.Core.Path.{◌≡◌}
use Rattle.startup.specs.Run.{Same}
use Rattle.startup.proofs.Polls.{Polling}
use Rattle.startup.proofs.machine.Run.poll.Given as goal

abbrev pub invariant-loop : goal.invariant-loop
invariant-loop l =
    record {
      end : l.end ≡ l.initial.self.limit;
      same : Same l.initial.self l.self;
      polling : Polling l.initial.self.answers.now l.initial.self.limit l.initial.self.machine l.counter l.self.machine;
    }
