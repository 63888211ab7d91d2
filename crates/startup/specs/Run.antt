-- A start under way: what its steps promise of its machine, whose answers and limit stay as they are.
use Rattle.std.specs.Prelude.{ℕ, ◌≡◌, List}
use Rattle.order.specs.Order.{Op}
use Rattle.startup.specs.declared.machine.Run.{Run}
use Rattle.startup.specs.Machine.{begin_of, Ran}

-- a start before its first store
pub record Begun (f : List ℕ) (cut : ℕ) (xs : List ℕ) (lim : ℕ) (r : Run) : Type 0 where
  pub machine : r.machine ≡ begin_of f cut
  pub answers : r.answers.now ≡ xs
  pub limit : r.limit ≡ lim

-- the answers and the limit of b are those of a
pub record Same (a b : Run) : Type 0 where
  pub answers : b.answers.now ≡ a.answers.now
  pub limit : b.limit ≡ a.limit

-- b is what the list os makes of a
pub record Goes (a : Run) (os : List Op) (b : Run) : Type 0 where
  pub ran : Ran a.answers.now a.limit a.machine os b.machine
  pub same : Same a b
