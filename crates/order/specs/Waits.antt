-- Document 01, "Start-up": the number of each wait, one of 1 to WAITS.
use Rattle.std.specs.Prelude.{ℕ}
use Rattle.order.specs.declared.wait.Awaited.{Awaited}
use Rattle.order.specs.declared.wait.Awaited.TheVariants.{Hsi, Hse, Pll, Oden, Odswen, Lse, Lsi, Sw}

abbrev pub wait_number : Awaited → ℕ
wait_number Hsi = 1
wait_number Hse = 2
wait_number Pll = 3
wait_number Oden = 4
wait_number Odswen = 5
wait_number Lse = 6
wait_number Lsi = 7
wait_number Sw = 8
