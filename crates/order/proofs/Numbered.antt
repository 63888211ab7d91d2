-- Every wait has a number of 1 to WAITS, and no two the same: case by case.
use Prim.Native.Nat.{ℕ, ◌-◌}
use native.Mathlib.Omega.{arith}
use mathlib.Core.Path.{◌≡◌, refl, sym, ◌∙◌, ap}
use mathlib.Core.List.{List, [], ◌∷◌, ◌++◌}
use lib.ListN.{get_or}
use Rattle.kinds.specs.Table.{Between}
use Rattle.kinds.specs.declared.CFGR.{CFGR}
use Rattle.clocks.specs.declared.InternalRCCConfig.{InternalRCCConfig}
use Rattle.order.specs.declared.wait.Awaited.{Awaited}
use Rattle.order.specs.declared.wait.Awaited.TheVariants.{Hsi, Hse, Pll, Oden, Odswen, Lse, Lsi, Sw}
use Rattle.order.specs.Waits.{wait_number}
use Rattle.order.specs.Order.{Op, wait, ops_of, WAITS}

pub wait_numbered : (k : Awaited) → Between 1 WAITS (wait_number k)
wait_numbered Hsi = record { low = omega arith; high = omega arith }
wait_numbered Hse = record { low = omega arith; high = omega arith }
wait_numbered Pll = record { low = omega arith; high = omega arith }
wait_numbered Oden = record { low = omega arith; high = omega arith }
wait_numbered Odswen = record { low = omega arith; high = omega arith }
wait_numbered Lse = record { low = omega arith; high = omega arith }
wait_numbered Lsi = record { low = omega arith; high = omega arith }
wait_numbered Sw = record { low = omega arith; high = omega arith }

-- so each wait of a plan's list
pub wait_named_lem : (d : CFGR) (y : InternalRCCConfig) (a b : List Op) (k : Awaited) → ops_of d y ≡ a ++ wait k ∷ b → Between 1 WAITS (wait_number k)
wait_named_lem d y a b k e = wait_numbered k

-- the wait that has a number
abbrev numbered : ℕ → Awaited
numbered n = get_or (Hsi ∷ Hse ∷ Pll ∷ Oden ∷ Odswen ∷ Lse ∷ Lsi ∷ Sw ∷ []) (n - 1) Hsi

told_back : (k : Awaited) → numbered (wait_number k) ≡ k
told_back Hsi = refl
told_back Hse = refl
told_back Pll = refl
told_back Oden = refl
told_back Odswen = refl
told_back Lse = refl
told_back Lsi = refl
told_back Sw = refl

pub number_tells : (j k : Awaited) → wait_number j ≡ wait_number k → j ≡ k
number_tells j k e = sym (told_back j) ∙ ap numbered e ∙ told_back k
