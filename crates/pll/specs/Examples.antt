-- Document 01, "Examples on each side": its four examples of the search, and one of ours, a walk of 10,007 passes.
use Rattle.std.specs.Prelude.{ℕ, ◌+◌, ◌-◌, List, [], ◌∷◌, Option, Some, None, Result, Err}
use Rattle.pll.specs.Outputs.{q_low, q_high}
use Rattle.pll.specs.Walk.{found}
use Rattle.pll.specs.declared.Window.{Window}
use Rattle.pll.specs.declared.Pair.{Pair}
use Rattle.pll.specs.declared.Miss.{Miss}
use Rattle.pll.specs.declared.Miss.TheVariants.{Nothing}

-- wanted ± 1
abbrev pub around : ℕ → Option Window
around x = Some (record { lo = record { 0 = x - 1 }; hi = record { 0 = x + 1 } })

-- the Q window
abbrev pub usb : Option Window
usb = Some (record { lo = record { 0 = q_low }; hi = record { 0 = q_high } })

pub record Asked : Type 0 where
  pub input : ℕ
  pub p : Option Window
  pub q : Option Window
  pub answer : Result Pair Miss

-- planning seeks from 16 × b, so the bypass HSE of 1,999,999 is 1,999,984 here
abbrev pub examples : List Asked
examples =
    record { input = 16000000; p = around 216000000; q = usb; answer = found 8 216 (Some (record { 0 = 2 })) (Some (record { 0 = 9 })) 223 }
    ∷ record { input = 25000000; p = around 216000000; q = None; answer = found 25 432 (Some (record { 0 = 2 })) None 4620 }
    ∷ record { input = 2000000; p = around 216000000; q = None; answer = found 2 432 (Some (record { 0 = 2 })) None 1 }
    ∷ record { input = 1999984; p = around 216000000; q = None; answer = Err (Nothing 1) }
    ∷ record { input = 50000000; p = Some (record { lo = record { 0 = 1 }; hi = record { 0 = 1 } }); q = None; answer = Err (Nothing 10007) }
    ∷ []
