-- What a configuration has that no check refuses: its input and SYSCLK wanted in their ranges; by its limits.
use Prim.Native.Nat.{ℕ, ◌≤◌}
use mathlib.Core.Path.{◌≡◌}
use native.Mathlib.Omega.{arith}
use Rattle.std.specs.Prelude.{Option, Some, None}
use Rattle.kinds.specs.Config.{input_of}
use Rattle.kinds.specs.Limits.{check_of}
use Rattle.kinds.specs.Table.{Between, AskedWithin, Checked}
use Rattle.kinds.proofs.Check.{check_told}
use Rattle.kinds.specs.declared.CFGR.{CFGR}
use Rattle.kinds.specs.declared.Hertz.{Hertz}
use Rattle.pll.proofs.Settings.{input_within}
use Rattle.pll.specs.Outputs.{base_of}
use Rattle.configure.specs.Configure.{wanted_of, base_in, wanted_in}

pub base_range : (c : CFGR) → Checked c → Between 1000000 50000000 (base_of (input_of c.sources.hse))
unfolding base_of
base_range c k =
    let i = input_within c.sources.hse k.hse in
    record { low = omega (arith, i.low); high = omega (arith, i.high) }

wanted_range : (q : Option Hertz) (b : ℕ) → AskedWithin 12500000 216000000 q → Between 1000000 50000000 b → Between 1 216000000 (wanted_of q b)
wanted_range None b a l = record { low = omega (arith, l.low); high = omega (arith, l.high) }
wanted_range (Some f) b a l = record { low = omega (arith, a.low); high = a.high }

pub wanted_between : (c : CFGR) → Checked c → Between 1 216000000 (wanted_in c)
unfolding wanted_in base_in
wanted_between c k = wanted_range c.requests.sysclk _ k.requests.sysclk (base_range c k)

pub wanted_in_lem : (c : CFGR) → Checked c → {f b w : ℕ} → w ≡ wanted_of c.requests.sysclk b → b ≡ base_of f → f ≡ input_of c.sources.hse → (1 ≤ w) × (w ≤ 216000000)
wanted_in_lem c k ew eb ef =
    let r = wanted_range c.requests.sysclk _ k.requests.sysclk (base_range c k) in
    rw (ew, eb, ef) (r.low, r.high)

-- so the ends of a window around it fit
pub wanted_fits : (c : CFGR) → check_of c ≡ 0 → (1 ≤ wanted_in c) × (wanted_in c ≤ 216000000)
wanted_fits c e = let r = wanted_between c (check_told c e) in (r.low, r.high)
