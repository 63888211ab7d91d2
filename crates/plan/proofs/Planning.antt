-- What pll_configure settles keeps every limit, so that its M divides: by what is promised of pll_configure.
use Prim.Native.Nat.{ℕ, ◌*◌, ◌/◌, ◌<◌, ◌≤◌}
use native.Mathlib.Nat.{le_trans, div-le_self, mul-le-mul}
use mathlib.Core.Path.{◌≡◌, sym, ◌∙◌}
use native.Mathlib.Omega.{arith}
use Rattle.std.specs.Prelude.{Result, Ok}
use Rattle.kinds.specs.Table.{Checked}
use Rattle.kinds.specs.declared.CFGR.{CFGR}
use Rattle.configure.specs.Configure.{configured_of}
use Rattle.configure.specs.declared.Configured.{Configured}
use Rattle.configure.specs.declared.Unplanned.{Unplanned}
use Rattle.configure.proofs.Theorems.{planned_checked}

pub settled_checked : (c : CFGR) {x : Result Configured Unplanned} {r : Configured}
    → x ≡ configured_of c → x ≡ Ok r → Checked r.cfgr
settled_checked c {r = r} a b = planned_checked c r.cfgr r.passes (sym a ∙ b)

pub rough_le : (f m n : ℕ) → f ≤ 50000000 → n ≤ 432 → f / m * n ≤ 50000000 * 432
rough_le f m n a b = mul-le-mul (le_trans (div-le_self f m) a) b

pub m_divides : (c : CFGR) → Checked c → 0 < c.pll.m.0
m_divides c k = omega (arith, k.pll.m.low)
