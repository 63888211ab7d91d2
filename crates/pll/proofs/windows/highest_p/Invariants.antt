-- The dividers that are left give what all of them do.
use Rattle.std.proofs.Common.{◌≡◌, drop}
use Rattle.pll.specs.Walk.{p_dividers}
use Rattle.pll.specs.Skip as spec
use Rattle.pll.proofs.windows.highest_p.Given as goal

abbrev pub invariant-loop-d : goal.invariant-loop-d
invariant-loop-d l = spec.highest (drop l.d-index p_dividers) l.lo.0 l.v ≡ spec.highest p_dividers l.lo.0 l.v
