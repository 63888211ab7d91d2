-- The loop keeps that the walk from here comes to what the whole walk does, and that there is room for its passes; a jump is so many turns of the walk.
use Prim.Native.Nat.{◌-◌}
use mathlib.Core.Path.{◌≡◌}
use Rattle.pll.specs.Walk as spec
use Rattle.pll.specs.Skip.{unit_of}
use Rattle.pll.proofs.Room.{Room}
use Rattle.pll.proofs.search.search.Given as goal

abbrev pub invariant-loop-m : goal.invariant-loop-m
invariant-loop-m l = Room l.f.0 l.m l.n l.passes × (l.u ≡ unit_of l.f.0 l.m) × (spec.walk (10009 - l.passes) l.f.0 l.p l.q (spec.look l.f.0 l.p l.q l.m l.n) l.m l.n l.passes ≡ spec.whole_walk l.f.0 l.p l.q)

abbrev pub decreases-loop-m : goal.decreases-loop-m
decreases-loop-m l = 10009 - l.passes
