-- The loop keeps that the walk from here comes to what the whole walk does, and that there is room for its passes; a jump is so many turns of the walk.
use Prim.Native.Nat.{ℕ, suc, ◌+◌, ◌-◌, ◌≤◌}
use mathlib.Core.Path.{◌≡◌, refl, sym, ◌∙◌}
use Rattle.pll.specs.Fixed.{vco_of}
use Rattle.pll.specs.Skip.{unit_of, vco_by}
use Rattle.pll.proofs.Reciprocal.{unit_le, unit_pos, vco_by_lem}
use Rattle.pll.proofs.Looks.{told, next_m_small, next_n_range}
use Rattle.pll.proofs.Room.{room_start, room_here, room_m}
use Rattle.pll.proofs.Skipping.{turn_refuse, turn_m, turn_good, target_low, target_high, skipped}
use native.Mathlib.Omega.{arith}
use Rattle.pll.proofs.search.search.Goals as goal

-- at pass k one turn of the walk is left for this look
fuel : (k : ℕ) → k ≤ 10008 → 10009 - k ≡ suc (10009 - (k + 1))
fuel k h = omega arith

-- the VCO by the unit that is kept is the VCO
v-is : (f m n : ℕ) {u v : ℕ} → v ≡ vco_by u n → u ≡ unit_of f m → v ≡ vco_of f n m
v-is f m n a b = a ∙ rw b (vco_by_lem f m n)

pub unit-u-requires : goal.unit-u-requires
unit-u-requires c = (c.requires.1, omega arith)

pub loop-m-init : goal.loop-m-init
loop-m-init c = (room_start _ (record { low = c.requires.0; high = c.requires.1 }), c.unit-u.ensures, refl)

pub vco-v-requires : goal.vco-v-requires
vco-v-requires c = (rw c.loop-m.invariant.1 (unit_le _ _ c.requires.1 c.loop-m.invariant.0.m_low), c.loop-m.invariant.0.n_high)

pub look_at-l-requires : goal.look_at-l-requires
look_at-l-requires c = (c.loop-m.invariant.0.m_low, v-is _ _ _ c.vco-v.ensures c.loop-m.invariant.1)

pub returns-in-Refuse : goal.returns-in-Refuse
returns-in-Refuse c =
    let r = c.loop-m.invariant.0 in
    let e = sym c.look_at-l.ensures ∙ c.in-Refuse.is in
    let k = room_here _ _ _ _ r in
    sym (turn_refuse _ _ _ _ _ _ _ _ (fuel _ k) e) ∙ c.loop-m.invariant.2

pub overflow_add-m : goal.overflow_add-m
overflow_add-m c =
    let r = c.loop-m.invariant.0 in
    let e = sym c.look_at-l.ensures ∙ c.in-NextM.is in
    let x = next_m_small _ _ _ _ _ (told _ _ _ _ _ e) in omega arith

pub overflow_add-passes : goal.overflow_add-passes
overflow_add-passes c =
    let r = c.loop-m.invariant.0 in
    let k = room_here _ _ _ _ r in
    omega arith

pub unit-u-requires-in-NextM : goal.unit-u-requires-in-NextM
unit-u-requires-in-NextM c = (c.requires.1, omega (arith, c.loop-m.invariant.0.m_low))

pub loop-m-smaller-in-NextM : goal.loop-m-smaller-in-NextM
loop-m-smaller-in-NextM c =
    let r = c.loop-m.invariant.0 in
    let k = room_here _ _ _ _ r in
    omega arith

pub loop-m-preserved-in-NextM : goal.loop-m-preserved-in-NextM
loop-m-preserved-in-NextM c =
    let r = c.loop-m.invariant.0 in
    let e = sym c.look_at-l.ensures ∙ c.in-NextM.is in
    let k = room_here _ _ _ _ r in
    (room_m _ _ _ _ _ _ r (told _ _ _ _ _ e), c.unit-u-in-NextM.ensures, sym (turn_m _ _ _ _ _ _ _ _ (fuel _ k) e) ∙ c.loop-m.invariant.2)

pub jump-j-requires : goal.jump-j-requires
jump-j-requires c =
    let r = c.loop-m.invariant.0 in
    let e = sym c.look_at-l.ensures ∙ c.in-NextN.is in
    let s = next_n_range _ _ _ _ _ (told _ _ _ _ _ e) in
    (rw c.loop-m.invariant.1 (unit_pos _ _ c.requires.0 r.m_low s.m_high), s.n_low, r.n_high, rw c.target-t.ensures (target_low _ _ _), rw c.target-t.ensures (target_high _ _ _))

pub overflow_sub-passes : goal.overflow_sub-passes
overflow_sub-passes c =
    let r = c.loop-m.invariant.0 in
    let e = sym c.look_at-l.ensures ∙ c.in-NextN.is in
    let s = skipped _ _ _ _ _ _ _ _ _ _ c.requires.0 r e c.loop-m.invariant.1 (v-is _ _ _ c.vco-v.ensures c.loop-m.invariant.1) c.target-t.ensures c.jump-j.ensures in omega (arith, s.less)

pub overflow_add-passes-in-NextN : goal.overflow_add-passes-in-NextN
overflow_add-passes-in-NextN c =
    let r = c.loop-m.invariant.0 in
    let e = sym c.look_at-l.ensures ∙ c.in-NextN.is in
    let s = skipped _ _ _ _ _ _ _ _ _ _ c.requires.0 r e c.loop-m.invariant.1 (v-is _ _ _ c.vco-v.ensures c.loop-m.invariant.1) c.target-t.ensures c.jump-j.ensures in omega (arith, s.count)

pub loop-m-smaller : goal.loop-m-smaller
loop-m-smaller c =
    let r = c.loop-m.invariant.0 in
    let e = sym c.look_at-l.ensures ∙ c.in-NextN.is in
    let s = skipped _ _ _ _ _ _ _ _ _ _ c.requires.0 r e c.loop-m.invariant.1 (v-is _ _ _ c.vco-v.ensures c.loop-m.invariant.1) c.target-t.ensures c.jump-j.ensures in omega (arith, s.less, s.count)

pub loop-m-preserved : goal.loop-m-preserved
loop-m-preserved c =
    let r = c.loop-m.invariant.0 in
    let e = sym c.look_at-l.ensures ∙ c.in-NextN.is in
    let s = skipped _ _ _ _ _ _ _ _ _ _ c.requires.0 r e c.loop-m.invariant.1 (v-is _ _ _ c.vco-v.ensures c.loop-m.invariant.1) c.target-t.ensures c.jump-j.ensures in (s.room, c.loop-m.invariant.1, sym s.same ∙ c.loop-m.invariant.2)

pub returns-in-Good : goal.returns-in-Good
returns-in-Good c =
    let r = c.loop-m.invariant.0 in
    let e = sym c.look_at-l.ensures ∙ c.in-Good.is in
    let k = room_here _ _ _ _ r in
    sym (turn_good _ _ _ _ _ _ _ _ (fuel _ k) _ _ e) ∙ c.loop-m.invariant.2
