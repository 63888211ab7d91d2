-- How near the P output of what was found lies to the wanted SYSCLK: an output of a VCO 16 × V with P is 16 × floor(V / P), since r(P) is not below 2^30 / P.
use Prim.Native.Nat.{ℕ, ◌+◌, ◌-◌, ◌*◌, ◌≤◌, ◌<◌}
use mathlib.Core.Path.{◌≡◌, refl, subst}
use mathlib.Core.Logic.{◌⊎◌, inl, inr}
use mathlib.Core.Bool.{Bool, true, false, cond}
use lib.Dec.{leb, leb→le, eqb, eqb→eq}
use native.Mathlib.Omega.{arith}
use Rattle.std.specs.Prelude.{Option, Some, None, Ok}
use Rattle.kinds.specs.Codes.{p_divider_of}
use Rattle.kinds.specs.Config.{input_of}
use Rattle.kinds.specs.declared.CFGR.{CFGR}
use Rattle.kinds.specs.declared.Divider.{Divider}
use Rattle.pll.specs.Fixed.{recip_of, vco_of, out_of}
use Rattle.pll.specs.Walk.{p_dividers}
use Rattle.pll.specs.Good.{Among, Hits, Chosen}
use Rattle.pll.specs.declared.Window.{Window}
use Rattle.pll.specs.declared.Pair.{Pair}
use Rattle.pll.specs.Outputs.{p_output_of}
use Rattle.pll.proofs.Reciprocal.{mul_le, out_floor, floor_near}
use Rattle.configure.specs.Configure.{pllp_of, p_window_of, with_p, with_q, with_mn, base_in, wanted_in, p_window_in}
use Rattle.configure.specs.Ways.{Near, search_in, gives}
use Rattle.configure.proofs.Taking.{among_passes, among_in, best, vco_found, taken_m, taken_n}

-- ---- an output with P
-- r(P) of no P is below 2^30 / P
p_recip : (d : ℕ) → Among d p_dividers → 1073741824 ≤ d * recip_of d
unfolding recip_of
p_recip d a = leb→le _ _ (among_passes (λ (e : ℕ). leb 1073741824 (e * recip_of e)) p_dividers tt d a)

pllp_divider : (d : ℕ) → Among d p_dividers → p_divider_of (pllp_of d) ≡ d
pllp_divider d a = eqb→eq _ _ (among_passes (λ (e : ℕ). eqb (p_divider_of (pllp_of e)) e) p_dividers tt d a)

near_hit : (w x d : ℕ) → x ≤ 27000000 → Among d p_dividers → Hits (w - 1) (w + 1) (16 * x) d → Near w (out_of (16 * x) d)
near_hit w x d h a t =
    let b = among_in 2 8 p_dividers tt d a in
    let pos : 0 < d = omega (arith, b.low) in
    let s : x * d ≤ 27000000 * 8 = mul_le 27000000 8 h b.high in
    let f = floor_near x d pos (omega (arith, b.high)) in
    let o = out_floor x d pos (omega arith) (p_recip d a) in
    record { above = omega (arith, f, o, t.high); below = omega (arith, f, o, t.low) }

near_vco : (w v d : ℕ) → (x : ℕ) → v ≡ 16 * x → v ≤ 432000000 → Among d p_dividers → Hits (w - 1) (w + 1) v d → Near w (out_of v d)
near_vco w v d x e h a t =
    rw e (near_hit w x d (omega arith) a (subst (λ (z : ℕ). Hits (w - 1) (w + 1) z d) e t))

-- ---- the P window is absent, or the wanted value ± 1
abbrev around : ℕ → Option Window
around w = Some (record { lo = record { 0 = w - 1 }; hi = record { 0 = w + 1 } })

pub p_window_is : (c : CFGR) → (p_window_in c ≡ None) ⊎ (p_window_in c ≡ around (wanted_in c))
unfolding p_window_in p_window_of
p_window_is c = from (eqb (wanted_in c) (base_in c))
  where
    from : (t : Bool) → (cond t None (around (wanted_in c)) ≡ None) ⊎ (cond t None (around (wanted_in c)) ≡ around (wanted_in c))
    from true = inl refl
    from false = inr refl

module _ (c : CFGR) (r : Pair) (e : search_in c ≡ Ok r) where
  abbrev vco : ℕ
  vco = vco_of (input_of c.sources.hse) r.n.0 r.m.0

  p_chosen : p_window_in c ≡ around (wanted_in c) → Chosen p_dividers (around (wanted_in c)) vco r.p
  p_chosen h = rw (vco_found c r e) at (rw h at (best c r e).p_chosen)

  sixteen : (X : ℕ) × (vco ≡ 16 * X)
  unfolding vco_of
  sixteen = (_, refl)

  output_by : (d : Divider) → r.p ≡ Some d → p_output_of (gives c r) ≡ out_of vco (p_divider_of (pllp_of d.0))
  unfolding p_output_of
  output_by d h = rw (taken_m c.pll r.m r.n r.p r.q, taken_n c.pll r.m r.n r.p r.q, p_is r.q r.p h)
    where
      p_is : (y x : Option Divider) → x ≡ Some d → (with_q (with_p (with_mn c.pll r.m r.n) x) y).p ≡ pllp_of d.0
      p_is None x h = rw h
      p_is (Some z) x h = rw h

  pub found_near : p_window_in c ≡ around (wanted_in c) → Near (wanted_in c) (p_output_of (gives c r))
  found_near h =
      let a = p_chosen h in
      let s = sixteen in
      let v : vco ≤ 432000000 = rw (vco_found c r e) at (best c r e).good.vco_high in
      rw (output_by a.0 a.1, pllp_divider _ a.2) (near_vco (wanted_in c) vco a.0.0 s.0 s.1 v a.2 a.3)
