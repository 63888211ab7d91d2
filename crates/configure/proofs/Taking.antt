-- A configuration with what the search found: what of it is as before, that its check refuses nothing, and that its P output is at most 216 MHz; by the pair's being good.
use Prim.Native.Nat.{ℕ, ◌*◌, ◌/◌, ◌≤◌}
use mathlib.Core.Path.{◌≡◌, refl, subst}
use mathlib.Core.Logic.{inl, inr}
use mathlib.Core.Bool.{Bool}
use mathlib.Core.List.{List, [], ◌∷◌}
use lib.Dec.{T, leb, leb→le}
use native.Mathlib.Omega.{arith}
use Rattle.std.specs.Prelude.{Option, Some, None, Ok}
use Rattle.kinds.specs.Config.{input_of}
use Rattle.kinds.specs.Codes.{p_divider_of}
use Rattle.kinds.specs.Table.{Between, Checked}
use Rattle.kinds.proofs.Turns.{all, both_left, both_right}
use Rattle.kinds.specs.declared.CFGR.{CFGR}
use Rattle.kinds.specs.declared.Pll.{Pll}
use Rattle.kinds.specs.declared.Divider.{Divider}
use Rattle.kinds.specs.declared.Factor.{Factor}
use Rattle.pll.specs.Fixed.{inside, recip_of, vco_of, out_of}
use Rattle.pll.specs.Walk.{q_dividers}
use Rattle.pll.specs.Good.{Among, Chosen, Best}
use Rattle.pll.specs.declared.Window.{Window}
use Rattle.pll.specs.declared.Pair.{Pair}
use Rattle.pll.proofs.Reciprocal.{recip_le, mul_le}
use Rattle.pll.proofs.Theorems.{pair_is_best}
use Rattle.pll.specs.Outputs.{base_of, p_output_of}
use Rattle.configure.specs.Configure.{with_p, with_q, with_mn, base_in, wanted_in, p_window_in, q_window_in}
use Rattle.configure.specs.Ways.{search_in, gives}
use Rattle.pll.proofs.Settings.{p_range}

-- ---- what is as before, and what is not
module _ (l : Pll) (m : Divider) (n : Factor) where
  abbrev pub taken : Option Divider → Option Divider → Pll
  taken x y = with_q (with_p (with_mn l m n) x) y

  pub taken_m : (x y : Option Divider) → (taken x y).m ≡ m
  taken_m None None = refl
  taken_m None (Some e) = refl
  taken_m (Some d) None = refl
  taken_m (Some d) (Some e) = refl

  pub taken_n : (x y : Option Divider) → (taken x y).n ≡ n
  taken_n None None = refl
  taken_n None (Some e) = refl
  taken_n (Some d) None = refl
  taken_n (Some d) (Some e) = refl

  pub taken_48 : (x y : Option Divider) → (taken x y).pll48clk ≡ l.pll48clk
  taken_48 None None = refl
  taken_48 None (Some e) = refl
  taken_48 (Some d) None = refl
  taken_48 (Some d) (Some e) = refl

  pub taken_again : (x y : Option Divider) → with_q (with_p (with_mn (taken x y) m n) x) y ≡ taken x y
  taken_again None None = refl
  taken_again None (Some e) = refl
  taken_again (Some d) None = refl
  taken_again (Some d) (Some e) = refl

  taken_q : (x : Option Divider) → (with_p (with_mn l m n) x).q ≡ l.q
  taken_q None = refl
  taken_q (Some d) = refl

-- ---- a test that each divider of a list passes
pub among_passes : (t : ℕ → Bool) (ds : List ℕ) → T (all t ds) → (d : ℕ) → Among d ds → T (t d)
among_passes t [] h d a = absurd a
among_passes t (e ∷ es) h d (inl a) = rw a (both_left (t e) (all t es) h)
among_passes t (e ∷ es) h d (inr a) = among_passes t es (both_right (t e) (all t es) h) d a

pub among_in : (lo hi : ℕ) (ds : List ℕ) → T (all (λ (e : ℕ). inside lo hi e) ds) → (d : ℕ) → Among d ds → Between lo hi d
among_in lo hi ds h d a =
    let s = among_passes (λ (e : ℕ). inside lo hi e) ds h d a in
    record { low = leb→le lo d (both_left (leb lo d) (leb d hi) s); high = leb→le d hi (both_right (leb lo d) (leb d hi) s) }

q_in : (w : Option Window) (v : ℕ) (l : Pll) (y : Option Divider) → Chosen q_dividers w v y → Between 2 15 l.q.0 → Between 2 15 (with_q l y).q.0
q_in w v l None h b = b
q_in None v l (Some e) h b = absurd (let z : ◌≡◌ {A = ℕ} 0 1 = cc in omega arith)
q_in (Some w) v l (Some e) h b =
    let g : h.0 ≡ e = cc in
    subst (λ (z : Divider). Between 2 15 z.0) g (among_in 2 15 q_dividers tt h.0.0 h.2)

-- ---- outputs
pub vco_base : (f n m : ℕ) → vco_of (base_of f) n m ≡ vco_of f n m
unfolding vco_of base_of
vco_base f n m = let e : 16 * (f / 16) / 16 ≡ f / 16 = omega arith in rw e

out_high : (v d : ℕ) → v ≤ 432000000 → 2 ≤ d → out_of v d ≤ 216000000
unfolding out_of
out_high v d a b = let p : v / 16 * recip_of d ≤ 27000000 * 536870912 = mul_le 27000000 536870912 (omega arith) (recip_le d b) in omega arith

module _ (c : CFGR) (r : Pair) (e : search_in c ≡ Ok r) where
  pub best : Best (base_in c) (p_window_in c) (q_window_in c) r.m.0 r.n.0 r.p r.q
  best = pair_is_best (base_in c) (p_window_in c) (q_window_in c) r e

  -- the VCO of what was found, of the input as it is
  pub vco_found : vco_of (base_in c) r.n.0 r.m.0 ≡ vco_of (input_of c.sources.hse) r.n.0 r.m.0
  unfolding base_in
  vco_found = vco_base _ _ _

  -- every limit is kept
  pub found_checked : Checked c → Checked (gives c r)
  found_checked h =
      let w = best.good in
      let l = with_p (with_mn c.pll r.m r.n) r.p in
      let q₀ : Between 2 15 l.q.0 = rw (taken_q c.pll r.m r.n r.p) h.pll.q in
      record {
        hse = h.hse;
        requests = h.requests;
        pll = record {
          m = rw (taken_m c.pll r.m r.n r.p r.q) (record { low = w.m_low; high = w.m_high });
          n = rw (taken_n c.pll r.m r.n r.p r.q) (record { low = w.n_low; high = w.n_high });
          q = q_in (q_window_in c) _ l r.q best.q_chosen q₀;
        };
        sai = h.sai;
        i2s = h.i2s;
      }

  -- its P output is at most 216 MHz
  pub found_output : p_output_of (gives c r) ≤ 216000000
  unfolding p_output_of
  found_output =
      let v : vco_of (input_of c.sources.hse) r.n.0 r.m.0 ≤ 432000000 = rw vco_found at best.good.vco_high in
      rw (taken_m c.pll r.m r.n r.p r.q, taken_n c.pll r.m r.n r.p r.q)
      (out_high _ (p_divider_of (taken c.pll r.m r.n r.p r.q).p) v (p_range (taken c.pll r.m r.n r.p r.q).p).low)

  -- it asks for the same
  pub same_base : base_in (gives c r) ≡ base_in c
  unfolding base_in
  same_base = refl

  pub same_p : p_window_in (gives c r) ≡ p_window_in c
  unfolding p_window_in wanted_in base_in
  same_p = refl

  pub same_q : q_window_in (gives c r) ≡ q_window_in c
  unfolding q_window_in
  same_q = rw (taken_48 c.pll r.m r.n r.p r.q)

  pub same_search : search_in (gives c r) ≡ Ok r
  same_search = rw (same_base, same_p, same_q) e
