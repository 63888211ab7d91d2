-- The PLL's five fields change only while PLLON is 0, at every cut: each store that names one comes where PLLON = 0 was stored last.
use Prim.Native.Nat.{ℕ, zero, suc}
use native.Mathlib.Omega.{arith}
use mathlib.Core.Path.{◌≡◌, refl, ◌∙◌}
use mathlib.Core.Bool.{Bool, true, false, cond}
use mathlib.Core.List.{List, [], ◌∷◌, ◌++◌}
use lib.Dec.{eqb}
use lib.ListN.{length, get_or, take}
use borrow.Author.Tests.{eqb-true}
use Rattle.kinds.specs.declared.CFGR.{CFGR}
use Rattle.clocks.specs.declared.InternalRCCConfig.{InternalRCCConfig}
use Rattle.order.specs.Places.{PLACES, PLLON, PLLM, PLLN, PLLP, PLLQ, PLLSRC}
use Rattle.order.specs.Files.{Store, writes, applies}
use Rattle.order.specs.Order.{Op, pll_on, over_ops, ops_of, stores_of}
use Rattle.order.specs.Fields.{names}
use Rattle.order.specs.Safe.{SamePll, Still, off, same}
use Rattle.order.proofs.Restart.{look, at_writes, length_writes}
use Rattle.order.proofs.Looks.{stores_both, both_told, neither_told, left_alone}
use Rattle.order.proofs.ByKind.{list_by}

-- whether the store names one of the five fields
abbrev touches : Store → Bool
touches ws = cond (names PLLM ws) true (cond (names PLLN ws) true (cond (names PLLP ws) true (cond (names PLLQ ws) true (names PLLSRC ws))))

-- each store that touches them comes where PLLON is known to be 0; s is what is known of it, 1 where nothing is
abbrev calm : ℕ → List Store → Bool
calm s [] = true
calm s (ws ∷ l) = cond (cond (touches ws) (eqb s 0) true) (calm (look PLLON ws s) l) false

record Calm (os : List Op) : Type 0 where
  is : (s : ℕ) → calm s (stores_of os) ≡ true

calm_step : (b c d : Bool) → (c ≡ true → d ≡ true) → cond b c false ≡ true → cond b d false ≡ true
calm_step true c d h e = h e
calm_step false c d h e = e

calm_both : (a b : List Store) (s : ℕ) → calm s a ≡ true → ((t : ℕ) → calm t b ≡ true) → calm s (a ++ b) ≡ true
calm_both [] b s h k = k s
calm_both (ws ∷ a) b s h k =
    calm_step (cond (touches ws) (eqb s 0) true) (calm (look PLLON ws s) a) (calm (look PLLON ws s) (a ++ b))
    (λ (g : calm (look PLLON ws s) a ≡ true). calm_both a b (look PLLON ws s) g k) h

calm_lists : (a b : List Op) → Calm a → Calm b → Calm (a ++ b)
calm_lists a b h k = record { is = λ s. rw (stores_both a b) (calm_both (stores_of a) (stores_of b) s (h.is s) k.is) }

list_calm : (d : CFGR) (y : InternalRCCConfig) → Calm (ops_of d y)
list_calm d y =
    list_by Calm (record { is = λ s. refl }) calm_lists d y
    record {
      hsi = record { is = λ s. refl };
      hse = λ v. record { is = λ s. refl };
      pll = stored;
      lse = λ v. record { is = λ s. refl };
      lsi = record { is = λ s. refl };
      sai = record { is = λ s. refl };
      choice = λ v. record { is = λ s. refl };
      i2s = record { is = λ s. refl };
      last = record { is = λ s. refl };
    }
  where
    stored : (o : Bool) → Calm (pll_on d.sources.hse d.pll y.vos_scale ++ over_ops o)
    stored true = record { is = λ s. refl }
    stored false = record { is = λ s. refl }

untouched_pll : (f : List ℕ) (ws : Store) → touches ws ≡ false → SamePll f (writes f ws)
untouched_pll f ws h =
    let a = neither_told (names PLLM ws) _ h in
    let b = neither_told (names PLLN ws) _ a.1 in
    let c = neither_told (names PLLP ws) _ b.1 in
    let e = neither_told (names PLLQ ws) (names PLLSRC ws) c.1 in
    record { m = left_alone PLLM ws f a.0; n = left_alone PLLN ws f b.0; p = left_alone PLLP ws f c.0; q = left_alone PLLQ ws f e.0; src = left_alone PLLSRC ws f e.1 }

still_by : (f : List ℕ) (ws : Store) (s : ℕ) (b : Bool) → touches ws ≡ b → cond b (eqb s 0) true ≡ true → (s ≡ 0 → get_or f PLLON 0 ≡ 0) → Still f (writes f ws)
still_by f ws s true e h k = off (k (eqb-true s 0 h))
still_by f ws s false e h k = same (untouched_pll f ws e)

-- what is known of PLLON: s is 0 only if the file has 0 there
zero_step : (b : Bool) (v s d : ℕ) → (s ≡ 0 → d ≡ 0) → cond b v s ≡ 0 → cond b v d ≡ 0
zero_step true v s d k e = e
zero_step false v s d k e = k e

look_zero : (q : ℕ) (ws : Store) (s d : ℕ) → (s ≡ 0 → d ≡ 0) → look q ws s ≡ 0 → look q ws d ≡ 0
look_zero q [] s d k e = k e
look_zero q (w ∷ ws) s d k e =
    look_zero q ws (cond (eqb q w.0) w.1 s) (cond (eqb q w.0) w.1 d) (zero_step (eqb q w.0) w.1 s d k) e

calm_at : (f : List ℕ) (l : List Store) (n s : ℕ) → length f ≡ PLACES → (s ≡ 0 → get_or f PLLON 0 ≡ 0) → calm s l ≡ true → Still (applies f (take n l)) (applies f (take (suc n) l))
calm_at f [] zero s z k h = same (record { m = refl; n = refl; p = refl; q = refl; src = refl })
calm_at f [] (suc n) s z k h = same (record { m = refl; n = refl; p = refl; q = refl; src = refl })
calm_at f (ws ∷ l) zero s z k h =
    let t = both_told (cond (touches ws) (eqb s 0) true) (calm (look PLLON ws s) l) h in still_by f ws s (touches ws) refl t.0 k
calm_at f (ws ∷ l) (suc n) s z k h =
    let t = both_told (cond (touches ws) (eqb s 0) true) (calm (look PLLON ws s) l) h in
    calm_at (writes f ws) l n (look PLLON ws s) (length_writes f ws ∙ z)
    (λ (e : look PLLON ws s ≡ 0). at_writes f ws PLLON (omega arith) ∙ look_zero PLLON ws s (get_or f PLLON 0) k e) t.1

-- from one cut to the next
pub pll_still : (d : CFGR) (y : InternalRCCConfig) (f : List ℕ) (n : ℕ) → length f ≡ PLACES
    → Still (applies f (take n (stores_of (ops_of d y)))) (applies f (take (suc n) (stores_of (ops_of d y))))
pll_still d y f n l = calm_at f (stores_of (ops_of d y)) n 1 l (λ (e : ◌≡◌ {A = ℕ} 1 0). absurd (omega arith)) ((list_calm d y).is 1)
