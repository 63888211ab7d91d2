-- Demand 3 over the list: from its second store on, SW names HSI until the last store, which finds every field at the plan's value.
use Prim.Native.Nat.{ℕ, zero, suc, ◌-◌, ◌≤◌, ◌<◌}
use native.Mathlib.Omega.{arith}
use mathlib.Core.Path.{◌≡◌, refl, sym, ◌∙◌, ap, subst}
use mathlib.Core.Bool.{Bool, true, false, cond, false≢true}
use mathlib.Core.List.{List, [], ◌∷◌, ◌++◌, append_assoc}
use lib.Dec.{eqb}
use lib.ListN.{length, get_or, take, set, length-set}
use lib.Seq.{get_or-set_same}
use borrow.Author.Tests.{eqb-true}
use Rattle.kinds.specs.declared.CFGR.{CFGR}
use Rattle.clocks.specs.declared.InternalRCCConfig.{InternalRCCConfig}
use Rattle.order.specs.Places.{PLACES, HSION, PLLON, SW, PPRE1, PPRE2, HPRE, PLLM, PLLN, PLLP, PLLQ, PLLSRC, VOS, ODEN, ODSWEN, LATENCY}
use Rattle.order.specs.Files.{Store, applies}
use Rattle.order.specs.Order.{Op, pll_stored, sw_of, last_ops, rest_ops, ops_of, stores_of}
use Rattle.order.specs.Fields.{hsi_fields, hse_fields, pll_fields, lse_fields, lsi_fields, sai_fields, choice_fields, i2s_fields, fields_of, names, Holds}
use Rattle.order.specs.Safe.{PllSet, OverSet, Settled, Safe, hsi, own}
use Rattle.order.proofs.Restart.{flat}
use Rattle.order.proofs.Looks.{written, flat_both, stores_both, names_both, quiet_cut}
use Rattle.order.proofs.ByKind.{pll_held}
use Rattle.order.proofs.Homes.{has_place, Section, not_here}
use Rattle.order.proofs.Touched.{hse_section, pll_section, lse_section, lsi_section, sai_section, choice_section, i2s_section, list_holds}

-- a list with one store at its end is cut before that store, or not at all
data CutLast (l : List Store) (ws : Store) (n : ℕ) : Type 0 where
  before : take n (l ++ ws ∷ []) ≡ take n l → CutLast l ws n
  whole : take n (l ++ ws ∷ []) ≡ l ++ ws ∷ [] → CutLast l ws n

cut_more : (a : Store) (l : List Store) (ws : Store) (n : ℕ) → CutLast l ws n → CutLast (a ∷ l) ws (suc n)
cut_more a l ws n (before e) = before (ap (λ (t : List Store). a ∷ t) e)
cut_more a l ws n (whole e) = whole (ap (λ (t : List Store). a ∷ t) e)

cut_last : (l : List Store) (ws : Store) (n : ℕ) → CutLast l ws n
cut_last [] ws zero = before refl
cut_last [] ws (suc zero) = whole refl
cut_last [] ws (suc (suc n)) = whole refl
cut_last (a ∷ l) ws zero = before refl
cut_last (a ∷ l) ws (suc n) = cut_more a l ws n (cut_last l ws n)

-- ---- SW between its two stores
-- the stores of the list os are some that do not name SW, and then ws
record Ends (os : List Op) (ws : Store) : Type 0 where
  stores : List Store
  is : stores_of os ≡ stores ++ ws ∷ []
  quiet : names SW (flat stores) ≡ false

-- all stores but the last
abbrev but_last : List Store → List Store
but_last [] = []
but_last (a ∷ []) = []
but_last (a ∷ b ∷ l) = a ∷ but_last (b ∷ l)

ends : (os : List Op) (ws : Store) → stores_of os ≡ but_last (stores_of os) ++ ws ∷ [] → names SW (flat (but_last (stores_of os))) ≡ false → Ends os ws
ends os ws e n = record { stores = but_last (stores_of os); is = e; quiet = n }

-- a section ahead that has no place SW
ahead : {P : List ℕ} {os ps : List Op} {F : List (ℕ × ℕ)} {ws : Store} → Section P os F → Ends ps ws → has_place SW P ≡ false → Ends (os ++ ps) ws
ahead {P} {os} {ps} {F} {ws} s r n =
    record {
      stores = stores_of os ++ r.stores;
      is = stores_both os ps ∙ ap (λ (l : List Store). stores_of os ++ l) r.is ∙ sym (append_assoc (stores_of os) r.stores (ws ∷ []));
      quiet = rw (flat_both (stores_of os) r.stores) (names_both SW (written os) (flat r.stores) (not_here SW n s) r.quiet);
    }

-- the plan's own source
abbrev final : CFGR → Store
final d = (SW, sw_of d.sources.hse d.pll) ∷ []

-- HSION and SW = HSI, then l
abbrev begins : List Store → List Store
begins l = ((HSION, 1) ∷ []) ∷ ((SW, 0) ∷ []) ∷ l

rest_ends : (d : CFGR) (y : InternalRCCConfig) → Ends (rest_ops d y) (final d)
rest_ends d y =
    let last = ends (last_ops d.mco y (sw_of d.sources.hse d.pll)) (final d) refl refl in
    let i2s = ahead (i2s_section d.i2s) last refl in
    let choice = ahead (choice_section d.pll.pll48clk) i2s refl in
    let sai = ahead (sai_section d.sai) choice refl in
    let lsi = ahead (lsi_section d.sources.lsi) sai refl in
    let lse = ahead (lse_section d.sources.lse) lsi refl in
    let pll = ahead (pll_section d.sources.hse d.pll y) lse refl in
    ahead (hse_section d.sources.hse) pll refl

abbrev between : CFGR → InternalRCCConfig → List Store
between d y = (rest_ends d y).stores

plan_stores : (d : CFGR) (y : InternalRCCConfig) → stores_of (ops_of d y) ≡ begins (between d y ++ final d ∷ [])
plan_stores d y = ap begins (rest_ends d y).is

-- after the switch to HSI, SW is HSI until the last store
sw_between : (d : CFGR) (y : InternalRCCConfig) (f : List ℕ) (n : ℕ) → length f ≡ PLACES → get_or (applies f (begins (take n (between d y)))) SW 0 ≡ 0
sw_between d y f n l =
    let k : SW < length (set f HSION 1) = rw (length-set f HSION 1) (omega arith) in
    quiet_cut SW (set (set f HSION 1) SW 0) (between d y) n (rest_ends d y).quiet ∙ get_or-set_same (set f HSION 1) SW 0 0 k

-- ---- where all the fields of the plan stand
record Held (f : List ℕ) (F : List (ℕ × ℕ)) : Type 0 where
  is : Holds F f

-- the fields after those of a section, and the section's own
past : {f : List ℕ} (F : List (ℕ × ℕ)) {G : List (ℕ × ℕ)} → Held f (F ++ G) → Held f G
past [] h = h
past (w ∷ F) h = past F (record { is = h.is.1 })

front : {f : List ℕ} (F G : List (ℕ × ℕ)) → Held f (F ++ G) → Held f F
front [] G h = record { is = tt }
front (w ∷ F) G h = record { is = (h.is.0, (front F G (record { is = h.is.1 })).is) }

-- the value that the fields give the place q
abbrev value : ℕ → List (ℕ × ℕ) → ℕ
value q [] = 0
value q (w ∷ F) = cond (eqb q w.0) w.1 (value q F)

held : (f : List ℕ) (F : List (ℕ × ℕ)) (q : ℕ) → names q F ≡ true → Holds F f → get_or f q 0 ≡ value q F
held f [] q n h = absurd (false≢true n)
held f (w ∷ F) q n h = by (eqb q w.0) refl n (λ i. held f F q i h.1)
  where
    by : (b : Bool) → eqb q w.0 ≡ b → cond b true (names q F) ≡ true → (names q F ≡ true → get_or f q 0 ≡ value q F)
        → get_or f q 0 ≡ cond b w.1 (value q F)
    by true e i ih = ap (λ (t : ℕ). get_or f t 0) (eqb-true q w.0 e) ∙ h.0
    by false e i ih = ih i

at : {f : List ℕ} {F : List (ℕ × ℕ)} → Held f F → (q : ℕ) → names q F ≡ true → get_or f q 0 ≡ value q F
at {f} {F} h q n = held f F q n h.is

module _ (d : CFGR) (y : InternalRCCConfig) (f : List ℕ) where
  -- the PLL's, where they are stored
  abbrev pll_if : Bool → Bool → List (ℕ × ℕ)
  pll_if b o = cond b (pll_held d.sources.hse d.pll y.vos_scale o) []

  pll_set : (b o : Bool) → b ≡ true → Held f (pll_if b o) → PllSet d y f
  pll_set true o e h =
      record { m = at h PLLM refl; n = at h PLLN refl; p = at h PLLP refl; q = at h PLLQ refl; src = at h PLLSRC refl; on = at h PLLON refl; vos = at h VOS refl }
  pll_set false o e h = absurd (false≢true e)

  over_set : (b o : Bool) → b ≡ true → o ≡ true → Held f (pll_if b o) → OverSet f
  over_set true true e i h = record { oden = at h ODEN refl; odswen = at h ODSWEN refl }
  over_set true false e i h = absurd (false≢true i)
  over_set false o e i h = absurd (false≢true e)

  pub settled : Holds (fields_of d y) f → Settled d y f
  settled h =
      let all : Held f (fields_of d y) = record { is = h } in
      let hse = past hsi_fields all in
      let pll = past (hse_fields d.sources.hse) hse in
      let lse = past (pll_fields d.sources.hse d.pll y) pll in
      let lsi = past (lse_fields d.sources.lse) lse in
      let sai = past (lsi_fields d.sources.lsi) lsi in
      let choice = past (sai_fields d.sai) sai in
      let i2s = past (choice_fields d.pll.pll48clk) choice in
      let last = past (i2s_fields d.i2s) i2s in
      let k = front (pll_fields d.sources.hse d.pll y) _ pll in
      record {
        source = at last SW refl;
        bus = record { latency = at last LATENCY refl; hpre = at last HPRE refl; ppre1 = at last PPRE1 refl; ppre2 = at last PPRE2 refl };
        pll = λ on. pll_set (pll_stored d.pll) y.overdrive on k;
        over = λ on o. over_set (pll_stored d.pll) y.overdrive on o k;
        all = h;
      }

-- every cut of the list, two stores made
safe_step : (d : CFGR) (y : InternalRCCConfig) (f : List ℕ) (n : ℕ) → length f ≡ PLACES → CutLast (between d y) (final d) n → Safe d y (applies f (take (suc (suc n)) (stores_of (ops_of d y))))
safe_step d y f n l (before e) =
    hsi (ap (λ (t : List Store). get_or (applies f t) SW 0) (ap (take (suc (suc n))) (plan_stores d y) ∙ ap begins e) ∙ sw_between d y f n l)
safe_step d y f n l (whole e) =
    let g : take (suc (suc n)) (stores_of (ops_of d y)) ≡ stores_of (ops_of d y) = ap (take (suc (suc n))) (plan_stores d y) ∙ ap begins e ∙ sym (plan_stores d y) in
    own (settled d y _ (subst (λ (t : List Store). Holds (fields_of d y) (applies f t)) (sym g) (list_holds d y f l)))

pub safe_list : (d : CFGR) (y : InternalRCCConfig) (f : List ℕ) (n : ℕ) → length f ≡ PLACES → 2 ≤ n → Safe d y (applies f (take n (stores_of (ops_of d y))))
safe_list d y f n l h =
    let e : n ≡ suc (suc (n - 2)) = omega arith in rw e (safe_step d y f (n - 2) l (cut_last (between d y) (final d) (n - 2)))
