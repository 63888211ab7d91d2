-- A start is done, or cut, exactly if its limit is good, its plan accepted and each wait up to there answered: by the list, both ways.
use Prim.Native.Nat.{ℕ, zero, suc, ◌<◌}
use native.Mathlib.Omega.{arith}
use mathlib.Core.Path.{◌≡◌, refl, ◌∙◌, ap, subst}
use mathlib.Core.Logic.{◌↔◌}
use mathlib.Core.Bool.{Bool, true, false, cond}
use mathlib.Core.List.{List, [], ◌∷◌, ◌++◌}
use lib.ListN.{length}
use Rattle.kinds.specs.Table.{Between}
use Rattle.kinds.specs.declared.CFGR.{CFGR}
use Rattle.kinds.specs.declared.refusals.Refusal.{Refusal}
use Rattle.kinds.specs.declared.refusals.Refusal.TheVariants.{PollLimit}
use Rattle.clocks.specs.declared.Clocks.{Clocks}
use Rattle.clocks.specs.declared.InternalRCCConfig.{InternalRCCConfig}
use Rattle.plan.specs.Plan.{ready as plans, plan_of}
use Rattle.order.specs.Files.{writes}
use Rattle.order.specs.Order.{Op, put, wait, stores_of, ops_of}
use Rattle.startup.specs.Start.{done_with, cut_with, polled_of, Ending, at_end, at_cut, at_wait, after, walk, outcome_of, start_of}
use Rattle.startup.specs.Cuts.{Answers, none, store, ready, Reached}
use Rattle.startup.specs.declared.Outcome.TheVariants.{Refused}
use Rattle.startup.specs.declared.Started.{Started}
use Rattle.startup.proofs.Told.{done_told, cut_told}
use Rattle.startup.proofs.View.{StartView, bad_limit, not_planned, ran, start_view}
use Rattle.startup.proofs.Demands.{is_walk}

-- the cut is above the stores of the list, and each of its waits is answered
abbrev Whole : ℕ → ℕ → List ℕ → List Op → Type 0
Whole lim cut xs os = (length (stores_of os) < cut) × ((ys : List ℕ) × Answers lim os xs ys)

-- ---- a walk comes to its end
to_end : (lim : ℕ) (os : List Op) (n : ℕ) (xs f : List ℕ) → (walk lim os n xs f).ending ≡ at_end → Whole lim n xs os
to_end lim [] zero xs f e = absurd (let q : ◌≡◌ {A = ℕ} 0 1 = cc in omega arith)
to_end lim [] (suc n) xs f e = (omega arith, (xs, none))
to_end lim (put ws ∷ os) zero xs f e = absurd (let q : ◌≡◌ {A = ℕ} 0 1 = cc in omega arith)
to_end lim (put ws ∷ os) (suc n) xs f e = let h = to_end lim os n xs (writes f ws) e in (omega (arith, h.0), (h.1.0, store h.1.1))
to_end lim (wait j ∷ os) zero xs f e = absurd (let q : ◌≡◌ {A = ℕ} 0 1 = cc in omega arith)
to_end lim (wait j ∷ os) (suc n) xs f e = by (polled_of lim xs).ready refl e (to_end lim os (suc n) (polled_of lim xs).rest f)
  where
    by : (b : Bool) → (polled_of lim xs).ready ≡ b
        → (cond b (after (polled_of lim xs).polls (walk lim os (suc n) (polled_of lim xs).rest f)) (record { ending = at_wait j; file = f; polls = (polled_of lim xs).polls })).ending ≡ at_end
        → ((walk lim os (suc n) (polled_of lim xs).rest f).ending ≡ at_end → Whole lim (suc n) (polled_of lim xs).rest os)
        → Whole lim (suc n) xs (wait j ∷ os)
    by true r h ih = let g = ih h in (g.0, (g.1.0, ready r g.1.1))
    by false r h ih = absurd (let q : ◌≡◌ {A = ℕ} 0 1 = cc in omega arith)

end_back : (lim : ℕ) (os : List Op) (n : ℕ) (xs ys f : List ℕ) → length (stores_of os) < n → Answers lim os xs ys → (walk lim os n xs f).ending ≡ at_end
end_back lim os zero xs ys f h w = absurd (omega arith)
end_back lim [] (suc n) xs ys f h none = refl
end_back lim (put ws ∷ os) (suc n) xs ys f h (store w) = end_back lim os n xs ys (writes f ws) (omega arith) w
end_back lim (wait j ∷ os) (suc n) xs ys f h (ready r w) = rw r (end_back lim os (suc n) (polled_of lim xs).rest ys f h w)

-- ---- a walk comes to the cut
to_cut : (lim : ℕ) (os : List Op) (n : ℕ) (xs f : List ℕ) → (walk lim os n xs f).ending ≡ at_cut → Reached lim os n xs
to_cut lim os zero xs f e = record { done = []; rest = os; left = xs; is = refl; made = refl; answered = none }
to_cut lim [] (suc n) xs f e = absurd (let q : ◌≡◌ {A = ℕ} 0 1 = cc in omega arith)
to_cut lim (put ws ∷ os) (suc n) xs f e =
    let h = to_cut lim os n xs (writes f ws) e in
    record {
      done = put ws ∷ h.done;
      rest = h.rest;
      left = h.left;
      is = ap (λ (l : List Op). put ws ∷ l) h.is;
      made = ap suc h.made;
      answered = store h.answered;
    }
to_cut lim (wait j ∷ os) (suc n) xs f e = by (polled_of lim xs).ready refl e (to_cut lim os (suc n) (polled_of lim xs).rest f)
  where
    by : (b : Bool) → (polled_of lim xs).ready ≡ b
        → (cond b (after (polled_of lim xs).polls (walk lim os (suc n) (polled_of lim xs).rest f)) (record { ending = at_wait j; file = f; polls = (polled_of lim xs).polls })).ending ≡ at_cut
        → ((walk lim os (suc n) (polled_of lim xs).rest f).ending ≡ at_cut → Reached lim os (suc n) (polled_of lim xs).rest)
        → Reached lim (wait j ∷ os) (suc n) xs
    by true r h ih =
        let g = ih h in
        record {
          done = wait j ∷ g.done;
          rest = g.rest;
          left = g.left;
          is = ap (λ (l : List Op). wait j ∷ l) g.is;
          made = g.made;
          answered = ready r g.answered;
        }
    by false r h ih = absurd (let q : ◌≡◌ {A = ℕ} 0 1 = cc in omega arith)

at_once : (lim : ℕ) (os : List Op) (xs f : List ℕ) → (walk lim os 0 xs f).ending ≡ at_cut
at_once lim [] xs f = refl
at_once lim (put ws ∷ os) xs f = refl
at_once lim (wait j ∷ os) xs f = refl

cut_back : (lim : ℕ) (a b : List Op) (n : ℕ) (xs ys f : List ℕ) → length (stores_of a) ≡ n → Answers lim a xs ys → (walk lim (a ++ b) n xs f).ending ≡ at_cut
cut_back lim a b zero xs ys f h w = at_once lim (a ++ b) xs f
cut_back lim [] b (suc n) xs ys f h none = absurd (omega arith)
cut_back lim (put ws ∷ a) b (suc n) xs ys f h (store w) = cut_back lim a b n xs ys (writes f ws) (omega arith) w
cut_back lim (wait j ∷ a) b (suc n) xs ys f h (ready r w) = rw r (cut_back lim a b (suc n) (polled_of lim xs).rest ys f h w)

-- ---- a start
-- a refusal is none of a walk's outcomes
not_refused : (n : Refusal) (x : Clocks) (y : InternalRCCConfig) (e : Ending) → Refused n ≡ outcome_of x y e → ⊥
not_refused n x y at_end h = let q : ◌≡◌ {A = ℕ} 0 1 = cc in omega arith
not_refused n x y at_cut h = let q : ◌≡◌ {A = ℕ} 0 1 = cc in omega arith
not_refused n x y (at_wait k) h = let q : ◌≡◌ {A = ℕ} 0 1 = cc in omega arith

module _ (c : CFGR) (f : List ℕ) (lim : ℕ) (xs : List ℕ) (cut : ℕ) (x : Clocks) (y : InternalRCCConfig) where
  -- the limit is good, the plan accepted with these clocks and field codes, and P holds of its list
  abbrev Runs : (List Op → Type 0) → Type 0
  Runs P = Between 1 65535 lim × ((d : CFGR) × (k : ℕ) × (plan_of c ≡ plans d k x y) × P (ops_of d y))

  -- of an ending that tells the plan's clocks and field codes
  by_ending : (P : List Op → Type 0) (e : Ending) → ((os : List Op) → ((walk lim os cut xs f).ending ≡ e) ↔ P os)
      → ((t : Clocks) (v : InternalRCCConfig) (i : Ending) → outcome_of t v i ≡ outcome_of x y e → (t ≡ x) × (v ≡ y) × (i ≡ e))
      → ((start_of c f lim xs cut).outcome ≡ outcome_of x y e) ↔ Runs P
  by_ending P e is told = (forth (start_of c f lim xs cut) (start_view c f lim xs cut), back)
    where
      same : (d : CFGR) (k : ℕ) (t : Clocks) (v : InternalRCCConfig) → t ≡ x → v ≡ y → plan_of c ≡ plans d k t v → P (ops_of d v)
          → (a : CFGR) × (j : ℕ) × (plan_of c ≡ plans a j x y) × P (ops_of a y)
      same d k t v g h p w = (d, k, p ∙ ap (λ (i : Clocks). plans d k i v) g ∙ ap (plans d k x) h, subst (λ (i : InternalRCCConfig). P (ops_of d i)) h w)

      forth : (r : Started) → StartView c f lim xs cut r → r.outcome ≡ outcome_of x y e → Runs P
      forth r (bad_limit o) h = absurd (not_refused PollLimit x y e h)
      forth r (not_planned {u = u} b p) h = absurd (not_refused u.refusal x y e h)
      forth r (ran {d = d} {k = k} {x = t} {y = v} b p) h =
          let g = told t v (walk lim (ops_of d v) cut xs f).ending h in
          (b, same d k t v g.0 g.1 p ((is (ops_of d v)).0 g.2))

      back : Runs P → (start_of c f lim xs cut).outcome ≡ outcome_of x y e
      back (b, (d, k, p, w)) = ap (λ (r : Started). r.outcome) (is_walk c d k x y p f lim xs cut b) ∙ ap (outcome_of x y) ((is (ops_of d y)).1 w)

  -- done, with these clocks and field codes, exactly if the limit is good, the plan accepted with them, the cut above its stores and
  -- every wait answered
  pub done_exactly : ((start_of c f lim xs cut).outcome ≡ done_with x y)
      ↔ (Between 1 65535 lim × ((d : CFGR) × (k : ℕ) × (plan_of c ≡ plans d k x y) × ((length (stores_of (ops_of d y)) < cut) × ((ys : List ℕ) × Answers lim (ops_of d y) xs ys))))
  done_exactly = by_ending (Whole lim cut xs) at_end (λ os. (to_end lim os cut xs f, λ w. end_back lim os cut xs w.1.0 f w.0 w.1.1)) told
    where
      told : (t : Clocks) (v : InternalRCCConfig) (i : Ending) → outcome_of t v i ≡ done_with x y → (t ≡ x) × (v ≡ y) × (i ≡ at_end)
      told t v at_end h = let q = done_told h in (q.0, q.1, refl)
      told t v at_cut h = absurd (let q : ◌≡◌ {A = ℕ} 0 1 = cc in omega arith)
      told t v (at_wait k) h = absurd (let q : ◌≡◌ {A = ℕ} 0 1 = cc in omega arith)

  -- cut, with these clocks and field codes, exactly if the limit is good, the plan accepted with them and the cut reached: each wait
  -- before the store that it names answered
  pub cut_reached_exactly : ((start_of c f lim xs cut).outcome ≡ cut_with x y)
      ↔ (Between 1 65535 lim × ((d : CFGR) × (k : ℕ) × (plan_of c ≡ plans d k x y) × Reached lim (ops_of d y) cut xs))
  cut_reached_exactly = by_ending (λ os. Reached lim os cut xs) at_cut
      (λ os. (to_cut lim os cut xs f, λ s. ap (λ (l : List Op). (walk lim l cut xs f).ending) s.is ∙ cut_back lim s.done s.rest cut xs s.left f s.made s.answered)) told
    where
      told : (t : Clocks) (v : InternalRCCConfig) (i : Ending) → outcome_of t v i ≡ cut_with x y → (t ≡ x) × (v ≡ y) × (i ≡ at_cut)
      told t v at_end h = absurd (let q : ◌≡◌ {A = ℕ} 0 1 = cc in omega arith)
      told t v at_cut h = let q = cut_told h in (q.0, q.1, refl)
      told t v (at_wait k) h = absurd (let q : ◌≡◌ {A = ℕ} 0 1 = cc in omega arith)
