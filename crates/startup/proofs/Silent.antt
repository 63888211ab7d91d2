-- A walk ends at the wait k exactly if that wait is not answered within the limit: by the list, both ways.
use Prim.Native.Nat.{ℕ, zero, suc, ◌<◌}
use native.Mathlib.Omega.{arith}
use mathlib.Core.Path.{◌≡◌, refl, ◌∙◌, ap}
use mathlib.Core.Logic.{◌↔◌}
use mathlib.Core.Bool.{Bool, true, false, cond}
use mathlib.Core.List.{List, [], ◌∷◌, ◌++◌}
use lib.ListN.{length}
use Rattle.order.specs.declared.wait.Awaited.{Awaited}
use Rattle.order.specs.Files.{Store, writes}
use Rattle.order.specs.Order.{Op, put, wait, stores_of}
use Rattle.startup.specs.Start.{polled_of, at_wait, after, walk}
use Rattle.startup.specs.Cuts.{Answers, none, store, ready, Silent}

-- ---- where a walk ends at a wait, that wait is silent
after_store : (lim : ℕ) (ws : Store) (os : List Op) (n : ℕ) (xs : List ℕ) (k : Awaited) → Silent lim os n xs k → Silent lim (put ws ∷ os) (suc n) xs k
after_store lim ws os n xs k s =
    record {
      done = put ws ∷ s.done;
      rest = s.rest;
      left = s.left;
      is = ap (λ (l : List Op). put ws ∷ l) s.is;
      fewer = omega (arith, s.fewer);
      answered = store s.answered;
      silent = s.silent;
    }

after_wait : (lim : ℕ) (j : Awaited) (os : List Op) (n : ℕ) (xs : List ℕ) (k : Awaited) → (polled_of lim xs).ready ≡ true → Silent lim os n (polled_of lim xs).rest k → Silent lim (wait j ∷ os) n xs k
after_wait lim j os n xs k e s =
    record {
      done = wait j ∷ s.done;
      rest = s.rest;
      left = s.left;
      is = ap (λ (l : List Op). wait j ∷ l) s.is;
      fewer = s.fewer;
      answered = ready e s.answered;
      silent = s.silent;
    }

forth : (lim : ℕ) (os : List Op) (n : ℕ) (xs f : List ℕ) (k : Awaited) → (walk lim os n xs f).ending ≡ at_wait k → Silent lim os n xs k
forth lim [] zero xs f k e = absurd (let q : ◌≡◌ {A = ℕ} 0 1 = cc in omega arith)
forth lim [] (suc n) xs f k e = absurd (let q : ◌≡◌ {A = ℕ} 0 1 = cc in omega arith)
forth lim (put ws ∷ os) zero xs f k e = absurd (let q : ◌≡◌ {A = ℕ} 0 1 = cc in omega arith)
forth lim (put ws ∷ os) (suc n) xs f k e = after_store lim ws os n xs k (forth lim os n xs (writes f ws) k e)
forth lim (wait j ∷ os) zero xs f k e = absurd (let q : ◌≡◌ {A = ℕ} 0 1 = cc in omega arith)
forth lim (wait j ∷ os) (suc n) xs f k e = by (polled_of lim xs).ready refl e (forth lim os (suc n) (polled_of lim xs).rest f k)
  where
    by : (b : Bool) → (polled_of lim xs).ready ≡ b
        → (cond b (after (polled_of lim xs).polls (walk lim os (suc n) (polled_of lim xs).rest f)) (record { ending = at_wait j; file = f; polls = (polled_of lim xs).polls })).ending ≡ at_wait k
        → ((walk lim os (suc n) (polled_of lim xs).rest f).ending ≡ at_wait k → Silent lim os (suc n) (polled_of lim xs).rest k)
        → Silent lim (wait j ∷ os) (suc n) xs k
    by true r h ih = after_wait lim j os (suc n) xs k r (ih h)
    by false r h ih =
        let q : j ≡ k = cc in
        record { done = []; rest = os; left = xs; is = ap (λ (i : Awaited). wait i ∷ os) q; fewer = omega arith; answered = none; silent = r }

-- ---- and back
back : (lim : ℕ) (a b : List Op) (n : ℕ) (xs ys f : List ℕ) (k : Awaited) → Answers lim a xs ys → (polled_of lim ys).ready ≡ false → length (stores_of a) < n
    → (walk lim (a ++ wait k ∷ b) n xs f).ending ≡ at_wait k
back lim a b zero xs ys f k w s h = absurd (omega arith)
back lim [] b (suc n) xs ys f k none s h = rw s
back lim (put ws ∷ a) b (suc n) xs ys f k (store w) s h = back lim a b n xs ys (writes f ws) k w s (omega arith)
back lim (wait j ∷ a) b (suc n) xs ys f k (ready r w) s h = rw r (back lim a b (suc n) (polled_of lim xs).rest ys f k w s h)

pub silent_exactly : (lim : ℕ) (os : List Op) (n : ℕ) (xs f : List ℕ) (k : Awaited) → ((walk lim os n xs f).ending ≡ at_wait k) ↔ Silent lim os n xs k
silent_exactly lim os n xs f k =
    (forth lim os n xs f k, λ s. ap (λ (l : List Op). (walk lim l n xs f).ending) s.is ∙ back lim s.done s.rest n xs s.left f k s.answered s.silent s.fewer)
