-- What a walk leaves in the file, how many polls it makes, and that answers of 1 lead it to its end: each by the list, store by store and wait by wait.
use Prim.Native.Nat.{ℕ, zero, suc, ◌+◌, ◌*◌, ◌≤◌, ◌<◌}
use native.Mathlib.Omega.{arith}
use native.Mathlib.Nat.{suc-mul}
use mathlib.Core.Path.{◌≡◌, refl, ap}
use mathlib.Core.List.{List, [], ◌∷◌, ◌++◌}
use mathlib.Core.Bool.{Bool, true, false, cond}
use lib.ListN.{length, replicate}
use Rattle.order.specs.declared.wait.Awaited.{Awaited}
use Rattle.order.specs.Files.{writes}
use Rattle.order.specs.Order.{Op, put, wait, stores_of, waits, waits_by}
use Rattle.startup.specs.Start.{polled_of, Ending, at_end, at_cut, at_wait, after, walk}
use Rattle.startup.proofs.Polls.{polled_few}
use Rattle.startup.specs.Cuts.{Leaves, whole, first, before}

-- ---- the file
after_store : {ws : List (ℕ × ℕ)} {os : List Op} {n : ℕ} {f g : List ℕ} {e : Ending} → Leaves os n (writes f ws) e g → Leaves (put ws ∷ os) (suc n) f e g
after_store (whole h) = whole (omega arith)
after_store (first h) = first (omega arith)
after_store {ws} (before a b e h) = before (put ws ∷ a) b (ap (λ (l : List Op). put ws ∷ l) e) (omega arith)

after_wait : {k : Awaited} {os : List Op} {n : ℕ} {f g : List ℕ} {e : Ending} → Leaves os n f e g → Leaves (wait k ∷ os) n f e g
after_wait (whole h) = whole h
after_wait (first h) = first h
after_wait {k} (before a b e h) = before (wait k ∷ a) b (ap (λ (l : List Op). wait k ∷ l) e) h

pub leaves : (lim : ℕ) (os : List Op) (n : ℕ) (xs f : List ℕ) → Leaves os n f (walk lim os n xs f).ending (walk lim os n xs f).file
leaves lim [] zero xs f = first (omega arith)
leaves lim [] (suc n) xs f = whole (omega arith)
leaves lim (put ws ∷ os) zero xs f = first (omega arith)
leaves lim (put ws ∷ os) (suc n) xs f = after_store (leaves lim os n xs (writes f ws))
leaves lim (wait k ∷ os) zero xs f = first (omega arith)
leaves lim (wait k ∷ os) (suc n) xs f = by (polled_of lim xs).ready (leaves lim os (suc n) (polled_of lim xs).rest f)
  where
    by : (b : Bool) → Leaves os (suc n) f (walk lim os (suc n) (polled_of lim xs).rest f).ending (walk lim os (suc n) (polled_of lim xs).rest f).file
        → Leaves (wait k ∷ os) (suc n) f
        (cond b (after (polled_of lim xs).polls (walk lim os (suc n) (polled_of lim xs).rest f)) (record { ending = at_wait k; file = f; polls = (polled_of lim xs).polls })).ending
        (cond b (after (polled_of lim xs).polls (walk lim os (suc n) (polled_of lim xs).rest f)) (record { ending = at_wait k; file = f; polls = (polled_of lim xs).polls })).file
    by true h = after_wait h
    by false h = before [] os refl (omega arith)

-- ---- the polls: each wait makes at most the limit
pub polls_few : (lim : ℕ) (os : List Op) (n : ℕ) (xs f : List ℕ) → (walk lim os n xs f).polls ≤ waits os * lim
polls_few lim [] zero xs f = omega arith
polls_few lim [] (suc n) xs f = omega arith
polls_few lim (put ws ∷ os) zero xs f = omega arith
polls_few lim (put ws ∷ os) (suc n) xs f = polls_few lim os n xs (writes f ws)
polls_few lim (wait k ∷ os) zero xs f = omega arith
polls_few lim (wait k ∷ os) (suc n) xs f = by (polled_of lim xs).ready (polled_few lim xs) (polls_few lim os (suc n) (polled_of lim xs).rest f) (suc-mul (waits os) lim)
  where
    by : (b : Bool) → (polled_of lim xs).polls ≤ lim → (walk lim os (suc n) (polled_of lim xs).rest f).polls ≤ waits os * lim → suc (waits os) * lim ≡ waits os * lim + lim
        → (cond b (after (polled_of lim xs).polls (walk lim os (suc n) (polled_of lim xs).rest f)) (record { ending = at_wait k; file = f; polls = (polled_of lim xs).polls })).polls
        ≤ suc (waits os) * lim
    by true h g e = omega arith
    by false h g e = omega arith

-- ---- answers of 1: as many as the list has waits, whatever follows
-- one poll for each wait before the cut
pub ones_polls : (l : ℕ) (os : List Op) (n : ℕ) (ys f : List ℕ) → (walk (suc l) os n (replicate (waits os) 1 ++ ys) f).polls ≡ waits_by os n
ones_polls l [] zero ys f = refl
ones_polls l [] (suc n) ys f = refl
ones_polls l (put ws ∷ os) zero ys f = refl
ones_polls l (put ws ∷ os) (suc n) ys f = ones_polls l os n ys (writes f ws)
ones_polls l (wait k ∷ os) zero ys f = refl
ones_polls l (wait k ∷ os) (suc n) ys f = let g = ones_polls l os (suc n) ys f in omega arith

-- a cut above the stores: the walk comes to its end
pub ones_end : (l : ℕ) (os : List Op) (n : ℕ) (ys f : List ℕ) → length (stores_of os) < n → (walk (suc l) os n (replicate (waits os) 1 ++ ys) f).ending ≡ at_end
ones_end l [] zero ys f h = absurd (omega arith)
ones_end l [] (suc n) ys f h = refl
ones_end l (put ws ∷ os) zero ys f h = absurd (omega arith)
ones_end l (put ws ∷ os) (suc n) ys f h = ones_end l os n ys (writes f ws) (omega arith)
ones_end l (wait k ∷ os) zero ys f h = absurd (omega arith)
ones_end l (wait k ∷ os) (suc n) ys f h = ones_end l os (suc n) ys f h

-- a cut that the stores reach: it is cut there
pub ones_cut : (l : ℕ) (os : List Op) (n : ℕ) (ys f : List ℕ) → n ≤ length (stores_of os) → (walk (suc l) os n (replicate (waits os) 1 ++ ys) f).ending ≡ at_cut
ones_cut l [] zero ys f h = refl
ones_cut l [] (suc n) ys f h = absurd (omega arith)
ones_cut l (put ws ∷ os) zero ys f h = refl
ones_cut l (put ws ∷ os) (suc n) ys f h = ones_cut l os n ys (writes f ws) (omega arith)
ones_cut l (wait k ∷ os) zero ys f h = refl
ones_cut l (wait k ∷ os) (suc n) ys f h = ones_cut l os (suc n) ys f h

-- no wait is left out where the cut is above the stores
pub waits_whole : (os : List Op) (n : ℕ) → length (stores_of os) < n → waits_by os n ≡ waits os
waits_whole [] n h = refl
waits_whole (put ws ∷ os) zero h = absurd (omega arith)
waits_whole (put ws ∷ os) (suc n) h = waits_whole os n (omega arith)
waits_whole (wait k ∷ os) zero h = absurd (omega arith)
waits_whole (wait k ∷ os) (suc n) h = ap suc (waits_whole os (suc n) h)
