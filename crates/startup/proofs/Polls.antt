-- What one turn of the polls does; that polls by an index of the answers are those over the answers left; that they are no more than the limit.
use Prim.Native.Nat.{ℕ, zero, suc, ◌+◌, ◌-◌, ◌<◌, ◌≤◌}
use native.Mathlib.Omega.{arith}
use mathlib.Core.Path.{◌≡◌, refl, ◌∙◌, ap}
use mathlib.Core.List.{List, [], ◌∷◌}
use mathlib.Core.Bool.{Bool, true, false, cond}
use lib.Dec.{ltb, eqb}
use lib.ListN.{length, get_or, drop, drop_of_length-le}
use lib.Seq.{drop-cons}
use borrow.Author.Tests.{lt-ltb, le-ltb, eq-eqb, ne_eqb, ltb-true, ltb-false}
use Rattle.startup.specs.Start.{Polled, again, polled_of}
use Rattle.startup.specs.Machine.{Poll, poll_of, Polls}
use Rattle.startup.specs.declared.machine.Machine.{Machine}

module _ (xs : List ℕ) (at lim k : ℕ) where
  pub hit : k < lim → at < length xs → get_or xs at 0 ≡ 1 → poll_of xs at (lim - k) k ≡ record { ready = true; polls = k + 1; at = at + 1 }
  unfolding poll_of
  hit h i b = let e : lim - k ≡ suc (lim - (k + 1)) = omega arith in rw e (simp (lt-ltb _ _ i, eq-eqb _ _ b))

  pub miss : k < lim → at < length xs → (get_or xs at 0 ≡ 1 → ⊥) → poll_of xs at (lim - k) k ≡ poll_of xs (at + 1) (lim - (k + 1)) (k + 1)
  unfolding poll_of
  miss h i b = let e : lim - k ≡ suc (lim - (k + 1)) = omega arith in rw e (simp (lt-ltb _ _ i, ne_eqb _ _ b))

  pub past : k < lim → length xs ≤ at → poll_of xs at (lim - k) k ≡ poll_of xs at (lim - (k + 1)) (k + 1)
  unfolding poll_of
  past h i = let e : lim - k ≡ suc (lim - (k + 1)) = omega arith in rw e (simp (le-ltb _ _ i))

  pub over : lim ≤ k → poll_of xs at (lim - k) k ≡ record { ready = false; polls = k; at = at }
  unfolding poll_of
  over h = let e : lim - k ≡ 0 = omega arith in rw e

-- ---- the machine as its polls are made
-- n is m after k polls, none of them ready, of a wait that may poll lim times
pub record Polling (xs : List ℕ) (lim : ℕ) (m : Machine) (k : ℕ) (n : Machine) : Type 0 where
  pub file : n.file ≡ m.file
  pub left : n.left ≡ m.left
  pub polls : n.polls ≡ m.polls + k
  pub stop : n.stop ≡ m.stop
  pub rest : poll_of xs m.at lim 0 ≡ poll_of xs n.at (lim - k) k

-- one poll more, ys being the answers as they are read
module _ {xs ys : List ℕ} {lim : ℕ} {m : Machine} {k : ℕ} {n : Machine} (s : Polling xs lim m k n) (g : ys ≡ xs) (h : k < lim) where
  -- it takes a byte that is 1
  pub ready : n.at < length ys → get_or ys n.at 0 ≡ 1
      → Polls xs lim m true (record { file = n.file; left = n.left; polls = n.polls + 1; at = n.at + 1; stop = n.stop })
  ready i b =
      let e : poll_of xs m.at lim 0 ≡ record { ready = true; polls = k + 1; at = n.at + 1 } = s.rest ∙ hit xs n.at lim k h (rw (← g) i) (rw (← g) b) in
      let p : n.polls + 1 ≡ m.polls + (k + 1) = omega (arith, s.polls) in
      record { told = rw e refl; is = rw (e, ← p, ← s.file, ← s.left, ← s.stop) }

  -- another byte
  pub missed : n.at < length ys → (get_or ys n.at 0 ≡ 1 → ⊥)
      → Polling xs lim m (k + 1) (record { file = n.file; left = n.left; polls = n.polls + 1; at = n.at + 1; stop = n.stop })
  missed i b =
      record {
        file = s.file;
        left = s.left;
        polls = omega (arith, s.polls);
        stop = s.stop;
        rest = s.rest ∙ miss xs n.at lim k h (rw (← g) i) (λ e. b (rw g e));
      }

  -- or none, past the end
  pub passed : length ys ≤ n.at → Polling xs lim m (k + 1) (record { file = n.file; left = n.left; polls = n.polls + 1; at = n.at; stop = n.stop })
  passed i =
      record {
        file = s.file;
        left = s.left;
        polls = omega (arith, s.polls);
        stop = s.stop;
        rest = s.rest ∙ past xs n.at lim k h (rw (← g) i);
      }

-- none was ready
pub silent : {xs : List ℕ} {lim : ℕ} {m : Machine} {k : ℕ} {n : Machine} → Polling xs lim m k n → k ≡ lim → Polls xs lim m false n
silent {xs} {lim} {m} {k} {n} s h =
    let e : poll_of xs m.at lim 0 ≡ record { ready = false; polls = k; at = n.at } = s.rest ∙ over xs n.at lim k (omega arith) in
    record { told = rw e refl; is = rw (e, ← s.file, ← s.left, ← s.stop, ← s.polls) }

-- ---- the same over the answers that are left
-- polls by an index of the answers, k of them made before, come to polls over the answers that are left
pub record Plain (xs : List ℕ) (k : ℕ) (p : Poll) (q : Polled) : Type 0 where
  pub ready : p.ready ≡ q.ready
  pub polls : p.polls ≡ k + q.polls
  pub rest : drop p.at xs ≡ q.rest

once_more : {xs : List ℕ} {k : ℕ} {p : Poll} {q : Polled} → Plain xs (k + 1) p q → Plain xs k p (again q)
once_more s = record { ready = s.ready; polls = omega (arith, s.polls); rest = s.rest }

module _ (xs : List ℕ) (at n k : ℕ) where
  cons : at < length xs → drop at xs ≡ get_or xs at 0 ∷ drop (at + 1) xs
  cons h = let e : suc at ≡ at + 1 = omega arith in drop-cons xs at 0 h ∙ ap (λ (i : ℕ). get_or xs at 0 ∷ drop i xs) e

  -- a byte is taken: it is 1, or it is not
  taken : (b : Bool) → Plain xs (k + 1) (poll_of xs (at + 1) n (k + 1)) (polled_of n (drop (at + 1) xs))
      → Plain xs k (cond b (record { ready = true; polls = k + 1; at = at + 1 }) (poll_of xs (at + 1) n (k + 1)))
      (cond b (record { ready = true; polls = 1; rest = drop (at + 1) xs }) (again (polled_of n (drop (at + 1) xs))))
  taken true s = record { ready = refl; polls = refl; rest = refl }
  taken false s = once_more s

  turn : (b : Bool) → ltb at (length xs) ≡ b
      → Plain xs (k + 1) (poll_of xs (at + 1) n (k + 1)) (polled_of n (drop (at + 1) xs))
      → Plain xs (k + 1) (poll_of xs at n (k + 1)) (polled_of n (drop at xs))
      → Plain xs k
      (cond b (cond (eqb (get_or xs at 0) 1) (record { ready = true; polls = k + 1; at = at + 1 }) (poll_of xs (at + 1) n (k + 1))) (poll_of xs at n (k + 1)))
      (polled_of (suc n) (drop at xs))
  turn true e s t = rw (cons (ltb-true at (length xs) e)) (taken (eqb (get_or xs at 0) 1) s)
  turn false e s t =
      let z : drop at xs ≡ [] = drop_of_length-le xs (ltb-false at (length xs) e) in
      let u : Plain xs (k + 1) (poll_of xs at n (k + 1)) (polled_of n []) = rw z at t in
      rw z (once_more u)

pub plain : (xs : List ℕ) (at n k : ℕ) → Plain xs k (poll_of xs at n k) (polled_of n (drop at xs))
unfolding poll_of
plain xs at zero k = record { ready = refl; polls = omega arith; rest = refl }
plain xs at (suc n) k = turn xs at n k (ltb at (length xs)) refl (plain xs (at + 1) n (k + 1)) (plain xs at n (k + 1))

-- ---- no more polls than are allowed
pub polled_few : (n : ℕ) (xs : List ℕ) → (polled_of n xs).polls ≤ n
polled_few zero xs = omega arith
polled_few (suc n) [] = let h = polled_few n [] in omega arith
polled_few (suc n) (x ∷ xs) = by (eqb x 1) (polled_few n xs)
  where
    by : (b : Bool) → (polled_of n xs).polls ≤ n → (cond b (record { ready = true; polls = 1; rest = xs }) (again (polled_of n xs))).polls ≤ suc n
    by true h = omega arith
    by false h = omega arith

pub few : (xs : List ℕ) (at n k : ℕ) → (poll_of xs at n k).polls ≤ k + n
few xs at n k = let h = polled_few n (drop at xs) in omega (arith, (plain xs at n k).polls)
