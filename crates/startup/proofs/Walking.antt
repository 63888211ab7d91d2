-- The code's machine comes to what the plain walk over the list comes to: by the list, store by store and wait by wait.
use Prim.Native.Nat.{ℕ, zero, suc, ◌+◌, ◌-◌}
use native.Mathlib.Omega.{arith}
use mathlib.Core.Path.{◌≡◌, refl, ◌∙◌, ap}
use mathlib.Core.List.{List, [], ◌∷◌}
use mathlib.Core.Bool.{Bool, true, false, cond}
use lib.Dec.{eqb}
use lib.ListN.{drop}
use borrow.Author.Tests.{eq-eqb, ne_eqb}
use Rattle.clocks.specs.declared.Clocks.{Clocks}
use Rattle.clocks.specs.declared.InternalRCCConfig.{InternalRCCConfig}
use Rattle.std.specs.Prelude.{Some, None, is_none}
use Rattle.order.specs.declared.wait.Awaited.{Awaited}
use Rattle.order.specs.Files.{writes}
use Rattle.order.specs.Order.{Op, put, wait}
use Rattle.startup.specs.Start.{Polled, polled_of, Ending, at_end, at_cut, at_wait, Walked, after, stopped, walk, outcome_of, started_of}
use Rattle.startup.specs.Machine.{Poll, going, live, store_of, put_of, poll_of, waited_of, wait_of, runs, begin_of, outcome_by, ended_of}
use Rattle.startup.specs.declared.Outcome.TheVariants.{Unanswered}
use Rattle.startup.specs.declared.Started.{Started}
use Rattle.startup.specs.declared.machine.Machine.{Machine}
use Rattle.startup.proofs.Polls.{Plain, plain}

-- ---- a machine that has ended
put_ended : (m : Machine) (ws : List (ℕ × ℕ)) → going m ≡ false → put_of m ws ≡ m
unfolding put_of store_of live
put_ended m ws e = simp e

wait_ended : (xs : List ℕ) (lim : ℕ) (m : Machine) (k : Awaited) → going m ≡ false → wait_of xs lim m k ≡ m
unfolding wait_of live
wait_ended xs lim m k e = simp e

run_ended : (xs : List ℕ) (lim : ℕ) (m : Machine) (os : List Op) → going m ≡ false → runs xs lim m os ≡ m
run_ended xs lim m [] e = refl
run_ended xs lim m (put ws ∷ os) e = ap (λ (t : Machine). runs xs lim t os) (put_ended m ws e) ∙ run_ended xs lim m os e
run_ended xs lim m (wait k ∷ os) e = ap (λ (t : Machine). runs xs lim t os) (wait_ended xs lim m k e) ∙ run_ended xs lim m os e

cut_ended : (m : Machine) → m.left ≡ 0 → going m ≡ false
unfolding going
cut_ended m e = simp (eq-eqb m.left 0 e)

unanswered_ended : (m : Machine) (k : Awaited) → m.stop ≡ Some k → going m ≡ false
unfolding going
unanswered_ended m k e = by (eqb m.left 0)
  where
    by : (b : Bool) → cond b false (is_none m.stop) ≡ false
    by true = refl
    by false = ap is_none e

-- ---- a machine that goes on
goes : (m : Machine) (n : ℕ) → m.left ≡ suc n → m.stop ≡ None → going m ≡ true
unfolding going
goes m n e s = simp (ne_eqb m.left 0 (λ (z : m.left ≡ 0). omega arith), s)

put_goes : (m : Machine) (ws : List (ℕ × ℕ)) (n : ℕ) → m.left ≡ suc n → m.stop ≡ None
    → put_of m ws ≡ record { file = writes m.file ws; left = n; polls = m.polls; at = m.at; stop = m.stop }
unfolding put_of store_of live
put_goes m ws n e s =
    let l : m.left - 1 ≡ n = omega arith in
    simp (goes m n e s) (rw l)

wait_goes : (xs : List ℕ) (lim : ℕ) (m : Machine) (k : Awaited) (n : ℕ) → m.left ≡ suc n → m.stop ≡ None → wait_of xs lim m k ≡ waited_of m k (poll_of xs m.at lim 0)
unfolding wait_of live
wait_goes xs lim m k n e s = simp (goes m n e s)

-- ---- what each comes to
-- after no poll more
none_more : (x : Clocks) (y : InternalRCCConfig) (e : Ending) (f : List ℕ) (k : ℕ) → record { outcome = outcome_of x y e; polls = k; file = f } ≡ started_of x y (after k (record { ending = e; file = f; polls = 0 }))
none_more x y e f k = let z : k ≡ k + 0 = omega arith in ap (λ (j : ℕ). record { outcome = outcome_of x y e; polls = j; file = f }) z

ended_cut : (x : Clocks) (y : InternalRCCConfig) (m : Machine) → m.left ≡ 0 → m.stop ≡ None → ended_of x y m ≡ started_of x y (after m.polls (stopped m.file))
unfolding outcome_by
ended_cut x y m e s = simp (s, eq-eqb m.left 0 e) (none_more x y at_cut m.file m.polls)

ended_whole : (x : Clocks) (y : InternalRCCConfig) (m : Machine) (n : ℕ) → m.left ≡ suc n → m.stop ≡ None → ended_of x y m ≡ started_of x y (after m.polls (record { ending = at_end; file = m.file; polls = 0 }))
unfolding outcome_by
ended_whole x y m n e s =
    simp (s, ne_eqb m.left 0 (λ (z : m.left ≡ 0). omega arith)) (none_more x y at_end m.file m.polls)

ended_wait : (x : Clocks) (y : InternalRCCConfig) (m : Machine) (k : Awaited) → m.stop ≡ Some k → ended_of x y m ≡ record { outcome = Unanswered k; polls = m.polls; file = m.file }
unfolding outcome_by
ended_wait x y m k e = simp e

-- polls before, then those of a walk
both_polls : (x : Clocks) (y : InternalRCCConfig) (j k l : ℕ) (w : Walked) → j ≡ k + l → started_of x y (after j w) ≡ started_of x y (after k (after l w))
both_polls x y j k l w e = let z : j + w.polls ≡ k + (l + w.polls) = omega arith in ap (λ (i : ℕ). record { outcome = outcome_of x y w.ending; polls = i; file = w.file }) z

-- what the walk of the list os comes to, from where the machine m stands
abbrev left : List ℕ → ℕ → Clocks → InternalRCCConfig → List Op → Machine → Started
left xs lim x y os m = started_of x y (after m.polls (walk lim os m.left (drop m.at xs) m.file))

module _ (xs : List ℕ) (lim : ℕ) (x : Clocks) (y : InternalRCCConfig) where
  -- a wait: answered, the list goes on; else it ends there
  step_wait : (k : Awaited) (n : ℕ) (os : List Op) (m : Machine) (p : Poll) (q : Polled) → Plain xs 0 p q → m.left ≡ suc n → m.stop ≡ None
      → ((t : Machine) → t.stop ≡ None → ended_of x y (runs xs lim t os) ≡ left xs lim x y os t)
      → (b : Bool) → q.ready ≡ b
      → ended_of x y (runs xs lim (waited_of m k p) os)
      ≡ started_of x y (after m.polls (cond b (after q.polls (walk lim os (suc n) q.rest m.file)) (record { ending = at_wait k; file = m.file; polls = q.polls })))
  step_wait k n os m p q l e s ih true r =
      let g : p.ready ≡ true = l.ready ∙ r in
      let h : cond p.ready m.stop (Some k) ≡ None = rw g s in
      ih (waited_of m k p) h
      ∙ ap (λ (j : ℕ). started_of x y (after (m.polls + p.polls) (walk lim os j (drop p.at xs) m.file))) e
      ∙ ap (λ (ys : List ℕ). started_of x y (after (m.polls + p.polls) (walk lim os (suc n) ys m.file))) l.rest
      ∙ both_polls x y (m.polls + p.polls) m.polls q.polls (walk lim os (suc n) q.rest m.file) (omega (arith, l.polls))
  step_wait k n os m p q l e s ih false r =
      let g : p.ready ≡ false = l.ready ∙ r in
      let h : cond p.ready m.stop (Some k) ≡ Some k = rw g refl in
      let j : m.polls + p.polls ≡ m.polls + q.polls = omega (arith, l.polls) in
      ap (ended_of x y) (run_ended xs lim (waited_of m k p) os (unanswered_ended (waited_of m k p) k h))
      ∙ ended_wait x y (waited_of m k p) k h
      ∙ ap (λ (i : ℕ). record { outcome = Unanswered k; polls = i; file = m.file }) j

  by_left : (os : List Op) (m : Machine) (n : ℕ) → m.left ≡ n → m.stop ≡ None → ended_of x y (runs xs lim m os) ≡ started_of x y (after m.polls (walk lim os n (drop m.at xs) m.file))
  by_left [] m zero e s = ended_cut x y m e s
  by_left [] m (suc n) e s = ended_whole x y m n e s
  by_left (put ws ∷ os) m zero e s = ap (ended_of x y) (run_ended xs lim m (put ws ∷ os) (cut_ended m e)) ∙ ended_cut x y m e s
  by_left (put ws ∷ os) m (suc n) e s =
      ap (λ (t : Machine). ended_of x y (runs xs lim t os)) (put_goes m ws n e s)
      ∙ by_left os (record { file = writes m.file ws; left = n; polls = m.polls; at = m.at; stop = m.stop }) n refl s
  by_left (wait k ∷ os) m zero e s = ap (ended_of x y) (run_ended xs lim m (wait k ∷ os) (cut_ended m e)) ∙ ended_cut x y m e s
  by_left (wait k ∷ os) m (suc n) e s =
      ap (λ (t : Machine). ended_of x y (runs xs lim t os)) (wait_goes xs lim m k n e s)
      ∙ step_wait k n os m (poll_of xs m.at lim 0) (polled_of lim (drop m.at xs)) (plain xs m.at lim 0) e s
      (λ t h. by_left os t t.left refl h) (polled_of lim (drop m.at xs)).ready refl

-- from the beginning on
pub walks : (xs : List ℕ) (lim : ℕ) (x : Clocks) (y : InternalRCCConfig) (os : List Op) (f : List ℕ) (cut : ℕ)
    → ended_of x y (runs xs lim (begin_of f cut) os) ≡ started_of x y (walk lim os cut xs f)
walks xs lim x y os f cut = by_left xs lim x y os (begin_of f cut) cut refl refl ∙ from (walk lim os cut xs f)
  where
    from : (w : Walked) → started_of x y (after 0 w) ≡ started_of x y w
    from w = let z : 0 + w.polls ≡ w.polls = omega arith in ap (λ (i : ℕ). record { outcome = outcome_of x y w.ending; polls = i; file = w.file }) z
