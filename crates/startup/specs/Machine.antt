-- The machine that the code runs a start on: what each step makes of it, and what each part of the code promises of it.
-- What a start answers is said without it in Start; the two are shown to be the same.
use Rattle.std.specs.Prelude.{ℕ, zero, suc, ◌+◌, ◌-◌, ◌*◌, ◌≤◌, ◌≡◌, Bool, true, false, cond, List, [], ◌∷◌, Option, Some, None, is_none, ltb, eqb, length, get_or}
use Rattle.clocks.specs.declared.Clocks.{Clocks}
use Rattle.clocks.specs.declared.InternalRCCConfig.{InternalRCCConfig}
use Rattle.order.specs.Files.{writes}
use Rattle.order.specs.declared.wait.Awaited.{Awaited}
use Rattle.order.specs.Order.{Op, put, wait, waits}
use Rattle.startup.specs.Start.{done_with, cut_with}
use Rattle.startup.specs.declared.machine.Machine.{Machine}
use Rattle.startup.specs.declared.Outcome.{Outcome}
use Rattle.startup.specs.declared.Outcome.TheVariants.{Unanswered}
use Rattle.startup.specs.declared.Started.{Started}

abbrev pub begin_of : List ℕ → ℕ → Machine
begin_of f cut = record { file = f; left = cut; polls = 0; at = 0; stop = None }

-- whether the start goes on
unfoldable pub going : Machine → Bool
going m = cond (eqb m.left 0) false (is_none m.stop)

-- nothing changes once it has ended
unfoldable pub live : Machine → Machine → Machine
live m n = cond (going m) n m

unfoldable pub store_of : Machine → List ℕ → Machine
store_of m f = live m (record { file = f; left = m.left - 1; polls = m.polls; at = m.at; stop = m.stop })

unfoldable pub put_of : Machine → List (ℕ × ℕ) → Machine
put_of m ws = store_of m (writes m.file ws)

-- whether a wait was answered, its polls, and where in the answers the next poll is
pub record Poll : Type 0 where
  pub ready : Bool
  pub polls : ℕ
  pub at : ℕ

-- polls from a place of the answers on: the polls left, and those made so far
unfoldable pub poll_of : List ℕ → ℕ → ℕ → ℕ → Poll
poll_of xs at zero k = record { ready = false; polls = k; at = at }
poll_of xs at (suc n) k =
    cond (ltb at (length xs))
    (cond (eqb (get_or xs at 0) 1) (record { ready = true; polls = k + 1; at = at + 1 }) (poll_of xs (at + 1) n (k + 1)))
    (poll_of xs at n (k + 1))

abbrev pub waited_of : Machine → Awaited → Poll → Machine
waited_of m k p = record { file = m.file; left = m.left; polls = m.polls + p.polls; at = p.at; stop = cond p.ready m.stop (Some k) }

unfoldable pub wait_of : List ℕ → ℕ → Machine → Awaited → Machine
wait_of xs lim m k = live m (waited_of m k (poll_of xs m.at lim 0))

abbrev pub runs : List ℕ → ℕ → Machine → List Op → Machine
runs xs lim m [] = m
runs xs lim m (put ws ∷ os) = runs xs lim (put_of m ws) os
runs xs lim m (wait k ∷ os) = runs xs lim (wait_of xs lim m k) os

-- what it comes to at its end: a wait that was not answered, the cut, or the whole list
unfoldable pub outcome_by : Option Awaited → ℕ → Clocks → InternalRCCConfig → Outcome
outcome_by None left x y = cond (eqb left 0) (cut_with x y) (done_with x y)
outcome_by (Some k) left x y = Unanswered k

abbrev pub ended_of : Clocks → InternalRCCConfig → Machine → Started
ended_of x y m = record { outcome = outcome_by m.stop m.left x y; polls = m.polls; file = m.file }

-- the polls made so far fit a u32 with those of every wait of the list os to come
pub record Room (os : List Op) (m : Machine) : Type 0 where
  pub polls : m.polls + waits os * 65535 ≤ 4294967295

-- r is m after the store that makes its file f
pub record Stored (m : Machine) (f : List ℕ) (r : Machine) : Type 0 where
  pub is : r ≡ store_of m f
  pub polls : r.polls ≡ m.polls

-- r is m after one store of the places ws
pub record Put (m : Machine) (ws : List (ℕ × ℕ)) (r : Machine) : Type 0 where
  pub is : r ≡ put_of m ws
  pub polls : r.polls ≡ m.polls

-- r is m after a wait's polls, which told whether one was ready
pub record Polls (xs : List ℕ) (lim : ℕ) (m : Machine) (ready : Bool) (r : Machine) : Type 0 where
  pub told : ready ≡ (poll_of xs m.at lim 0).ready
  pub is : r ≡ record { file = m.file; left = m.left; polls = m.polls + (poll_of xs m.at lim 0).polls; at = (poll_of xs m.at lim 0).at; stop = m.stop }

-- r is m after the wait k
pub record Waited (xs : List ℕ) (lim : ℕ) (m : Machine) (k : Awaited) (r : Machine) : Type 0 where
  pub is : r ≡ wait_of xs lim m k
  pub polls : r.polls ≤ m.polls + 65535

-- r is what the list os makes of m
pub record Ran (xs : List ℕ) (lim : ℕ) (m : Machine) (os : List Op) (r : Machine) : Type 0 where
  pub is : r ≡ runs xs lim m os
  pub polls : r.polls ≤ m.polls + waits os * 65535
