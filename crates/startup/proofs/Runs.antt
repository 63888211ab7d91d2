-- A run goes on by one store more, one wait more, a list more; its polls add up, and what had room at its beginning has room after it.
use Prim.Native.Nat.{ℕ, zero, suc, ◌+◌, ◌≤◌}
use native.Mathlib.Omega.{arith}
use mathlib.Core.Path.{◌≡◌, refl, ◌∙◌, ap, sym}
use mathlib.Core.Bool.{Bool, true, false, cond, false≢true}
use lib.Dec.{eqb}
use Rattle.std.specs.Prelude.{Some, is_none}
use mathlib.Core.List.{List, [], ◌∷◌, ◌++◌}
use Rattle.kinds.specs.declared.CFGR.{CFGR}
use Rattle.clocks.specs.declared.InternalRCCConfig.{InternalRCCConfig}
use Rattle.order.specs.declared.wait.Awaited.{Awaited}
use Rattle.order.specs.Files.{Wrote}
use Rattle.order.specs.Order.{Op, put, wait, ops_of}
use Rattle.order.proofs.Few.{waits_both, waits_few}
use Rattle.startup.specs.Machine.{going, live, runs, store_of, put_of, wait_of, begin_of, Room, Stored, Put, Polls, Waited, Ran}
use Rattle.startup.specs.Run.{Begun, Same, Goes}
use Rattle.startup.specs.declared.machine.Machine.{Machine}
use Rattle.startup.specs.declared.machine.Run.{Run}
use Rattle.startup.proofs.Polls.{few}

pub both : (xs : List ℕ) (lim : ℕ) (m : Machine) (os ps : List Op) → runs xs lim m (os ++ ps) ≡ runs xs lim (runs xs lim m os) ps
both xs lim m [] ps = refl
both xs lim m (put ws ∷ os) ps = both xs lim (put_of m ws) os ps
both xs lim m (wait k ∷ os) ps = both xs lim (wait_of xs lim m k) os ps

-- a machine that goes on has a store left
pub some_left : (m : Machine) → going m ≡ true → 1 ≤ m.left
unfolding going
some_left m e = from m.left e
  where
    from : (n : ℕ) → cond (eqb n 0) false (is_none m.stop) ≡ true → 1 ≤ n
    from zero h = absurd (false≢true h)
    from (suc n) h = omega arith

-- a store whose file was written place by place
pub puts : {m : Machine} {ws : List (ℕ × ℕ)} {f : List ℕ} {r : Machine} → Wrote m.file ws f → Stored m f r → Put m ws r
unfolding put_of
puts {m} w s = record { is = s.is ∙ ap (store_of m) w.is; polls = s.polls }

-- a wait: its polls and whether one was ready, or nothing where the start has ended
made : {xs : List ℕ} {lim : ℕ} {m n : Machine} {b : Bool} → lim ≤ 65535 → Polls xs lim m b n → n.polls ≤ m.polls + 65535
made {xs} {lim} {m} l p = let f = few xs m.at lim 0 in let e = ap (λ (t : Machine). t.polls) p.is in omega arith

pub answered : {xs : List ℕ} {lim : ℕ} {m n : Machine} {k : Awaited} → going m ≡ true → lim ≤ 65535 → Polls xs lim m true n → Waited xs lim m k n
unfolding wait_of live
answered g l p = record { is = p.is ∙ simp (g, sym p.told); polls = made l p }

pub unanswered : {xs : List ℕ} {lim : ℕ} {m n : Machine} {k : Awaited} → going m ≡ true → lim ≤ 65535 → Polls xs lim m false n
    → Waited xs lim m k (record { file = n.file; left = n.left; polls = n.polls; at = n.at; stop = Some k })
unfolding wait_of live
unanswered {k = k} g l p =
    record {
      is = ap (λ (t : Machine). record { file = t.file; left = t.left; polls = t.polls; at = t.at; stop = Some k }) p.is ∙ simp (g, sym p.told);
      polls = made l p;
    }

pub no_wait : {xs : List ℕ} {lim : ℕ} {m : Machine} {k : Awaited} → going m ≡ false → Waited xs lim m k m
unfolding wait_of live
no_wait g = record { is = simp g; polls = omega arith }

pub none : {xs : List ℕ} {lim : ℕ} {m : Machine} → Ran xs lim m [] m
none = record { is = refl; polls = omega arith }

pub more : {xs : List ℕ} {lim : ℕ} {m : Machine} {os ps : List Op} {a b : Machine} → Ran xs lim m os a → Ran xs lim a ps b → Ran xs lim m (os ++ ps) b
more {xs} {lim} {m} {os} {ps} r s =
    let w = waits_both os ps in
    record {
      is = s.is ∙ ap (λ (t : Machine). runs xs lim t ps) r.is ∙ sym (both xs lim m os ps);
      polls = omega (arith, r.polls, s.polls, w);
    }

pub stored : {xs : List ℕ} {lim : ℕ} {m : Machine} {os : List Op} {a b : Machine} {ws : List (ℕ × ℕ)} → Ran xs lim m os a → Put a ws b → Ran xs lim m (os ++ put ws ∷ []) b
stored r e = more r (record { is = e.is; polls = omega (arith, e.polls) })

pub polled : {xs : List ℕ} {lim : ℕ} {m : Machine} {os : List Op} {a b : Machine} {k : Awaited} → Ran xs lim m os a → Waited xs lim a k b → Ran xs lim m (os ++ wait k ∷ []) b
polled r e = more r (record { is = e.is; polls = omega (arith, e.polls) })

pub begins : {xs : List ℕ} {lim : ℕ} {m n : Machine} {os : List Op} {b : Machine} → m ≡ n → Ran xs lim m os b → Ran xs lim n os b
begins {xs} {lim} {m} {n} {os} e r =
    record { is = r.is ∙ ap (λ (t : Machine). runs xs lim t os) e; polls = let p = ap (λ (t : Machine). t.polls) e in omega (arith, r.polls, p) }

-- ---- a start, whose answers and limit stay as they are
pub goes_none : {a : Run} → Goes a [] a
goes_none = record { ran = none; same = record { answers = refl; limit = refl } }

pub goes_more : {a b c : Run} {os ps : List Op} → Goes a os b → Goes b ps c → Goes a (os ++ ps) c
goes_more {a} {b} {c} {os} {ps} g h =
    record {
      ran = more g.ran (record {
        is =
            h.ran.is
            ∙ ap (λ (xs : List ℕ). runs xs b.limit b.machine ps) g.same.answers
            ∙ ap (λ (lim : ℕ). runs a.answers.now lim b.machine ps) g.same.limit;
        polls = h.ran.polls;
      });
      same = record { answers = h.same.answers ∙ g.same.answers; limit = h.same.limit ∙ g.same.limit };
    }

pub goes_put : {a b c : Run} {os : List Op} {ws : List (ℕ × ℕ)} → Goes a os b → Put b.machine ws c.machine → Same b c → Goes a (os ++ put ws ∷ []) c
goes_put g e s = goes_more g (record { ran = stored none e; same = s })

pub goes_wait : {a b c : Run} {os : List Op} {k : Awaited} → Goes a os b → Waited b.answers.now b.limit b.machine k c.machine → Same b c → Goes a (os ++ wait k ∷ []) c
goes_wait g e s = goes_more g (record { ran = polled none e; same = s })

-- from its beginning on
pub begun_ran : {f : List ℕ} {cut : ℕ} {xs : List ℕ} {lim : ℕ} {a b : Run} {os : List Op} → Begun f cut xs lim a → Goes a os b → Ran xs lim (begin_of f cut) os b.machine
begun_ran {xs = xs} {a = a} {os = os} s g =
    begins s.machine (record {
      is =
          g.ran.is
          ∙ ap (λ (ys : List ℕ). runs ys a.limit a.machine os) s.answers
          ∙ ap (λ (l : ℕ). runs xs l a.machine os) s.limit;
      polls = g.ran.polls;
    })

-- ---- room
-- at the beginning, for every wait of a plan's list
pub room : {f : List ℕ} {cut : ℕ} {m : Machine} (d : CFGR) (y : InternalRCCConfig) → m ≡ begin_of f cut → Room (ops_of d y) m
room d y e =
    let p = ap (λ (t : Machine). t.polls) e in
    let w = waits_few d y in
    record { polls = omega (arith, p, w) }

-- for what is left after a part
pub room_after : {a b : Run} {os ps : List Op} → Goes a os b → Room (os ++ ps) a.machine → Room ps b.machine
room_after {os = os} {ps = ps} g r = let w = waits_both os ps in record { polls = omega (arith, g.ran.polls, r.polls, w) }
