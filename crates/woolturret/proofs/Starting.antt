-- What woolturret_start answers, from what a start came to and what the record reads as.
use Prim.Native.Nat.{ℕ}
use mathlib.Core.Path.{◌≡◌, refl, ◌∙◌, ap}
use mathlib.Core.List.{List}
use lib.ListN.{length}
use borrow.Author.Tests.{eq-eqb, ne_eqb}
use Rattle.std.specs.Prelude.{Result, Ok, Err}
use Rattle.kinds.specs.Table.{Between, Outside}
use Rattle.kinds.specs.Refusals.{number_of, refusal_of, unless}
use Rattle.kinds.proofs.Check.{Told, inside, broken, outside_told}
use Rattle.kinds.proofs.Numbered.{passed_tells, refused_tells}
use Rattle.kinds.specs.declared.refusals.Refusal.{Refusal}
use Rattle.kinds.specs.declared.CFGR.{CFGR}
use Rattle.order.specs.Places.{PLACES}
use Rattle.startup.specs.Start.{limit_of, start_of}
use Rattle.startup.specs.declared.Started.{Started}
use Rattle.record.specs.declared.Fault.{Fault}
use Rattle.record.proofs.Exactly.{malformed_14}
use Rattle.woolturret.specs.Starts.{Starts, started_reply, refused_report, refused_reply, placed_reply, start_reply}
use Rattle.woolturret.specs.declared.Report.{Report}

-- ---- refused
nothing_written : {n : ℕ} {r : Report} (file clocks : List ℕ) → r ≡ refused_report n → Starts (refused_reply n file clocks) r file clocks
nothing_written file clocks e = record { answer = e; file_holds = refl; clocks_hold = refl }

-- ---- by the places of the file
module _ (c : CFGR) {file : List ℕ} (lim : ℕ) (xs : List ℕ) (cut : ℕ) (clocks : List ℕ) where
  pub placed_whole : {f : List ℕ} {s : Started} {r : Report} {l m : List ℕ} → length file ≡ PLACES → f ≡ file → s ≡ start_of c f lim xs cut → Starts (started_reply s clocks) r l m → Starts (placed_reply c file lim xs cut clocks) r l m
  unfolding placed_reply
  placed_whole h e p w = rw (eq-eqb _ _ h, ← e, ← p) w

  pub placed_else : {r : Report} → (length file ≡ PLACES → ⊥) → r ≡ refused_report 14 → Starts (placed_reply c file lim xs cut clocks) r file clocks
  unfolding placed_reply
  placed_else h p = rw (ne_eqb _ _ h) (nothing_written file clocks p)

-- the limit's number is that of what it refuses with
limit_numbered : (lim : ℕ) → (limit_of lim ≡ 0 → ⊥) → number_of (refusal_of (limit_of lim)) ≡ limit_of lim
unfolding refusal_of
limit_numbered lim = from (limit_of lim) (outside_told 1 65535 13 lim)
  where
    from : (n : ℕ) → Told (Between 1 65535 lim) (Outside 1 65535 lim) 13 n → (n ≡ 0 → ⊥) → number_of (refusal_of n) ≡ n
    from n (inside b o) h = absurd (h refl)
    from n (broken o b) h = refl

-- ---- 13, then by what the record reads as
module _ (z : Result CFGR Fault) (file : List ℕ) (lim : ℕ) (xs : List ℕ) (cut : ℕ) (clocks : List ℕ) {l : Result (Unit {0}) Refusal} (p : l ≡ unless (limit_of lim) tt) where
  pub start_13 : {k : Refusal} {r : Report} → l ≡ Err k → r ≡ refused_report (number_of k) → Starts (start_reply z file lim xs cut clocks) r file clocks
  unfolding start_reply
  start_13 h e =
      let w = refused_tells (limit_of lim) p h in
      rw (ne_eqb _ _ w.0) (nothing_written file clocks (e ∙ ap (λ k. refused_report (number_of k)) w.1 ∙ ap refused_report (limit_numbered lim w.0)))

  pub start_malformed : {u : Unit {0}} {f : Fault} {r : Report} → l ≡ Ok u → z ≡ Err f → r ≡ refused_report 14 → Starts (start_reply z file lim xs cut clocks) r file clocks
  unfolding start_reply
  start_malformed {f = f} h g e = rw (eq-eqb _ _ (passed_tells (limit_of lim) p h), g, malformed_14 f) (nothing_written file clocks e)

  pub start_read : {u : Unit {0}} {c : CFGR} {r : Report} {g m : List ℕ} → l ≡ Ok u → z ≡ Ok c → Starts (placed_reply c file lim xs cut clocks) r g m → Starts (start_reply z file lim xs cut clocks) r g m
  unfolding start_reply
  start_read h e w = rw (eq-eqb _ _ (passed_tells (limit_of lim) p h), e) w
