-- A start refused by any number but 12 leaves the lent file and clocks as they came, and tells no cut, no wait and no poll: by how it may end.
use Prim.Native.Nat.{ℕ}
use mathlib.Core.Path.{◌≡◌, refl}
use mathlib.Core.Bool.{Bool, true, false, cond}
use mathlib.Core.List.{List}
use lib.Dec.{eqb}
use lib.ListN.{length}
use Rattle.std.specs.Prelude.{Result, Ok, Err}
use Rattle.kinds.specs.declared.CFGR.{CFGR}
use Rattle.clocks.specs.declared.Clocks.{Clocks}
use Rattle.clocks.specs.declared.InternalRCCConfig.{InternalRCCConfig}
use Rattle.order.specs.Places.{PLACES}
use Rattle.order.specs.Order.{ops_of}
use Rattle.startup.specs.Start.{Ending, at_end, at_cut, at_wait, Walked, walk, outcome_of, started_of, limit_of, start_of}
use Rattle.startup.specs.declared.Started.{Started}
use Rattle.startup.proofs.View.{StartView, bad_limit, not_planned, ran, start_view}
use Rattle.woolturret.specs.Starts.{StartReply, started_reply, refused_reply, placed_reply, read_reply, start_reply}
use Rattle.record.specs.declared.Fault.{Fault}

abbrev pub Untouched : List ℕ → List ℕ → StartReply → Type 0
Untouched file clocks y = (y.report.refusal ≡ 0 → ⊥) → (y.report.refusal ≡ 12 → ⊥) → y ≡ refused_reply y.report.refusal file clocks

module _ (file : List ℕ) (lim : ℕ) (xs : List ℕ) (cut : ℕ) (clocks : List ℕ) where
  -- a walk ends whole, at the cut or with 12
  of_walk : (x : Clocks) (y : InternalRCCConfig) (w : Walked) → Untouched file clocks (started_reply (started_of x y w) clocks)
  of_walk x y w = by w.ending
    where
      by : (e : Ending) → Untouched file clocks (started_reply (record { outcome = outcome_of x y e; polls = w.polls; file = w.file }) clocks)
      by at_end a b = absurd (a refl)
      by at_cut a b = absurd (a refl)
      by (at_wait k) a b = absurd (b refl)

  of_view : (c : CFGR) (r : Started) → StartView c file lim xs cut r → Untouched file clocks (started_reply r clocks)
  of_view c r (bad_limit o) a b = refl
  of_view c r (not_planned h e) a b = refl
  of_view c r (ran {d = d} {x = x} {y = y} h e) a b = of_walk x y (walk lim (ops_of d y) cut xs file) a b

  of_places : (c : CFGR) (t : Bool) → Untouched file clocks (cond t (started_reply (start_of c file lim xs cut) clocks) (refused_reply 14 file clocks))
  of_places c true a b = of_view c (start_of c file lim xs cut) (start_view c file lim xs cut) a b
  of_places c false a b = refl

  of_reading : (z : Result CFGR Fault) → Untouched file clocks (read_reply z file lim xs cut clocks)
  unfolding placed_reply
  of_reading (Err fault) a b = refl
  of_reading (Ok c) a b = of_places c (eqb (length file) PLACES) a b

  of_limit : (z : Result CFGR Fault) (t : Bool) → Untouched file clocks (cond t (read_reply z file lim xs cut clocks) (refused_reply (limit_of lim) file clocks))
  of_limit z true a b = of_reading z a b
  of_limit z false a b = refl

  pub lent_untouched : (z : Result CFGR Fault) → Untouched file clocks (start_reply z file lim xs cut clocks)
  unfolding start_reply
  lent_untouched z = of_limit z (eqb (limit_of lim) 0)
