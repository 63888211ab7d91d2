-- What woolturret_start is refused with, 12 apart, is the first in turn of what the table gives: by the limit, the record, the places, and how a start comes about.
use Prim.Native.Nat.{ℕ}
use mathlib.Core.Path.{◌≡◌, refl, ap, subst}
use mathlib.Core.List.{List, [], ◌∷◌}
use lib.Dec.{T}
use lib.ListN.{length}
use Rattle.std.specs.Prelude.{Result, Ok, Err}
use Rattle.kinds.specs.Table.{Between}
use Rattle.kinds.specs.Turns.{turn_of, First, none, first, OneOf}
use Rattle.kinds.proofs.Turns.{wider, ahead, in_order}
use Rattle.kinds.specs.declared.CFGR.{CFGR}
use Rattle.plan.specs.Plan.{number_of as plan_number}
use Rattle.plan.specs.declared.Planned.{Planned}
use Rattle.configure.specs.declared.Unplanned.{Unplanned}
use Rattle.order.specs.Order.{ops_of}
use Rattle.order.specs.Places.{PLACES}
use Rattle.startup.specs.Start.{Ending, at_end, at_cut, at_wait, walk, outcome_of, start_of}
use Rattle.startup.specs.Start.{number_of as outcome_number}
use Rattle.startup.specs.declared.Started.{Started}
use Rattle.startup.proofs.View.{apart, StartView, bad_limit, not_planned, ran, start_view}
use Rattle.record.proofs.Exactly.{malformed_14}
use Rattle.answer.specs.Refusals.{AnswerRefused, malformed, answer_numbers}
use Rattle.answer.proofs.InTurn.{answer_first, answer_number}
use Rattle.woolturret.specs.Starts.{start_reply}
use Rattle.woolturret.specs.Refusals.{StartRefused, limit, places, answered, table_numbers}
use Rattle.woolturret.proofs.Ordered.{numbered, by_limit, by_places}
use Rattle.record.specs.declared.Fault.{Fault}

-- 13 comes before all of the table, 14 before all but 13
limit_ahead : T (ahead (13 ∷ []) table_numbers)
unfolding turn_of
limit_ahead = tt

record_ahead : T (ahead (14 ∷ []) answer_numbers)
unfolding turn_of
record_ahead = tt

module _ (file : List ℕ) (lim : ℕ) where
  table_number : (z : Result CFGR Fault) (n : ℕ) → StartRefused z file lim n → OneOf table_numbers n
  table_number z n (limit o) = tt
  table_number z n (places h) = tt
  table_number z n (answered r) = wider answer_numbers table_numbers tt n (answer_number z n r)

  -- with a good limit 13 is not given
  after_limit : Between 1 65535 lim → (z : Result CFGR Fault) (n : ℕ) → StartRefused z file lim n → OneOf answer_numbers n
  after_limit b z n (limit o) = absurd (apart b o)
  after_limit b z n (places h) = tt
  after_limit b z n (answered r) = answer_number z n r

  -- with a good limit and every place there, what is given is any answer's
  after_places : Between 1 65535 lim → length file ≡ PLACES → (z : Result CFGR Fault) (n : ℕ) → StartRefused z file lim n → AnswerRefused z n
  after_places b l z n (limit o) = absurd (apart b o)
  after_places b l z n (places h) = absurd (h l)
  after_places b l z n (answered r) = r

  -- so the answer's first is the start's
  widened : Between 1 65535 lim → length file ≡ PLACES → (z : Result CFGR Fault) (n : ℕ) → First (AnswerRefused z) n → First (StartRefused z file lim) n
  widened b l z n (none f) = none (λ k r. f k (after_places b l z k r))
  widened b l z n (first x f) = first (answered x) (λ k r. f k (after_places b l z k r))

  module _ (xs : List ℕ) (cut : ℕ) where
    -- a start that is made, by how it comes about
    of_start : (c : CFGR) → Between 1 65535 lim → length file ≡ PLACES → (r : Started) → StartView c file lim xs cut r
        → (outcome_number r.outcome ≡ 12 → ⊥) → First (StartRefused (Ok c) file lim) (outcome_number r.outcome)
    of_start c b l r (bad_limit o) w = absurd (apart b o)
    of_start c b l r (not_planned h p) w =
        subst (λ (k : ℕ). First (StartRefused (Ok c) file lim) k) (ap (λ (q : Result Planned Unplanned). plan_number q) p) (widened b l (Ok c) _ (answer_first (Ok c)))
    of_start c b l r (ran {d = d} {x = x} {y = y} h p) w = ended (walk lim (ops_of d y) cut xs file).ending w
      where
        accepted : First (StartRefused (Ok c) file lim) 0
        accepted = subst (λ (k : ℕ). First (StartRefused (Ok c) file lim) k) (ap (λ (q : Result Planned Unplanned). plan_number q) p) (widened b l (Ok c) _ (answer_first (Ok c)))

        ended : (e : Ending) → (outcome_number (outcome_of x y e) ≡ 12 → ⊥) → First (StartRefused (Ok c) file lim) (outcome_number (outcome_of x y e))
        ended at_end v = accepted
        ended at_cut v = accepted
        ended (at_wait k) v = absurd (v refl)

    module _ (clocks : List ℕ) where
      -- after the limit
      of_reading : Between 1 65535 lim → (y : Result CFGR Fault) → (numbered file lim xs cut clocks y ≡ 12 → ⊥) → First (StartRefused y file lim) (numbered file lim xs cut clocks y)
      of_reading b (Err fault) = λ w.
          rw (malformed_14 fault) (first (answered (malformed refl)) (λ k r. in_order (14 ∷ []) answer_numbers record_ahead 14 k tt (after_limit b (Err fault) k r)))
      of_reading b (Ok c) = by_places file lim xs cut clocks c (λ (n : ℕ). (n ≡ 12 → ⊥) → First (StartRefused (Ok c) file lim) n)
          (λ l w. of_start c b l (start_of c file lim xs cut) (start_view c file lim xs cut) w)
          (λ h w. first (places h) (λ k r. in_order (14 ∷ []) answer_numbers record_ahead 14 k tt (after_limit b (Ok c) k r)))

      -- whatever the record, the file and the limit: unless a wait is not answered, the refusal is the first in turn of those given
      pub start_first : (z : Result CFGR Fault) → ((start_reply z file lim xs cut clocks).report.refusal ≡ 12 → ⊥) → First (StartRefused z file lim) (start_reply z file lim xs cut clocks).report.refusal
      start_first z = by_limit file lim xs cut clocks z (λ (n : ℕ). (n ≡ 12 → ⊥) → First (StartRefused z file lim) n)
          (λ b. of_reading b z)
          (λ o w. first (limit o) (λ k r. in_order (13 ∷ []) table_numbers limit_ahead 13 k tt (table_number z k r)))
