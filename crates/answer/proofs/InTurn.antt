-- The number of an answer is the first in turn of those that the table gives: 14 is alone where the bytes are malformed, else it is the plan's.
use Prim.Native.Nat.{ℕ}
use mathlib.Core.Path.{◌≡◌, refl, subst}
use native.Mathlib.Omega.{arith}
use Rattle.std.specs.Prelude.{Result, Ok, Err}
use Rattle.kinds.specs.Turns.{First, none, first, OneOf}
use Rattle.kinds.proofs.Turns.{wider}
use Rattle.kinds.specs.declared.CFGR.{CFGR}
use Rattle.plan.specs.Refusals.{PlanRefused, plan_numbers}
use Rattle.plan.proofs.Theorems.{plan_first, plan_number_lem}
use Rattle.record.specs.declared.Fault.{Fault}
use Rattle.record.proofs.Exactly.{malformed_14}
use Rattle.answer.specs.Answer.{refusal_of}
use Rattle.answer.specs.Refusals.{AnswerRefused, malformed, planned, answer_numbers}

-- the table gives no number but those of its list
pub answer_number : (z : Result CFGR Fault) (n : ℕ) → AnswerRefused z n → OneOf answer_numbers n
answer_number z n (malformed e) = tt
answer_number z n (planned {c = c} e r) = wider plan_numbers answer_numbers tt n (plan_number_lem c n r)

apart : {c : CFGR} {fault : Fault} {z : Result CFGR Fault} → z ≡ Ok c → z ≡ Err fault → ⊥
apart a b = let z : ◌≡◌ {A = ℕ} 0 1 = cc in omega arith

-- of a configuration it gives what the plan's gives
of_plan : (c : CFGR) (n : ℕ) → AnswerRefused (Ok c) n → PlanRefused c n
of_plan c n (malformed e) = absurd (apart refl e)
of_plan c n (planned {c = d} e r) = let g : d ≡ c = cc in subst (λ (z : CFGR). PlanRefused z n) g r

-- of a malformed record it gives 14 alone
of_fault : (fault : Fault) (n : ℕ) → AnswerRefused (Err fault) n → n ≡ 14
of_fault fault n (malformed e) = refl
of_fault fault n (planned e r) = absurd (apart e refl)

pub answer_first : (z : Result CFGR Fault) → First (AnswerRefused z) (refusal_of z)
answer_first (Err fault) = rw (malformed_14 fault) (first (malformed refl) (λ n r. rw (of_fault fault n r) (omega arith)))
answer_first (Ok c) = from _ (plan_first c)
  where
    from : (n : ℕ) → First (PlanRefused c) n → First (AnswerRefused (Ok c)) n
    from n (none f) = none (λ k r. f k (of_plan c k r))
    from n (first x f) = first (planned refl x) (λ k r. f k (of_plan c k r))
