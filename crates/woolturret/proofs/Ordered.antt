-- woolturret_start gives 13 first, then 14: each exactly if it holds and none before it does.
use Prim.Native.Nat.{ℕ}
use mathlib.Core.Path.{◌≡◌, refl}
use mathlib.Core.Logic.{◌⊎◌, inl, inr, ◌↔◌}
use mathlib.Core.Bool.{Bool, true, false, cond}
use mathlib.Core.List.{List, ◌∷◌}
use native.Mathlib.Omega.{arith}
use lib.Dec.{eqb}
use lib.ListN.{length}
use borrow.Author.Tests.{eqb-true, eqb-false}
use Rattle.std.specs.Prelude.{Result, Ok, Err}
use Rattle.kinds.specs.Table.{Between, Outside}
use Rattle.kinds.specs.declared.CFGR.{CFGR}
use Rattle.kinds.proofs.Turns.{none_is}
use Rattle.kinds.proofs.Check.{Told, inside, broken, outside_told}
use Rattle.order.specs.Places.{PLACES}
use Rattle.startup.specs.Start.{limit_of, start_of, start_numbers}
use Rattle.startup.specs.Start.{number_of as outcome_number}
use Rattle.startup.proofs.View.{apart}
use Rattle.startup.proofs.Refusals.{thirteen_exactly, start_gives_only}
use Rattle.record.specs.declared.Fault.{Fault}
use Rattle.record.proofs.Exactly.{malformed_14}
use Rattle.woolturret.specs.Starts.{started_reply, refused_reply, placed_reply, read_reply, start_reply}

module _ (file : List ℕ) (lim : ℕ) (xs : List ℕ) (cut : ℕ) (clocks : List ℕ) where
  -- the number after the limit's
  abbrev pub numbered : Result CFGR Fault → ℕ
  numbered z = (read_reply z file lim xs cut clocks).report.refusal

  -- what is 14 after it
  abbrev Bad : Result CFGR Fault → Type 0
  Bad z = ((fault : Fault) × (z ≡ Err fault)) ⊎ (length file ≡ PLACES → ⊥)

  -- by the limit
  pub by_limit : (z : Result CFGR Fault) (P : ℕ → Type 0) → (Between 1 65535 lim → P (numbered z)) → (Outside 1 65535 lim → P 13) → P (start_reply z file lim xs cut clocks).report.refusal
  unfolding start_reply
  by_limit z P within without = from (limit_of lim) (outside_told 1 65535 13 lim)
    where
      from : (n : ℕ) → Told (Between 1 65535 lim) (Outside 1 65535 lim) 13 n → P (cond (eqb n 0) (read_reply z file lim xs cut clocks) (refused_reply n file clocks)).report.refusal
      from n (inside b o) = within b
      from n (broken o b) = without o

  -- by the record and the places of the file
  pub by_places : (c : CFGR) (P : ℕ → Type 0) → (length file ≡ PLACES → P (outcome_number (start_of c file lim xs cut).outcome)) → ((length file ≡ PLACES → ⊥) → P 14) → P (numbered (Ok c))
  unfolding placed_reply
  by_places c P whole other = from (eqb (length file) PLACES) refl
    where
      from : (b : Bool) → eqb (length file) PLACES ≡ b → P (cond b (started_reply (start_of c file lim xs cut) clocks) (refused_reply 14 file clocks)).report.refusal
      from true e = whole (eqb-true (length file) PLACES e)
      from false e = other (eqb-false (length file) PLACES e)

  -- 13 exactly if the poll limit lies outside 1..65,535, whatever the record and the file
  pub start_13_exactly : (z : Result CFGR Fault) → ((start_reply z file lim xs cut clocks).report.refusal ≡ 13) ↔ Outside 1 65535 lim
  start_13_exactly z = by_limit z (λ (n : ℕ). (n ≡ 13) ↔ Outside 1 65535 lim) (λ b. (λ e. absurd (never b z e), λ o. absurd (apart b o))) (λ o. (λ e. o, λ h. refl))
    where
      never : Between 1 65535 lim → (y : Result CFGR Fault) → numbered y ≡ 13 → ⊥
      never b (Err fault) = λ e. let h = malformed_14 fault in omega arith
      never b (Ok c) = by_places c (λ (n : ℕ). n ≡ 13 → ⊥) (λ l e. apart b ((thirteen_exactly c file lim xs cut).0 e)) (λ n e. omega arith)

  -- 14 exactly if the limit is good and the record is malformed or the file has another number of places, whatever else the start
  -- would give
  pub start_14_exactly : (z : Result CFGR Fault) → ((start_reply z file lim xs cut clocks).report.refusal ≡ 14)
      ↔ (Between 1 65535 lim × (((fault : Fault) × (z ≡ Err fault)) ⊎ (length file ≡ PLACES → ⊥)))
  start_14_exactly z = by_limit z (λ (n : ℕ). (n ≡ 14) ↔ (Between 1 65535 lim × Bad z))
      (λ b. (λ e. (b, bad z e), λ h. fourteen z h.1))
      (λ o. (λ e. absurd (omega arith), λ h. absurd (apart h.0 o)))
    where
      bad : (y : Result CFGR Fault) → numbered y ≡ 14 → Bad y
      bad (Err fault) = λ e. inl (fault, refl)
      bad (Ok c) = by_places c (λ (n : ℕ). n ≡ 14 → Bad (Ok c)) (λ l e. absurd (none_is 14 (0 ∷ start_numbers) tt _ (start_gives_only c file lim xs cut) e)) (λ n e. inr n)

      fourteen : (y : Result CFGR Fault) → Bad y → numbered y ≡ 14
      fourteen (Err fault) h = malformed_14 fault
      fourteen (Ok c) (inl (fault, e)) = absurd (let q : ◌≡◌ {A = ℕ} 0 1 = cc in omega arith)
      fourteen (Ok c) (inr h) = by_places c (λ (n : ℕ). n ≡ 14) (λ l. absurd (h l)) (λ n. refl)
