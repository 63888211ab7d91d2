-- What an exported function answers follows from what the record reads as and from the call made.
use Prim.Native.Nat.{ℕ}
use mathlib.Core.Path.{◌≡◌, refl, sym, ◌∙◌, ap}
use mathlib.Core.List.{List}
use Rattle.std.specs.Prelude.{Result, Ok, Err, Option, Some, None}
use Rattle.kinds.specs.Limits.{check_of}
use Rattle.calls.specs.Calls.{call_setting}
use Rattle.kinds.specs.declared.CFGR.{CFGR}
use Rattle.kinds.specs.Setters.{Setting, setting_number, handed}
use Rattle.kinds.specs.declared.refusals.Refusal.{Refusal}
use Rattle.kinds.specs.Refusals.{unless, number_of as number_of_refusal}
use Rattle.kinds.proofs.Numbered.{passed_tells, refused_tells, check_numbered}
use Rattle.calls.specs.declared.Setter.{Setter}
use Rattle.record.proofs.Exactly.{malformed_14}
use Rattle.record.specs.declared.Fault.{Fault}
use Rattle.pll.specs.Walk.{search_of}
use Rattle.pll.specs.Numbers.{number_of as found_number}
use Rattle.pll.specs.declared.Window.{Window}
use Rattle.pll.specs.declared.Pair.{Pair}
use Rattle.pll.specs.declared.Miss.{Miss}
use Rattle.numbers.specs.Answers.{found_numbers}
use Rattle.numbers.specs.Numbers.{config_numbers}
use Rattle.woolturret.specs.Replies.{Replied, check_reply, call_reply, set_reply, search_reply, Told}

-- the check
pub malformed_check : {x : Result CFGR Fault} {f : Fault} → x ≡ Err f → 14 ≡ check_reply x
malformed_check {x} {f} e = rw (e, malformed_14 f)

module _ {x : Result CFGR Fault} {c : CFGR} {l : Result (Unit {0}) Refusal} (e : x ≡ Ok c) (p : l ≡ unless (check_of c) tt) where
  pub check_passed : {u : Unit {0}} → l ≡ Ok u → 0 ≡ check_reply x
  check_passed q = rw e (sym (passed_tells (check_of c) p q))

  pub check_refused : {k : Refusal} → l ≡ Err k → number_of_refusal k ≡ check_reply x
  check_refused q = let w = refused_tells (check_of c) p q in rw e (ap number_of_refusal w.1 ∙ check_numbered c w.0)

-- a setter's call
pub unknown : (c : CFGR) {n : Option Setter} (out : List ℕ) → n ≡ None → Replied (call_reply c n out) 14 out
unknown c out e = rw e (record { answer = refl; holds = refl })

pub replied : (c : CFGR) {n : Option Setter} {s : Setter} {t : Setting} {l : List ℕ} (out : List ℕ) → n ≡ Some s → t ≡ call_setting c s → l ≡ config_numbers (handed t) → Replied (call_reply c n out) (setting_number t) l
replied c out e p q = rw (e, q, p) (record { answer = refl; holds = refl })

pub malformed : {x : Result CFGR Fault} {f : Fault} (n : Option Setter) (out : List ℕ) → x ≡ Err f → Replied (set_reply x n out) 14 out
malformed {x} {f} n out e = rw e (record { answer = rw (malformed_14 f); holds = refl })

pub called : {x : Result CFGR Fault} {c : CFGR} {n m : Option Setter} {r : ℕ} {l : List ℕ} (out : List ℕ) → x ≡ Ok c → n ≡ m → Replied (call_reply c n out) r l → Replied (set_reply x m out) r l
called out e p w = rw e (rw p at w)

-- the search
pub searched : (input : ℕ) {p q v w : Option Window} {f : Result Pair Miss} {r : ℕ} {l : List ℕ} → p ≡ v → q ≡ w → f ≡ search_of input p q → r ≡ found_number f → l ≡ found_numbers f → Replied (search_reply (search_of input v w)) r l
searched input a b e n m = record { answer = n ∙ rw (e, a, b); holds = m ∙ rw (e, a, b) }

-- an output
module _ {o x : Result ℕ Refusal} (before : ℕ) (p : x ≡ o) where
  pub told_refused : {k : Refusal} → x ≡ Err k → Told o before (number_of_refusal k) before
  told_refused e = rw (sym p ∙ e) (record { answer = refl; holds = refl })

  pub told_at : {h : ℕ} → x ≡ Ok h → Told o before 0 h
  told_at e = rw (sym p ∙ e) (record { answer = refl; holds = refl })
