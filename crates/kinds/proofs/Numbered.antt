-- Tests answer by numbers: a refusal is the one that has its number, the range test refuses outside its ends, and what the check gives is the number of what it refuses with.
use Prim.Native.Nat.{ℕ, ◌<◌, ◌≤◌}
use mathlib.Core.Path.{◌≡◌, refl}
use mathlib.Core.Logic.{◌⊎◌, inl, inr}
use mathlib.Core.Bool.{Bool, true, false, cond}
use mathlib.Core.List.{List}
use lib.Dec.{T, eqb}
use native.Mathlib.Omega.{arith}
use Rattle.std.specs.Prelude.{Result, Ok, Err}
use borrow.Author.Tests.{lt-leb, le-leb, eqb-true, eqb-false}
use Rattle.kinds.specs.Limits.{outside_of, check_of}
use Rattle.kinds.specs.Refusals.{number_of, refusal_of, unless}
use Rattle.kinds.specs.Table.{Refused, limit_numbers}
use Rattle.kinds.specs.Turns.{OneOf}
use Rattle.kinds.proofs.Turns.{all, holds_of, given_only}
use Rattle.kinds.proofs.Check.{check_first, limit_number}
use Rattle.kinds.specs.declared.CFGR.{CFGR}
use Rattle.kinds.specs.declared.refusals.Refusal.{Refusal}
use Rattle.kinds.specs.declared.refusals.Refusal.TheVariants.{Hse, Hclk, Sysclk, Pclk1, Pclk2, Settings, NoPair, DerivedSysclk, PllsaiVco, PllsaiP, Plli2sVco, Unanswered, PollLimit, Malformed}

-- a refusal's number tells which it is
pub own : (r : Refusal) → ◌≡◌ {A = Result (Unit {0}) Refusal} (Err r) (unless (number_of r) tt)
unfolding unless refusal_of
own Hse = refl
own Hclk = refl
own Sysclk = refl
own Pclk1 = refl
own Pclk2 = refl
own Settings = refl
own NoPair = refl
own DerivedSysclk = refl
own PllsaiVco = refl
own PllsaiP = refl
own Plli2sVco = refl
own Unanswered = refl
own PollLimit = refl
own Malformed = refl

abbrev Test : ℕ → Result (Unit {0}) Refusal
Test n = unless n tt

pub below : (lo hi x : ℕ) (r : Refusal) → x < lo → Err r ≡ Test (outside_of lo hi (number_of r) x)
unfolding outside_of
below lo hi x r h = rw (lt-leb _ _ h) (own r)

pub above : (lo hi x : ℕ) (r : Refusal) → lo ≤ x → hi < x → Err r ≡ Test (outside_of lo hi (number_of r) x)
unfolding outside_of
above lo hi x r h k = rw (le-leb _ _ h, lt-leb _ _ k) (own r)

pub inside : (lo hi x : ℕ) (r : Refusal) → lo ≤ x → x ≤ hi → Ok tt ≡ Test (outside_of lo hi (number_of r) x)
unfolding outside_of unless
inside lo hi x r h k = simp (le-leb _ _ h, le-leb _ _ k)

-- a number of document 01's is that of the refusal that it names: of a list of such numbers, tested once
abbrev pub named : ℕ → Bool
named n = eqb (number_of (refusal_of n)) n

pub numbered : (l : List ℕ) → T (all named l) → (n : ℕ) → OneOf l n → number_of (refusal_of n) ≡ n
numbered l h n o = eqb-true _ _ (lift (holds_of named l h n o))
  where
    lift : {b : Bool} → T b → b ≡ true
    lift {b = true} t = refl
    lift {b = false} t = elim t [ ]

pub check_numbered : (c : CFGR) → (check_of c ≡ 0 → ⊥) → number_of (refusal_of (check_of c)) ≡ check_of c
unfolding refusal_of
check_numbered c h = from (given_only (check_first c))
  where
    from : (check_of c ≡ 0) ⊎ Refused c (check_of c) → number_of (refusal_of (check_of c)) ≡ check_of c
    from (inl e) = absurd (h e)
    from (inr r) = numbered limit_numbers tt (check_of c) (limit_number c (check_of c) r)

-- what a test answers tells its number
pub passed_tells : (n : ℕ) {l : Result (Unit {0}) Refusal} {u : Unit {0}} → l ≡ unless n tt → l ≡ Ok u → n ≡ 0
unfolding unless
passed_tells n {l} p q = at (eqb n 0) refl p
  where
    at : (t : Bool) → eqb n 0 ≡ t → l ≡ cond t (Ok tt) (Err (refusal_of n)) → n ≡ 0
    at true e r = eqb-true _ _ e
    at false e r = absurd (let z : ◌≡◌ {A = ℕ} 0 1 = cc in omega arith)

pub refused_tells : (n : ℕ) {l : Result (Unit {0}) Refusal} {k : Refusal} → l ≡ unless n tt → l ≡ Err k → (n ≡ 0 → ⊥) × (k ≡ refusal_of n)
unfolding unless
refused_tells n {l} {k} p q = at (eqb n 0) refl p
  where
    at : (t : Bool) → eqb n 0 ≡ t → l ≡ cond t (Ok tt) (Err (refusal_of n)) → (n ≡ 0 → ⊥) × (k ≡ refusal_of n)
    at true e r = absurd (let z : ◌≡◌ {A = ℕ} 0 1 = cc in omega arith)
    at false e r = (eqb-false n 0 e, cc)
