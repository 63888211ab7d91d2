-- The first in turn is one: no two numbers have one turn, by the list that gives it. And what a test says of every number of a list it says of one that stands there.
use Prim.Native.Nat.{ℕ, suc, ◌≤◌}
use mathlib.Core.Path.{◌≡◌, refl, sym, ◌∙◌, subst}
use mathlib.Core.Logic.{◌⊎◌, inl, inr, ◌↔◌}
use mathlib.Core.Bool.{Bool, true, false, cond, ◌&&◌, ◌||◌}
use mathlib.Core.List.{List, [], ◌∷◌}
use lib.Dec.{T, eqb, leb, leb→le}
use native.Mathlib.Omega.{arith}
use borrow.Author.Tests.{eqb-true, eq-eqb}
use Rattle.kinds.specs.Turns.{place_in, turn_of, in_turn, First, none, first, has, OneOf}

-- ---- one number, one turn
place_one : (l : List ℕ) (a b : ℕ) → place_in l a ≡ place_in l b → a ≡ b
place_one [] a b e = e
place_one (m ∷ l) a b e = at (place_one l a b) (eqb m a) (eqb m b) refl refl e
  where
    at : (place_in l a ≡ place_in l b → a ≡ b) → (s t : Bool) → eqb m a ≡ s → eqb m b ≡ t → cond s 0 (suc (place_in l a)) ≡ cond t 0 (suc (place_in l b)) → a ≡ b
    at r true true p q e = sym (eqb-true m a p) ∙ eqb-true m b q
    at r true false p q e = absurd (omega arith)
    at r false true p q e = absurd (omega arith)
    at r false false p q e = r (omega arith)

pub turn_one : (a b : ℕ) → turn_of a ≡ turn_of b → a ≡ b
unfolding turn_of
turn_one a b e = place_one in_turn a b e

-- the first in turn is one
pub first_one : {G : ℕ → Type 0} {a b : ℕ} → First G a → First G b → a ≡ b
first_one (none f) (none g) = refl
first_one (none f) (first {n = n} x g) = absurd (f n x)
first_one (first {n = n} x f) (none g) = absurd (g n x)
first_one (first {n = m} x f) (first {n = n} y g) = turn_one m n (let a = f n y in let b = g m x in omega arith)

pub exactly : {G : ℕ → Type 0} {a n : ℕ} → First G a → (a ≡ n) ↔ First G n
exactly {G} l = (λ e. subst (λ (z : ℕ). First G z) e l, λ k. first_one l k)

-- it is 0, or one that is given
pub given_only : {G : ℕ → Type 0} {a : ℕ} → First G a → (a ≡ 0) ⊎ G a
given_only (none f) = inl refl
given_only (first x f) = inr x

-- ---- what can come out: a number of a list
abbrev pub all : (ℕ → Bool) → List ℕ → Bool
all t [] = true
all t (m ∷ l) = t m && all t l

pub both_left : (a b : Bool) → T (a && b) → T a
both_left true b t = tt
both_left false b t = elim t [ ]

pub both_right : (a b : Bool) → T (a && b) → T b
both_right true b t = t
both_right false b t = elim t [ ]

-- what a test says of each of them it says of one
pub holds_of : (t : ℕ → Bool) (l : List ℕ) → T (all t l) → (n : ℕ) → OneOf l n → T (t n)
holds_of t [] h n o = absurd o
holds_of t (m ∷ l) h n o = at (eqb m n) refl o (holds_of t l (both_right (t m) (all t l) h) n)
  where
    at : (s : Bool) → eqb m n ≡ s → T (s || has l n) → (OneOf l n → T (t n)) → T (t n)
    at true e u r = subst (λ (z : ℕ). T (t z)) (eqb-true m n e) (both_left (t m) (all t l) h)
    at false e u r = r u

-- a number of a list stands in one that has them all
pub wider : (l m : List ℕ) → T (all (has m) l) → (n : ℕ) → OneOf l n → OneOf m n
wider l m h n o = holds_of (has m) l h n o

-- none of the first list comes after one of the second
abbrev by : ℕ → ℕ → Bool
by k n = leb (turn_of n) (turn_of k)

abbrev pub ahead : List ℕ → List ℕ → Bool
ahead l m = all (λ k. all (by k) l) m

pub in_order : (l m : List ℕ) → T (ahead l m) → (a b : ℕ) → OneOf l a → OneOf m b → turn_of a ≤ turn_of b
in_order l m h a b o q = leb→le (turn_of a) (turn_of b) (holds_of (by b) l (holds_of (λ k. all (by k) l) m h b q) a o)

-- none of them is k
abbrev pub but : ℕ → ℕ → Bool
but k n = cond (eqb n k) false true

pub none_is : (k : ℕ) (l : List ℕ) → T (all (but k) l) → (n : ℕ) → OneOf l n → n ≡ k → ⊥
none_is k l h n o e = at (eqb n k) (eq-eqb n k e) (holds_of (but k) l h n o)
  where
    at : (t : Bool) → t ≡ true → T (cond t false true) → ⊥
    at true p x = x
    at false p x = let z : ◌≡◌ {A = ℕ} 0 1 = cc in omega arith
