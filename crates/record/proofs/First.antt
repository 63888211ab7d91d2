-- A list of rules in the order of their offsets is kept whole, or the first breach is the lowest: by induction over the list.
use Prim.Native.Nat.{ℕ, ◌≤◌}
use mathlib.Core.Path.{◌≡◌, refl, ap, ◌∙◌}
use mathlib.Core.Bool.{Bool, true, false, ◌&&◌, and-eq-true_iff}
use mathlib.Core.List.Memᴰ
use mathlib.Core.List.{List, [], ◌∷◌, Memᴰ}
use mathlib.Core.Logic.{⊎_elim}
use native.Mathlib.Omega.{arith}
use lib.Dec.{leb}
use borrow.Author.Tests.{leb-true, le-leb}
use Rattle.std.specs.Prelude.{Ok, Err}
use Rattle.record.specs.Layout.{Found, Rule, keeps, offset_of, fault_of, noted, looked, breach_from}
use Rattle.record.specs.Lowest.{Lowest}
use Rattle.record.specs.declared.Fault.{Fault}

-- every rule of a list is kept
abbrev pub Kept : List ℕ → List Rule → Type 0
Kept b [] = Unit {0}
Kept b (r ∷ rs) = (keeps b r ≡ true) × Kept b rs

-- no offset of a list is below k or below an earlier one
abbrev pub rising : ℕ → List Rule → Bool
rising k [] = true
rising k (r ∷ rs) = leb k (offset_of r) && rising (offset_of r) rs

-- the two ways that looking at a list of rules ends
pub data First (b : List ℕ) (rs : List Rule) : Found → Type 0 where
  kept : Kept b rs → First b rs (Ok tt)
  breached : {fault : Fault} → Lowest b rs fault → First b rs (Err fault)

-- a rule of a list that is kept is kept
pub kept_at : (b : List ℕ) (rs : List Rule) {r : Rule} → Kept b rs → Memᴰ r rs → keeps b r ≡ true
kept_at b [] k m = absurd (Memᴰ.not-nil m)
kept_at b (s ∷ rs) k m =
    ⊎_elim (λ e. ap (keeps b) e ∙ k.0) (λ m'. kept_at b rs k.1 m') (Memᴰ.cases_cons m)

-- each rule of a rising list is at its bound or past it
past : {r : Rule} (k : ℕ) (rs : List Rule) → rising k rs ≡ true → Memᴰ r rs → k ≤ offset_of r
past k [] h m = absurd (Memᴰ.not-nil m)
past {r} k (s ∷ rs) h m =
    let both = (and-eq-true_iff _ _).0 h in
    let here : k ≤ offset_of s = leb-true _ _ both.0 in
    ⊎_elim
    (λ e. rw e here)
    (λ m'. let later : offset_of s ≤ offset_of r = past (offset_of s) rs both.1 m' in omega arith)
    (Memᴰ.cases_cons m)

-- a breach that is found stands, through one more rule and through a list of them
pub stands : (b : List ℕ) (fault : Fault) (r : Rule) → looked b (Err fault) r ≡ Err fault
unfolding looked
stands b fault r = refl

pub stays : (b : List ℕ) (fault : Fault) (rs : List Rule) → breach_from b (Err fault) rs ≡ Err fault
unfolding looked
stays b fault [] = refl
stays b fault (r ∷ rs) = stays b fault rs

module _ (b : List ℕ) (r : Rule) (rs : List Rule) where
  -- the first rule is kept: the list ends as the rest does
  goes_on : {found : Found} → keeps b r ≡ true → First b rs found → First b (r ∷ rs) found
  goes_on e (kept k) = kept (e, k)
  goes_on e (breached l) =
      breached
      (record {
        rule = l.rule;
        listed = Memᴰ.tail l.listed;
        breached = l.breached;
        named = l.named;
        lower_kept =
            λ s m h. ⊎_elim (λ p. ap (keeps b) p ∙ e) (λ m'. l.lower_kept s m' h) (Memᴰ.cases_cons m);
      })

  -- the first rule is breached: it is the lowest
  ends : rising (offset_of r) rs ≡ true → keeps b r ≡ false → First b (r ∷ rs) (Err (fault_of r))
  ends up e =
      breached
      (record {
        rule = r;
        listed = Memᴰ.head refl;
        breached = e;
        named = refl;
        lower_kept =
            λ s m h.
            let all_up : rising (offset_of r) (r ∷ rs) ≡ true =
            (and-eq-true_iff _ _).1 (le-leb (offset_of r) (offset_of r) (omega arith), up) in
            let not_lower : offset_of r ≤ offset_of s = past (offset_of r) (r ∷ rs) all_up m in
            absurd (omega arith);
      })

  by_test :
      (t : Bool) → rising (offset_of r) rs ≡ true → keeps b r ≡ t → First b rs (breach_from b (Ok tt) rs)
      → First b (r ∷ rs) (breach_from b (noted (Ok tt) t (fault_of r)) rs)
  by_test true up e rest = goes_on e rest
  by_test false up e rest = rw (stays b (fault_of r) rs) (ends up e)

-- how looking at the rules of a rising list ends
pub first : (b : List ℕ) (k : ℕ) (rs : List Rule) → rising k rs ≡ true → First b rs (breach_from b (Ok tt) rs)
unfolding looked
first b k [] up = kept tt
first b k (r ∷ rs) up =
    let up' : rising (offset_of r) rs ≡ true = ((and-eq-true_iff (leb k (offset_of r)) _).0 up).1 in
    by_test b r rs (keeps b r) up' refl (first b (offset_of r) rs up')
