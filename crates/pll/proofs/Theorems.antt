-- What is promised of the search and of an output, for every input and window of 32 bits, also one with its low end above its high end; each is read off the lemmas of the other files.
use Prim.Native.Nat.{ℕ, ◌≤◌}
use mathlib.Core.Path.{◌≡◌, refl, subst}
use mathlib.Core.Logic.{◌⊎◌, inl, inr, ⊎_elim, ◌↔◌}
use mathlib.Core.Bool.{Bool, true, false, cond}
use mathlib.Core.List.{map}
use native.Mathlib.Omega.{arith}
use Rattle.pll.specs.Fixed.{inside, InputOk, SettingsOk, recip_of, vco_of, out_of, output_of}
use Rattle.pll.specs.Walk.{Walks, looks_of, first, seek, join, judge, look, walk, entered, search_of}
use Rattle.pll.specs.Good.{SomeWindow, GoodPair, Best, Answer}
use Rattle.pll.specs.Numbers.{number_of, passes_of, outcome_number_of}
use Rattle.pll.specs.Examples.{examples}
use Rattle.std.specs.Prelude.{Option, Some, None, Result, Ok, Err}
use Rattle.pll.specs.declared.Window.{Window}
use Rattle.pll.specs.declared.Pair.{Pair}
use Rattle.pll.specs.declared.Miss.{Miss}
use Rattle.pll.specs.declared.Miss.TheVariants.{BadInput, Nothing}
use Rattle.kinds.specs.declared.refusals.Refusal.{Refusal}
use Rattle.pll.proofs.Outputs.{OutputView, input_bad, setting_bad, given, output_view}
use Rattle.pll.proofs.Answers.{search_answers, search_walks, one_answer}
use Rattle.pll.proofs.Rules.{whole_walks, walks_count, looks_some, walks_one}

-- the answer of the search is the right one
pub answer_is_right : (f : ℕ) (p q : Option Window) → Answer f p q (search_of f p q)
answer_is_right = search_answers

-- ---- when the search refuses
module _ (f : ℕ) (p q : Option Window) where
  -- it refuses with 7 exactly if no pair is good, of an input in range
  pub refuses_with_7_exactly : InputOk f → (number_of (search_of f p q) ≡ 7) ↔ ((M N : ℕ) → GoodPair f p q M N → ⊥)
  refuses_with_7_exactly i = cases (search_of f p q) (answer_is_right f p q)
    where
      cases : (r : Result Pair Miss) → Answer f p q r → (number_of r ≡ 7) ↔ ((M N : ℕ) → GoodPair f p q M N → ⊥)
      cases (Ok r) w = (λ e. absurd (omega arith), λ h. absurd (h r.m.0 r.n.0 w.0.good))
      cases (Err BadInput) w = (λ e. absurd (w i), λ h. absurd (w i))
      cases (Err (Nothing k)) w = (λ e. w.1, λ h. refl)

  -- it refuses with 1 exactly if the input is outside 1 to 50 MHz
  pub refuses_with_1_exactly : (number_of (search_of f p q) ≡ 1) ↔ (InputOk f → ⊥)
  refuses_with_1_exactly = cases (search_of f p q) (answer_is_right f p q)
    where
      cases : (r : Result Pair Miss) → Answer f p q r → (number_of r ≡ 1) ↔ (InputOk f → ⊥)
      cases (Ok r) w = (λ e. absurd (omega arith), λ h. absurd (h w.0.good.input))
      cases (Err BadInput) w = (λ e. w, λ h. refl)
      cases (Err (Nothing k)) w = (λ e. absurd (omega arith), λ h. absurd (h w.0))

  -- it accepts exactly if some pair is good
  pub accepts_exactly : (number_of (search_of f p q) ≡ 0) ↔ ((M : ℕ) × (N : ℕ) × GoodPair f p q M N)
  accepts_exactly = cases (search_of f p q) (answer_is_right f p q)
    where
      cases : (r : Result Pair Miss) → Answer f p q r → (number_of r ≡ 0) ↔ ((M : ℕ) × (N : ℕ) × GoodPair f p q M N)
      cases (Ok r) w = (λ e. (r.m.0, r.n.0, w.0.good), λ g. refl)
      cases (Err BadInput) w = (λ e. absurd (omega arith), λ g. absurd (w g.2.input))
      cases (Err (Nothing k)) w = (λ e. absurd (omega arith), λ g. absurd (w.1 g.0 g.1 g.2))

-- ---- what it answers
module _ (f : ℕ) (p q : Option Window) (r : Pair) (e : search_of f p q ≡ Ok r) where
  -- the pair is good, M is least, then N greatest, and P and Q are the largest that fit
  pub pair_is_best : Best f p q r.m.0 r.n.0 r.p r.q
  pair_is_best = (subst (λ (x : Result Pair Miss). Answer f p q x) e (answer_is_right f p q)).0

  -- an absent window gives no divider
  pub absent_gives_none : ((p ≡ None) → r.p ≡ None) × ((q ≡ None) → r.q ≡ None)
  absent_gives_none = (λ h. rw h at pair_is_best.p_chosen, λ h. rw h at pair_is_best.q_chosen)

-- ---- its count
module _ (f : ℕ) (p q : Option Window) (i : InputOk f) (s : SomeWindow p q) where
  -- the search follows the rules of the walk from M = 2, N = 432
  pub search_follows_the_walk : Walks f p q 2 432 1 (search_of f p q)
  search_follows_the_walk = rw (search_walks f p q i s) (whole_walks f p q i)

  -- those rules lead to no other answer
  pub walk_leads_to_the_search : (r : Result Pair Miss) → Walks f p q 2 432 1 r → r ≡ search_of f p q
  walk_leads_to_the_search r w = walks_one f p q 2 432 1 r (search_of f p q) w search_follows_the_walk

  -- the count is the number of looks of the walk
  pub count_is_the_looks : {r : Result Pair Miss} (w : Walks f p q 2 432 1 r) → passes_of (search_of f p q) ≡ looks_of w
  count_is_the_looks {r} w = let h = walks_count w in rw (← walk_leads_to_the_search r w) (omega arith)

  -- it is at least 1
  pub count_at_least_1 : 1 ≤ passes_of (search_of f p q)
  count_at_least_1 =
      let w = search_follows_the_walk in
      let h = count_is_the_looks w in
      let g = looks_some w in
      omega arith

-- the count of any answer is at most 10,008
pub count_at_most_10008 : (f : ℕ) (p q : Option Window) → passes_of (search_of f p q) ≤ 10008
count_at_most_10008 f p q = cases (search_of f p q) (answer_is_right f p q)
  where
    cases : (r : Result Pair Miss) → Answer f p q r → passes_of r ≤ 10008
    cases (Ok r) w = w.1
    cases (Err BadInput) w = omega arith
    cases (Err (Nothing k)) w = w.2

-- a search without a window makes no pass
none_passes : (f : ℕ) → passes_of (search_of f None None) ≡ 0
unfolding search_of entered
none_passes f = cases (inside 1000000 50000000 f)
  where
    cases : (t : Bool) → passes_of (cond t (Err (Nothing 0)) (Err BadInput)) ≡ 0
    cases true = refl
    cases false = refl

-- it is 0 exactly for an input that is refused and for no window at all
pub no_pass_exactly : (f : ℕ) (p q : Option Window) → (passes_of (search_of f p q) ≡ 0) ↔ ((InputOk f → ⊥) ⊎ (SomeWindow p q → ⊥))
no_pass_exactly f p q = (λ e. forth p q e, λ h. ⊎_elim (λ (a : InputOk f → ⊥). refused a) (λ (a : SomeWindow p q → ⊥). windowless p q a) h)
  where
    refused : (InputOk f → ⊥) → passes_of (search_of f p q) ≡ 0
    refused a = cases (search_of f p q) ((refuses_with_1_exactly f p q).1 a)
      where
        cases : (r : Result Pair Miss) → number_of r ≡ 1 → passes_of r ≡ 0
        cases (Ok r) e = absurd (omega arith)
        cases (Err BadInput) e = refl
        cases (Err (Nothing k)) e = absurd (omega arith)

    forth : (p q : Option Window) → passes_of (search_of f p q) ≡ 0 → (InputOk f → ⊥) ⊎ (SomeWindow p q → ⊥)
    forth None None e = inr (λ s. s)
    forth None (Some w) e = inl (λ i. let h = count_at_least_1 f None (Some w) i tt in omega arith)
    forth (Some w) q e = inl (λ i. let h = count_at_least_1 f (Some w) q i tt in omega arith)

    windowless : (p q : Option Window) → (SomeWindow p q → ⊥) → passes_of (search_of f p q) ≡ 0
    windowless None None a = none_passes f
    windowless None (Some w) a = absurd (a tt)
    windowless (Some w) q a = absurd (a tt)

-- ---- the answer is one
-- from any pass at any pair the rules of the walk lead to one answer
pub walk_leads_to_one_answer : (f : ℕ) (p q : Option Window) (m n k : ℕ) (r s : Result Pair Miss) → Walks f p q m n k r → Walks f p q m n k s → r ≡ s
walk_leads_to_one_answer = walks_one

-- two right answers with the same count are equal
pub right_answer_is_one : (f : ℕ) (p q : Option Window) (r s : Result Pair Miss) → Answer f p q r → Answer f p q s → passes_of r ≡ passes_of s → r ≡ s
right_answer_is_one = one_answer

-- ---- an output of settings as they stand
module _ (f m n d : ℕ) where
  -- it is refused with 1 exactly if the input is outside 1 to 50 MHz
  pub output_refused_with_1_exactly : (outcome_number_of (output_of f m n d) ≡ 1) ↔ (InputOk f → ⊥)
  output_refused_with_1_exactly = cases (output_of f m n d) (output_view f m n d)
    where
      cases : (r : Result ℕ Refusal) → OutputView f m n d r → (outcome_number_of r ≡ 1) ↔ (InputOk f → ⊥)
      cases (Err k) (input_bad a) = (λ e. a, λ h. refl)
      cases (Err k) (setting_bad i a) = (λ e. absurd (omega arith), λ h. absurd (h i))
      cases (Ok x) (given i s) = (λ e. absurd (omega arith), λ h. absurd (h i))

  -- with 6 exactly if the input is inside and M, N or the divider is outside its limits
  pub output_refused_with_6_exactly : (outcome_number_of (output_of f m n d) ≡ 6) ↔ (InputOk f × (SettingsOk m n d → ⊥))
  output_refused_with_6_exactly = cases (output_of f m n d) (output_view f m n d)
    where
      cases : (r : Result ℕ Refusal) → OutputView f m n d r → (outcome_number_of r ≡ 6) ↔ (InputOk f × (SettingsOk m n d → ⊥))
      cases (Err k) (input_bad a) = (λ e. absurd (omega arith), λ h. absurd (a h.0))
      cases (Err k) (setting_bad i a) = (λ e. (i, a), λ h. refl)
      cases (Ok x) (given i s) = (λ e. absurd (omega arith), λ h. absurd (h.1 s))

  -- else it is 16 × floor(V × r(d) / 2^30)
  pub output_given : InputOk f → SettingsOk m n d → output_of f m n d ≡ Ok (out_of (vco_of f n m) d)
  output_given i s = cases (output_of f m n d) (output_view f m n d)
    where
      cases : (r : Result ℕ Refusal) → OutputView f m n d r → r ≡ Ok (out_of (vco_of f n m) d)
      cases (Err k) (input_bad a) = absurd (a i)
      cases (Err k) (setting_bad j a) = absurd (a s)
      cases (Ok x) (given j t) = refl

-- ---- document 01's examples of the search, and the one added to them
pub examples_hold : map (λ e. search_of e.input e.p e.q) examples ≡ map (λ e. e.answer) examples
unfolding recip_of vco_of first seek join judge look walk entered search_of
examples_hold = refl
