-- The search gives the right answer, and the right answer is one: by induction on the walk, then by the order of pairs and of dividers.
use Prim.Native.Nat.{ℕ, zero, suc, ◌+◌, ◌-◌, ◌≤◌, ◌<◌}
use mathlib.Core.Path.{◌≡◌, refl, ap, sym, ◌∙◌}
use mathlib.Core.Logic.{⊎_elim}
use mathlib.Core.Bool.{false}
use mathlib.Core.List.{List}
use borrow.Author.Tests.{le-leb, lt-leb}
use native.Mathlib.Omega.{arith}
use Rattle.pll.specs.Walk.{look, walk, whole_walk, entered, search_of, p_dividers, q_dividers}
use Rattle.pll.specs.Good.{Chosen, SomeWindow, Best, Answer}
use Rattle.pll.specs.Numbers.{passes_of}
use Rattle.kinds.specs.declared.Divider.{Divider}
use Rattle.kinds.specs.declared.Factor.{Factor}
use Rattle.pll.specs.Fixed.{InputOk, inside, vco_of}
use Rattle.std.specs.Prelude.{Option, Some, None, Result, Ok, Err}
use Rattle.pll.specs.declared.Window.{Window}
use Rattle.pll.specs.declared.Pair.{Pair}
use Rattle.pll.specs.declared.Miss.{Miss}
use Rattle.pll.specs.declared.Miss.TheVariants.{BadInput, Nothing}
use Rattle.pll.specs.declared.Look.{Look}
use Rattle.pll.specs.declared.Look.TheVariants.{Refuse, NextM, NextN, Good}
use Rattle.pll.proofs.Dividers.{split, chosen_fits}
use Rattle.pll.proofs.Looks.{Looked, good, looked}
use Rattle.pll.proofs.Room.{Room, room_start, room_here, room_m, room_n}
use Rattle.pll.proofs.Ahead.{Ahead, ahead_start, ahead_m, ahead_n, none_left}

answers : (d f : ℕ) (p q : Option Window) (l : Look) (m n k : ℕ) → InputOk f → SomeWindow p q → Looked f p q m n l → Room f m n k → k + d ≡ 10009
    → Ahead f p q m n → Answer f p q (walk d f p q l m n k)
unfolding walk
answers zero f p q l m n k i s w r e ah = absurd (let h = room_here f m n k r in omega arith)
answers (suc d) f p q Refuse m n k i s w r e ah = (i, none_left f p q m n r.m_low ah w, room_here f m n k r)
answers (suc d) f p q NextM m n k i s w r e ah =
    answers d f p q (look f p q (m + 1) 432) (m + 1) 432 (k + 1) i s (looked f p q (m + 1) 432) (room_m f p q m n k r w) (omega arith) (ahead_m f p q m n r.m_low ah w)
answers (suc d) f p q NextN m n k i s w r e ah =
    answers d f p q (look f p q m (n - 1)) m (n - 1) (k + 1) i s (looked f p q m (n - 1)) (room_n f p q m n k r w) (omega arith) (ahead_n f p q m n r.m_low ah w)
answers (suc d) f p q (Good a b) m n k i s (good x y z c h) r e ah = (
  record {
    good = record {
      input = i;
      sought = s;
      m_low = r.m_low;
      m_high = omega (arith, x.m_high);
      n_low = x.n_low;
      n_high = r.n_high;
      in_low = x.low;
      in_high = x.high;
      vco_low = y;
      vco_high = z;
      p_fits = chosen_fits p_dividers p _ a c;
      q_fits = chosen_fits q_dividers q _ b h;
    };
    best = ah;
    p_chosen = c;
    q_chosen = h;
  },
  room_here f m n k r,
)

walk_answers : (f : ℕ) (p q : Option Window) → InputOk f → SomeWindow p q → Answer f p q (whole_walk f p q)
walk_answers f p q i s = answers 10008 f p q (look f p q 2 432) 2 432 1 i s (looked f p q 2 432) (room_start f i) refl (ahead_start f p q)

-- ---- the search's entry
module _ (f : ℕ) (p q : Option Window) where
  search_refused : inside 1000000 50000000 f ≡ false → search_of f p q ≡ Err BadInput
  unfolding search_of
  search_refused a = rw a

  search_low : f < 1000000 → search_of f p q ≡ Err BadInput
  search_low a = search_refused (simp (lt-leb _ _ a))

  search_high : 50000000 < f → search_of f p q ≡ Err BadInput
  search_high a = let b : 1000000 ≤ f = omega arith in search_refused (simp (le-leb _ _ b, lt-leb _ _ a))

  search_in_lem : InputOk f → search_of f p q ≡ entered f p q
  unfolding search_of
  search_in_lem i = simp (le-leb _ _ i.low, le-leb _ _ i.high)

module _ (f : ℕ) (p q : Option Window) (i : InputOk f) where
  search_q : (w : Window) → p ≡ None → q ≡ Some w → search_of f p q ≡ whole_walk f p q
  unfolding entered
  search_q w a b = search_in_lem f p q i ∙ rw (a, b)

  search_p : (w : Window) → p ≡ Some w → search_of f p q ≡ whole_walk f p q
  unfolding entered
  search_p w a = search_in_lem f p q i ∙ rw a

-- with some window the search is the walk
pub search_walks : (f : ℕ) (p q : Option Window) → InputOk f → SomeWindow p q → search_of f p q ≡ whole_walk f p q
search_walks f None None i s = absurd s
search_walks f None (Some w) i s = search_q f None (Some w) i w refl refl
search_walks f (Some w) q i s = search_p f (Some w) q i w refl

entered_answers : (f : ℕ) (p q : Option Window) → InputOk f → Answer f p q (entered f p q)
unfolding entered
entered_answers f None None i = (i, λ M N g. g.sought, omega arith)
entered_answers f None (Some w) i = walk_answers f None (Some w) i tt
entered_answers f (Some w) q i = walk_answers f (Some w) q i tt

pub search_answers : (f : ℕ) (p q : Option Window) → Answer f p q (search_of f p q)
search_answers f p q =
    ⊎_elim (λ (a : f < 1000000). rw (search_low f p q a) (λ (i : InputOk f). omega (arith, a, i.low)))
    (λ (a : 1000000 ≤ f). ⊎_elim (λ (b : 50000000 < f). rw (search_high f p q b) (λ (i : InputOk f). omega (arith, b, i.high)))
    (λ (b : f ≤ 50000000). let i : InputOk f = record { low = a; high = b } in rw (search_in_lem f p q i) (entered_answers f p q i))
    (split 50000000 f))
    (split f 1000000)

-- ---- the right answer is one
one_pair : (f : ℕ) (p q : Option Window) (m n M N : ℕ) (a b c d : Option Divider) → Best f p q m n a b → Best f p q M N c d → (m ≡ M) × (n ≡ N)
one_pair f p q m n M N a b c d x y =
    ⊎_elim (λ (s : m < M). ⊎_elim (λ (t : M < m). absurd (omega arith)) (λ (t : (m ≡ M) × (n ≤ N)). absurd (omega (arith, t.0))) (y.best m n x.good))
    (λ (s : (M ≡ m) × (N ≤ n)). ⊎_elim (λ (t : M < m). absurd (omega (arith, s.0))) (λ (t : (m ≡ M) × (n ≤ N)). (t.0, omega (arith, s.1, t.1))) (y.best m n x.good))
    (x.best M N y.good)

same_divider : (d e : Divider) → d.0 ≡ e.0 → d ≡ e
same_divider d e h = ap (λ (x : ℕ). record { 0 = x }) h

same_factor : (d e : Factor) → d.0 ≡ e.0 → d ≡ e
same_factor d e h = ap (λ (x : ℕ). record { 0 = x }) h

same_pair : (r s : Pair) → r.m ≡ s.m → r.n ≡ s.n → r.p ≡ s.p → r.q ≡ s.q → r.passes ≡ s.passes → ◌≡◌ {A = Result Pair Miss} (Ok r) (Ok s)
same_pair r s a b c d e = rw (a, b, c, d, e)

one_divider : (ds : List ℕ) (w : Option Window) (v : ℕ) (a b : Option Divider) → Chosen ds w v a → Chosen ds w v b → a ≡ b
one_divider ds None v a b x y = x ∙ sym y
one_divider ds (Some w) v a b x y =
    let e : x.0 ≡ y.0 = same_divider x.0 y.0 (let g = x.4 y.0.0 y.2 y.3 in let h = y.4 x.0.0 x.2 x.3 in omega arith) in
    x.1 ∙ rw e (sym y.1)

best_one : (f : ℕ) (p q : Option Window) (r s : Pair)
    → Best f p q r.m.0 r.n.0 r.p r.q → Best f p q s.m.0 s.n.0 s.p s.q → r.passes ≡ s.passes → ◌≡◌ {A = Result Pair Miss} (Ok r) (Ok s)
best_one f p q r s x y z =
    let e = one_pair f p q r.m.0 r.n.0 s.m.0 s.n.0 r.p r.q s.p s.q x y in
    let g = same_divider r.m s.m e.0 in
    let h = same_factor r.n s.n e.1 in
    let t = one_divider p_dividers p (vco_of f r.n.0 r.m.0) r.p s.p x.p_chosen (rw (e.0, e.1) y.p_chosen) in
    let u = one_divider q_dividers q (vco_of f r.n.0 r.m.0) r.q s.q x.q_chosen (rw (e.0, e.1) y.q_chosen) in
    same_pair r s g h t u z

pub one_answer : (f : ℕ) (p q : Option Window) (r s : Result Pair Miss) → Answer f p q r → Answer f p q s → passes_of r ≡ passes_of s → r ≡ s
one_answer f p q (Ok r) (Ok s) x y e = best_one f p q r s x.0 y.0 e
one_answer f p q (Ok r) (Err BadInput) x y e = absurd (y x.0.good.input)
one_answer f p q (Ok r) (Err (Nothing j)) x y e = absurd (y.1 r.m.0 r.n.0 x.0.good)
one_answer f p q (Err BadInput) (Ok s) x y e = absurd (x y.0.good.input)
one_answer f p q (Err BadInput) (Err BadInput) x y e = refl
one_answer f p q (Err BadInput) (Err (Nothing j)) x y e = absurd (x y.0)
one_answer f p q (Err (Nothing k)) (Ok s) x y e = absurd (x.1 s.m.0 s.n.0 y.0.good)
one_answer f p q (Err (Nothing k)) (Err BadInput) x y e = absurd (y x.0)
one_answer f p q (Err (Nothing k)) (Err (Nothing j)) x y e = rw e
