-- Some of a list's first stores, then all of it, make what all of it makes: the last write of each place is what stands there.
use Prim.Native.Nat.{ℕ, ◌<◌}
use mathlib.Core.Path.{◌≡◌, refl, sym, ◌∙◌, ap}
use mathlib.Core.Bool.{Bool, true, false, cond}
use mathlib.Core.List.{List, [], ◌∷◌, ◌++◌}
use lib.Dec.{eqb}
use lib.ListN.{length, get_or, set, take, drop, length-set, take-append-drop}
use lib.Seq.{get_or-set_same, get_or-set_other, ext_get_or}
use borrow.Author.Tests.{eqb-true, eqb-false}
use Rattle.order.specs.Files.{writes, applies}

-- what stands at the place q after the writes ws, where v stood before
abbrev pub look : ℕ → List (ℕ × ℕ) → ℕ → ℕ
look q [] v = v
look q (w ∷ ws) v = look q ws (cond (eqb q w.0) w.1 v)

pub length_writes : (f : List ℕ) (ws : List (ℕ × ℕ)) → length (writes f ws) ≡ length f
length_writes f [] = refl
length_writes f (w ∷ ws) = length_writes (set f w.0 w.1) ws ∙ length-set f w.0 w.1

at_set : (f : List ℕ) (p q v : ℕ) (b : Bool) → eqb p q ≡ b → p < length f → get_or (set f q v) p 0 ≡ cond b v (get_or f p 0)
at_set f p q v true e h = rw (sym (eqb-true p q e)) (get_or-set_same f p v 0 h)
at_set f p q v false e h = get_or-set_other f q p v 0 (eqb-false p q e)

pub at_writes : (f : List ℕ) (ws : List (ℕ × ℕ)) (q : ℕ) → q < length f → get_or (writes f ws) q 0 ≡ look q ws (get_or f q 0)
at_writes f [] q h = refl
at_writes f (w ∷ ws) q h =
    at_writes (set f w.0 w.1) ws q (rw length-set h) ∙ ap (look q ws) (at_set f q w.0 w.1 (eqb q w.0) refl h)

-- the same writes again change nothing
look_step : (q : ℕ) (ws : List (ℕ × ℕ)) (v : ℕ) → ((u : ℕ) → look q ws (look q ws u) ≡ look q ws u) → (b : Bool) (u : ℕ) → look q ws (cond b v (look q ws (cond b v u))) ≡ look q ws (cond b v u)
look_step q ws v h true u = refl
look_step q ws v h false u = h u

look_again : (q : ℕ) (ws : List (ℕ × ℕ)) (u : ℕ) → look q ws (look q ws u) ≡ look q ws u
look_again q [] u = refl
look_again q (w ∷ ws) u = look_step q ws w.1 (look_again q ws) (eqb q w.0) u

writes_again : (f : List ℕ) (ws : List (ℕ × ℕ)) → writes (writes f ws) ws ≡ writes f ws
writes_again f ws =
    ext_get_or 0 (writes (writes f ws) ws) (writes f ws) (length_writes (writes f ws) ws)
    (λ q h. let k : q < length (writes f ws) = rw (sym (length_writes (writes f ws) ws)) h in
    let j : q < length f = rw (sym (length_writes f ws)) k in
    at_writes (writes f ws) ws q k ∙ ap (look q ws) (at_writes f ws q j) ∙ look_again q ws (get_or f q 0) ∙ sym (at_writes f ws q j))

writes_both : (f : List ℕ) (a b : List (ℕ × ℕ)) → writes f (a ++ b) ≡ writes (writes f a) b
writes_both f [] b = refl
writes_both f (w ∷ a) b = writes_both (set f w.0 w.1) a b

-- all the writes of a list of stores
abbrev pub flat : List (List (ℕ × ℕ)) → List (ℕ × ℕ)
flat [] = []
flat (ws ∷ l) = ws ++ flat l

pub applies_flat : (f : List ℕ) (l : List (List (ℕ × ℕ))) → applies f l ≡ writes f (flat l)
applies_flat f [] = refl
applies_flat f (ws ∷ l) = applies_flat (writes f ws) l ∙ sym (writes_both f ws (flat l))

applies_both : (f : List ℕ) (a b : List (List (ℕ × ℕ))) → applies f (a ++ b) ≡ applies (applies f a) b
applies_both f [] b = refl
applies_both f (ws ∷ a) b = applies_both (writes f ws) a b

applies_again : (f : List ℕ) (l : List (List (ℕ × ℕ))) → applies (applies f l) l ≡ applies f l
applies_again f l = rw (applies_flat (applies f l) l, applies_flat f l) (writes_again f (flat l))

-- the first n stores, and then all of them: what all of them make of the first file
pub restart : (f : List ℕ) (l : List (List (ℕ × ℕ))) (n : ℕ) → applies (applies f (take n l)) l ≡ applies f l
restart f l n =
    ap (applies (applies f (take n l))) (sym (take-append-drop n l)) ∙ applies_both (applies f (take n l)) (take n l) (drop n l) ∙
    ap (λ (g : List ℕ). applies g (drop n l)) (applies_again f (take n l)) ∙ sym (applies_both f (take n l) (drop n l)) ∙
    ap (applies f) (take-append-drop n l)
