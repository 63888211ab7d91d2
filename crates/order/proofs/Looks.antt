-- A place that no write names is left as it was, at every cut of a list of stores.
use Prim.Native.Nat.{ℕ, zero, suc}
use mathlib.Core.Path.{◌≡◌, refl, sym, ◌∙◌, ap}
use mathlib.Core.Bool.{Bool, true, false, cond, true≢false, false≢true}
use mathlib.Core.List.{List, [], ◌∷◌, ◌++◌, append_assoc}
use lib.Dec.{eqb}
use lib.ListN.{length, get_or, take, set}
use lib.Seq.{get_or-set_other, take-append_seam}
use borrow.Author.Tests.{eqb-false}
use Rattle.order.specs.declared.wait.Awaited.{Awaited}
use Rattle.order.specs.Files.{writes, applies}
use Rattle.order.specs.Order.{Op, put, wait, stores_of}
use Rattle.order.specs.Fields.{names}
use Rattle.order.proofs.Restart.{look, flat}

-- every write of a list of stores and waits
abbrev pub written : List Op → List (ℕ × ℕ)
written os = flat (stores_of os)

pub stores_both : (a b : List Op) → stores_of (a ++ b) ≡ stores_of a ++ stores_of b
stores_both [] b = refl
stores_both (put ws ∷ a) b = ap (λ (l : List (List (ℕ × ℕ))). ws ∷ l) (stores_both a b)
stores_both (wait k ∷ a) b = stores_both a b

-- the stores before a wait are the list's first ones
pub first_stores : (os a b : List Op) (k : Awaited) → os ≡ a ++ wait k ∷ b → take (length (stores_of a)) (stores_of os) ≡ stores_of a
first_stores os a b k e = ap (λ (l : List Op). take (length (stores_of a)) (stores_of l)) e ∙ ap (take (length (stores_of a))) (stores_both a (wait k ∷ b)) ∙ take-append_seam (stores_of a) (stores_of b)

pub flat_both : (a b : List (List (ℕ × ℕ))) → flat (a ++ b) ≡ flat a ++ flat b
flat_both [] b = refl
flat_both (ws ∷ a) b = ap (λ (l : List (ℕ × ℕ)). ws ++ l) (flat_both a b) ∙ sym (append_assoc ws (flat a) (flat b))

pub written_both : (a b : List Op) → written (a ++ b) ≡ written a ++ written b
written_both a b = ap flat (stores_both a b) ∙ flat_both (stores_of a) (stores_of b)

-- what a test of two parts says of them
pub both_told : (b c : Bool) → cond b c false ≡ true → (b ≡ true) × (c ≡ true)
both_told true c h = (refl, h)
both_told false c h = absurd (false≢true h)

pub both_true : (b c : Bool) → b ≡ true → c ≡ true → cond b c false ≡ true
both_true b c e h = simp (e, h)

pub neither_told : (b c : Bool) → cond b true c ≡ false → (b ≡ false) × (c ≡ false)
neither_told true c h = absurd (true≢false h)
neither_told false c h = (refl, h)

pub neither : (b c : Bool) → b ≡ false → c ≡ false → cond b true c ≡ false
neither b c e h = simp (e, h)

pub names_both : (q : ℕ) (a b : List (ℕ × ℕ)) → names q a ≡ false → names q b ≡ false → names q (a ++ b) ≡ false
names_both q [] b h k = k
names_both q (w ∷ a) b h k =
    let s = neither_told (eqb q w.0) (names q a) h in neither (eqb q w.0) (names q (a ++ b)) s.0 (names_both q a b s.1 k)

pub names_split : (q : ℕ) (a b : List (ℕ × ℕ)) → names q (a ++ b) ≡ false → (names q a ≡ false) × (names q b ≡ false)
names_split q [] b h = (refl, h)
names_split q (w ∷ a) b h =
    let s = neither_told (eqb q w.0) (names q (a ++ b)) h in
    let t = names_split q a b s.1 in
    (neither (eqb q w.0) (names q a) s.0 t.0, t.1)

pub look_both : (q : ℕ) (a b : List (ℕ × ℕ)) (v : ℕ) → look q (a ++ b) v ≡ look q b (look q a v)
look_both q [] b v = refl
look_both q (w ∷ a) b v = look_both q a b (cond (eqb q w.0) w.1 v)

look_step : (q u : ℕ) (ws : List (ℕ × ℕ)) (v : ℕ) (b : Bool) → b ≡ false → look q ws v ≡ v → look q ws (cond b u v) ≡ v
look_step q u ws v b e h = rw e h

pub look_past : (q : ℕ) (ws : List (ℕ × ℕ)) (v : ℕ) → names q ws ≡ false → look q ws v ≡ v
look_past q [] v h = refl
look_past q (w ∷ ws) v h =
    let s = neither_told (eqb q w.0) (names q ws) h in look_step q w.1 ws v (eqb q w.0) s.0 (look_past q ws v s.1)

-- over a file, whatever its length
pub left_alone : (q : ℕ) (ws : List (ℕ × ℕ)) (f : List ℕ) → names q ws ≡ false → get_or (writes f ws) q 0 ≡ get_or f q 0
left_alone q [] f h = refl
left_alone q (w ∷ ws) f h =
    let s = neither_told (eqb q w.0) (names q ws) h in
    left_alone q ws (set f w.0 w.1) s.1 ∙ get_or-set_other f w.0 q w.1 0 (eqb-false q w.0 s.0)

pub quiet_cut : (q : ℕ) (f : List ℕ) (l : List (List (ℕ × ℕ))) (n : ℕ) → names q (flat l) ≡ false → get_or (applies f (take n l)) q 0 ≡ get_or f q 0
quiet_cut q f [] zero h = refl
quiet_cut q f [] (suc n) h = refl
quiet_cut q f (ws ∷ l) zero h = refl
quiet_cut q f (ws ∷ l) (suc n) h =
    let s = names_split q ws (flat l) h in quiet_cut q (writes f ws) l n s.1 ∙ left_alone q ws f s.0
