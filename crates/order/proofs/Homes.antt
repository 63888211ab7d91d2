-- Each section of the list has places of its own; sections that write no others are joined one by one, from the last to the first.
use Prim.Native.Nat.{ℕ, ◌<◌}
use native.Mathlib.Omega.{arith}
use mathlib.Core.Path.{◌≡◌, refl, sym, ◌∙◌, ap}
use mathlib.Core.Bool.{Bool, true, false, cond, true≢false, false≢true}
use mathlib.Core.List.{List, [], ◌∷◌, ◌++◌}
use lib.Dec.{eqb, ltb}
use lib.ListN.{length, get_or, drop}
use borrow.Author.Tests.{eqb-true, ltb-true, ne_eqb}
use Rattle.order.specs.Places.{PLACES, HSION, HSEBYP, HSEON, PLLON, PLLSAION, PLLI2SON, SW, MCO1, MCO1PRE, MCO2, MCO2PRE, PPRE1, PPRE2, HPRE, PLLM, PLLN, PLLP, PLLQ, PLLSRC, PWREN, VOS, ODEN, ODSWEN, LSEBYP, LSEON, LSION, PLLSAIN, PLLSAIP, PLLSAIQ, CK48MSEL, PLLI2SN, PLLI2SR, PLLI2SQ, LATENCY, OTHER}
use Rattle.order.specs.Files.{writes}
use Rattle.order.specs.Order.{Op, hsi_ops}
use Rattle.order.specs.Fields.{hsi_fields, names, Holds}
use Rattle.order.proofs.Restart.{look, at_writes}
use Rattle.order.proofs.Looks.{written, written_both, both_told, both_true, neither, neither_told, names_both, names_split, look_both, look_past}

-- ---- the places of each section; SW, which the first names too, is the last one's
abbrev pub hsi_places : List ℕ
hsi_places = HSION ∷ []

abbrev pub hse_places : List ℕ
hse_places = HSEBYP ∷ HSEON ∷ []

abbrev pub pll_places : List ℕ
pll_places = PLLON ∷ PLLM ∷ PLLN ∷ PLLP ∷ PLLQ ∷ PLLSRC ∷ PWREN ∷ VOS ∷ ODEN ∷ ODSWEN ∷ []

abbrev pub lse_places : List ℕ
lse_places = LSEBYP ∷ LSEON ∷ []

abbrev pub lsi_places : List ℕ
lsi_places = LSION ∷ []

abbrev pub sai_places : List ℕ
sai_places = PLLSAIN ∷ PLLSAIP ∷ PLLSAIQ ∷ PLLSAION ∷ []

abbrev pub choice_places : List ℕ
choice_places = CK48MSEL ∷ []

abbrev pub i2s_places : List ℕ
i2s_places = PLLI2SN ∷ PLLI2SR ∷ PLLI2SQ ∷ PLLI2SON ∷ []

abbrev pub last_places : List ℕ
last_places = MCO1 ∷ MCO1PRE ∷ MCO2 ∷ MCO2PRE ∷ LATENCY ∷ OTHER ∷ PPRE1 ∷ PPRE2 ∷ HPRE ∷ SW ∷ []

-- ---- tests
-- whether q is one of the places P
abbrev pub has_place : ℕ → List ℕ → Bool
has_place q [] = false
has_place q (p ∷ P) = cond (eqb q p) true (has_place q P)

-- no place of P is one of Q
abbrev pub apart : List ℕ → List ℕ → Bool
apart [] Q = true
apart (p ∷ P) Q = cond (has_place p Q) false (apart P Q)

-- every place is one of the file's
abbrev pub below : List ℕ → Bool
below [] = true
below (p ∷ P) = cond (ltb p PLACES) (below P) false

-- every place named is one of P
abbrev among : List ℕ → List (ℕ × ℕ) → Bool
among P [] = true
among P (w ∷ ws) = cond (has_place w.0 P) (among P ws) false

-- every place written is among the fields
abbrev covers : List (ℕ × ℕ) → List (ℕ × ℕ) → Bool
covers [] F = true
covers (w ∷ W) F = cond (names w.0 F) (covers W F) false

-- the writes leave each field at its value, whatever stood there
abbrev Makes : List (ℕ × ℕ) → List (ℕ × ℕ) → Type 0
Makes W [] = Unit
Makes W (w ∷ F) = ((v : ℕ) → look w.0 W v ≡ w.1) × Makes W F

-- the fields, each with what the writes leave at its place where v stood before
abbrev seen : List (ℕ × ℕ) → ℕ → List (ℕ × ℕ) → List (ℕ × ℕ)
seen W v [] = []
seen W v (w ∷ F) = (w.0, look w.0 W v) ∷ seen W v F

-- ---- a section, and the list from a section on
-- what one section of the list writes, its places being P, and the fields that it leaves at their values
pub record Section (P : List ℕ) (os : List Op) (F : List (ℕ × ℕ)) : Type 0 where
  pub inside : among P (written os) ≡ true
  pub fields : among P F ≡ true
  pub makes : (v : ℕ) → seen (written os) v F ≡ F
  pub only : covers (written os) F ≡ true

-- the list from some section on to its end: SW is one of its fields
pub record Rest (P : List ℕ) (os : List Op) (F : List (ℕ × ℕ)) : Type 0 where
  pub inside : among P (written os) ≡ true
  pub fields : among P F ≡ true
  pub makes : Makes (written os) F
  pub only : (q : ℕ) → names q F ≡ false → names q (written os) ≡ false
  pub switch : names SW F ≡ true

-- the whole list
pub record Whole (P : List ℕ) (os : List Op) (F : List (ℕ × ℕ)) : Type 0 where
  pub fields : among P F ≡ true
  pub makes : Makes (written os) F
  pub only : (q : ℕ) → names q F ≡ false → names q (written os) ≡ false

pub empty : {P : List ℕ} → Section P [] []
empty = record { inside = refl; fields = refl; makes = λ v. refl; only = refl }

-- ---- places
-- of two tests, one that holds
first_kept : (b c d : Bool) → (c ≡ true → d ≡ true) → cond b true c ≡ true → cond b true d ≡ true
first_kept true c d h e = refl
first_kept false c d h e = h e

second_held : (b c : Bool) → c ≡ true → cond b true c ≡ true
second_held true c h = refl
second_held false c h = h

has_first : (q : ℕ) (P Q : List ℕ) → has_place q P ≡ true → has_place q (P ++ Q) ≡ true
has_first q [] Q h = absurd (false≢true h)
has_first q (p ∷ P) Q h = first_kept (eqb q p) (has_place q P) (has_place q (P ++ Q)) (λ i. has_first q P Q i) h

has_second : (q : ℕ) (P Q : List ℕ) → has_place q Q ≡ true → has_place q (P ++ Q) ≡ true
has_second q [] Q h = h
has_second q (p ∷ P) Q h = second_held (eqb q p) (has_place q (P ++ Q)) (has_second q P Q h)

among_first : (P Q : List ℕ) (W : List (ℕ × ℕ)) → among P W ≡ true → among (P ++ Q) W ≡ true
among_first P Q [] h = refl
among_first P Q (w ∷ W) h =
    let s = both_told (has_place w.0 P) (among P W) h in
    both_true (has_place w.0 (P ++ Q)) (among (P ++ Q) W) (has_first w.0 P Q s.0) (among_first P Q W s.1)

among_second : (P Q : List ℕ) (W : List (ℕ × ℕ)) → among Q W ≡ true → among (P ++ Q) W ≡ true
among_second P Q [] h = refl
among_second P Q (w ∷ W) h =
    let s = both_told (has_place w.0 Q) (among Q W) h in
    both_true (has_place w.0 (P ++ Q)) (among (P ++ Q) W) (has_second w.0 P Q s.0) (among_second P Q W s.1)

among_both : (P : List ℕ) (a b : List (ℕ × ℕ)) → among P a ≡ true → among P b ≡ true → among P (a ++ b) ≡ true
among_both P [] b h k = k
among_both P (w ∷ a) b h k =
    let s = both_told (has_place w.0 P) (among P a) h in both_true (has_place w.0 P) (among P (a ++ b)) s.0 (among_both P a b s.1 k)

-- both sections' places
among_join : (P Q : List ℕ) (a b : List (ℕ × ℕ)) → among P a ≡ true → among Q b ≡ true → among (P ++ Q) (a ++ b) ≡ true
among_join P Q a b h k = among_both (P ++ Q) a b (among_first P Q a h) (among_second P Q b k)

-- a place of P is none of Q
not_both : (q : ℕ) (P Q : List ℕ) → apart P Q ≡ true → has_place q P ≡ true → has_place q Q ≡ false
not_both q [] Q a h = absurd (false≢true h)
not_both q (p ∷ P) Q a h = by (eqb q p) refl h (has_place p Q) refl a (λ i j. not_both q P Q i j)
  where
    by : (b : Bool) → eqb q p ≡ b → cond b true (has_place q P) ≡ true → (c : Bool) → has_place p Q ≡ c → cond c false (apart P Q) ≡ true
        → (apart P Q ≡ true → has_place q P ≡ true → has_place q Q ≡ false) → has_place q Q ≡ false
    by b e h true i a ih = absurd (false≢true a)
    by true e h false i a ih = ap (λ (t : ℕ). has_place t Q) (eqb-true q p e) ∙ i
    by false e h false i a ih = ih a h

-- a place that is none of P is not written by what writes P alone
elsewhere : (q : ℕ) (P : List ℕ) (W : List (ℕ × ℕ)) → has_place q P ≡ false → among P W ≡ true → names q W ≡ false
elsewhere q P [] n h = refl
elsewhere q P (w ∷ W) n h =
    let s = both_told (has_place w.0 P) (among P W) h in
    neither (eqb q w.0) (names q W) (ne_eqb q w.0 (λ (k : q ≡ w.0). true≢false (sym s.0 ∙ sym (ap (λ (t : ℕ). has_place t P) k) ∙ n))) (elsewhere q P W n s.1)

pub not_here : {P : List ℕ} {os : List Op} {F : List (ℕ × ℕ)} (q : ℕ) → has_place q P ≡ false → Section P os F → names q (written os) ≡ false
not_here {P} {os} q n s = elsewhere q P (written os) n s.inside

in_file : (q : ℕ) (P : List ℕ) → below P ≡ true → has_place q P ≡ true → q < PLACES
in_file q [] b h = absurd (false≢true h)
in_file q (p ∷ P) b h =
    let s = both_told (ltb p PLACES) (below P) b in by (eqb q p) refl h (ltb-true p PLACES s.0) (λ i. in_file q P s.1 i)
  where
    by : (c : Bool) → eqb q p ≡ c → cond c true (has_place q P) ≡ true → p < PLACES → (has_place q P ≡ true → q < PLACES) → q < PLACES
    by true e i l ih = rw (eqb-true q p e) l
    by false e i l ih = ih i

-- ---- fields
made : (W F : List (ℕ × ℕ)) → ((v : ℕ) → seen W v F ≡ F) → Makes W F
made W [] h = tt
made W (w ∷ F) h = (λ v. ap (λ (l : List (ℕ × ℕ)). (get_or l 0 (0, 0)).1) (h v), made W F (λ v. ap (drop 1) (h v)))

-- what is written last stands
makes_after : (a b F : List (ℕ × ℕ)) → Makes b F → Makes (a ++ b) F
makes_after a b [] m = tt
makes_after a b (w ∷ F) m = (λ v. look_both w.0 a b v ∙ m.0 (look w.0 a v), makes_after a b F m.1)

-- and what is written before stands where it is not written again
makes_before : (P Q : List ℕ) (a b F : List (ℕ × ℕ)) → apart P Q ≡ true → among P F ≡ true → among Q b ≡ true → Makes a F → Makes (a ++ b) F
makes_before P Q a b [] n u h m = tt
makes_before P Q a b (w ∷ F) n u h m =
    let s = both_told (has_place w.0 P) (among P F) u in
    let k = elsewhere w.0 Q b (not_both w.0 P Q n s.0) h in
    (λ v. look_both w.0 a b v ∙ look_past w.0 b (look w.0 a v) k ∙ m.0 v, makes_before P Q a b F n s.1 h m.1)

makes_both : (W F G : List (ℕ × ℕ)) → Makes W F → Makes W G → Makes W (F ++ G)
makes_both W [] G m n = n
makes_both W (w ∷ F) G m n = (m.0, makes_both W F G m.1 n)

covered : (q : ℕ) (W F : List (ℕ × ℕ)) → covers W F ≡ true → names q F ≡ false → names q W ≡ false
covered q [] F c h = refl
covered q (w ∷ W) F c h =
    let s = both_told (names w.0 F) (covers W F) c in
    neither (eqb q w.0) (names q W) (ne_eqb q w.0 (λ (k : q ≡ w.0). true≢false (sym s.0 ∙ sym (ap (λ (t : ℕ). names t F) k) ∙ h)))
    (covered q W F s.1 h)

names_second : (q : ℕ) (F G : List (ℕ × ℕ)) → names q G ≡ true → names q (F ++ G) ≡ true
names_second q [] G h = h
names_second q (w ∷ F) G h = second_held (eqb q w.0) (names q (F ++ G)) (names_second q F G h)

-- a place that is no field is none of those that are
another : (q p : ℕ) (F : List (ℕ × ℕ)) → names p F ≡ true → names q F ≡ false → eqb q p ≡ false
another q p F h n = ne_eqb q p (λ (e : q ≡ p). true≢false (sym h ∙ sym (ap (λ (t : ℕ). names t F) e) ∙ n))

-- ---- sections joined
pub ends : {P : List ℕ} {os : List Op} {F : List (ℕ × ℕ)} → Section P os F → names SW F ≡ true → Rest P os F
ends {P} {os} {F} s n =
    record { inside = s.inside; fields = s.fields; makes = made (written os) F s.makes; only = λ q h. covered q (written os) F s.only h; switch = n }

pub then : {P Q : List ℕ} {os ps : List Op} {F G : List (ℕ × ℕ)} → Section P os F → Rest Q ps G → apart P Q ≡ true → Rest (P ++ Q) (os ++ ps) (F ++ G)
then {P} {Q} {os} {ps} {F} {G} s r n =
    record {
      inside = rw (written_both os ps) (among_join P Q (written os) (written ps) s.inside r.inside);
      fields = among_join P Q F G s.fields r.fields;
      makes = rw (written_both os ps)
          (makes_both (written os ++ written ps) F G
          (makes_before P Q (written os) (written ps) F n s.fields r.inside (made (written os) F s.makes))
          (makes_after (written os) (written ps) G r.makes));
      only = λ q h. let t = names_split q F G h in rw (written_both os ps) (names_both q (written os) (written ps) (covered q (written os) F s.only t.0) (r.only q t.1));
      switch = names_second SW F G r.switch;
    }

-- HSION and SW = HSI come first, and SW is stored again
pub begins : {Q : List ℕ} {ps : List Op} {G : List (ℕ × ℕ)} → Rest Q ps G → has_place HSION Q ≡ false → Whole (hsi_places ++ Q) (hsi_ops ++ ps) (hsi_fields ++ G)
begins {Q} {ps} {G} r n =
    record {
      fields = among_join hsi_places Q hsi_fields G refl r.fields;
      makes = (λ v. look_past HSION (written ps) 1 (elsewhere HSION Q (written ps) n r.inside), makes_after (written hsi_ops) (written ps) G r.makes);
      only = λ q h. let s = neither_told (eqb q HSION) (names q G) h in
          neither (eqb q HSION) (cond (eqb q SW) true (names q (written ps))) s.0
          (neither (eqb q SW) (names q (written ps)) (another q SW G r.switch s.1) (r.only q s.1));
    }

-- over a file, all the writes leave each field at its value
pub holds : (P : List ℕ) (W F : List (ℕ × ℕ)) (f : List ℕ) → length f ≡ PLACES → below P ≡ true → among P F ≡ true → Makes W F → Holds F (writes f W)
holds P W [] f l b u m = tt
holds P W (w ∷ F) f l b u m =
    let s = both_told (has_place w.0 P) (among P F) u in
    let k = in_file w.0 P b s.0 in
    (at_writes f W w.0 (omega (arith, l, k)) ∙ m.0 (get_or f w.0 0), holds P W F f l b s.1 m.1)
