-- The codes of a record are the codes that kinds gives: reading the code of a value gives the value, and what kinds reads a number as is what the record's table reads.
use Prim.Native.Nat.{ℕ}
use mathlib.Core.Path.{◌≡◌, refl, sym, subst}
use Rattle.std.specs.Prelude.{Result, Ok, Err}
use Rattle.kinds.specs.Codes.{Decodes}
use Rattle.kinds.specs.Codes.{pllp_code, mco1_code, mco2_code, mcopre_code}
use Rattle.kinds.specs.declared.codes.UnknownCode.{UnknownCode}
use borrow.Author.Tests.{ne_eqb}
use Rattle.kinds.specs.declared.PLLP.{PLLP}
use Rattle.kinds.specs.declared.PLLP.TheVariants.{Div2 as PDiv2, Div4 as PDiv4, Div6, Div8}
use Rattle.kinds.specs.declared.MCO1.{MCO1}
use Rattle.kinds.specs.declared.MCO1.TheVariants.{Hsi, Lse, Hse as Mco1Hse, Pll as Mco1Pll}
use Rattle.kinds.specs.declared.MCO2.{MCO2}
use Rattle.kinds.specs.declared.MCO2.TheVariants.{Sysclk, Plli2s, Hse as Mco2Hse, Pll as Mco2Pll}
use Rattle.kinds.specs.declared.MCOPRE.{MCOPRE}
use Rattle.kinds.specs.declared.MCOPRE.TheVariants.{Div1, Div2, Div3, Div4, Div5}
use Rattle.record.specs.Config.{Coded, read, unread, p_of, mco1_of, mco2_of, mcopre_of}

-- P: 0..3
pub p_read : (p : PLLP) → p_of (pllp_code p) ≡ p
unfolding p_of
p_read PDiv2 = refl
p_read PDiv4 = refl
p_read Div6 = refl
p_read Div8 = refl

-- MCO1: 0..3
pub mco1_read : (m : MCO1) → mco1_of (mco1_code m) ≡ m
unfolding mco1_of
mco1_read Hsi = refl
mco1_read Lse = refl
mco1_read Mco1Hse = refl
mco1_read Mco1Pll = refl

-- MCO2: 0..3
pub mco2_read : (m : MCO2) → mco2_of (mco2_code m) ≡ m
unfolding mco2_of
mco2_read Sysclk = refl
mco2_read Plli2s = refl
mco2_read Mco2Hse = refl
mco2_read Mco2Pll = refl

-- MCOPRE: 0..4
pub mcopre_read : (d : MCOPRE) → mcopre_of (mcopre_code d) ≡ d
unfolding mcopre_of
mcopre_read Div1 = refl
mcopre_read Div2 = refl
mcopre_read Div3 = refl
mcopre_read Div4 = refl
mcopre_read Div5 = refl

-- what kinds reads a code as, the table does, and what kinds finds no value for, the table reads as its last
pub p_coded : (n : ℕ) (p : PLLP) → Coded (Decodes pllp_code) n Div8 p → p ≡ p_of n
unfolding p_of
p_coded n p (read e) = subst (λ k. p ≡ p_of k) e (sym (p_read p))
p_coded n _ (unread none) = simp (ne_eqb n 0 (λ q. none.1 PDiv2 (sym q)), ne_eqb n 1 (λ q. none.1 PDiv4 (sym q)), ne_eqb n 2 (λ q. none.1 Div6 (sym q)))

pub mco1_coded : (n : ℕ) (m : MCO1) → Coded (Decodes mco1_code) n Mco1Pll m → m ≡ mco1_of n
unfolding mco1_of
mco1_coded n m (read e) = subst (λ k. m ≡ mco1_of k) e (sym (mco1_read m))
mco1_coded n _ (unread none) = simp (ne_eqb n 0 (λ q. none.1 Hsi (sym q)), ne_eqb n 1 (λ q. none.1 Lse (sym q)), ne_eqb n 2 (λ q. none.1 Mco1Hse (sym q)))

pub mco2_coded : (n : ℕ) (m : MCO2) → Coded (Decodes mco2_code) n Mco2Pll m → m ≡ mco2_of n
unfolding mco2_of
mco2_coded n m (read e) = subst (λ k. m ≡ mco2_of k) e (sym (mco2_read m))
mco2_coded n _ (unread none) = simp (ne_eqb n 0 (λ q. none.1 Sysclk (sym q)), ne_eqb n 1 (λ q. none.1 Plli2s (sym q)), ne_eqb n 2 (λ q. none.1 Mco2Hse (sym q)))

pub mcopre_coded : (n : ℕ) (d : MCOPRE) → Coded (Decodes mcopre_code) n Div5 d → d ≡ mcopre_of n
unfolding mcopre_of
mcopre_coded n d (read e) = subst (λ k. d ≡ mcopre_of k) e (sym (mcopre_read d))
mcopre_coded n _ (unread none) = simp (ne_eqb n 0 (λ q. none.1 Div1 (sym q)), ne_eqb n 1 (λ q. none.1 Div2 (sym q)), ne_eqb n 2 (λ q. none.1 Div3 (sym q)), ne_eqb n 3 (λ q. none.1 Div4 (sym q)))

-- what a code reads as, by what kinds answers
pub value_read : {T : Type 0} (gives : ℕ → Result T UnknownCode → Type 0) (n : ℕ) (last x : T) (r : Result T UnknownCode) → gives n r → r ≡ Ok x → Coded gives n last x
value_read gives n last x r g e = read (subst (gives n) e g)

pub last_read : {T : Type 0} (gives : ℕ → Result T UnknownCode → Type 0) (n : ℕ) (last : T) (e : UnknownCode) (r : Result T UnknownCode) → gives n r → r ≡ Err e → Coded gives n last last
last_read gives n last e r g q = unread (subst (gives n) q g)
