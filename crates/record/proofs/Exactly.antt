-- What any bytes are read as: a well-formed record as its configuration, any other as malformed with the lowest breach; by the two ways that looking at the layout ends.
use Prim.Native.Nat.{ℕ}
use mathlib.Core.Path.{◌≡◌, refl, sym, ◌∙◌}
use mathlib.Core.Bool.{Bool, true, false, cond, true≢false}
use mathlib.Core.List.{List}
use mathlib.Core.Logic.{◌↔◌}
use native.Mathlib.Omega.{arith}
use lib.ListN.{length}
use lib.Dec.{eqb}
use borrow.Author.Tests.{eqb-true, eqb-false}
use Rattle.std.specs.Prelude.{Result, Ok, Err}
use Rattle.record.specs.Places.{RECORD}
use Rattle.record.specs.Layout.{Found, Rule, reserved_bits, child, code, blank, number, fault_of, layout, blank_run, blanks, breach_of}
use Rattle.record.specs.Config.{cfgr_of}
use Rattle.record.specs.Reading.{number_of, judged_of, read_of}
use Rattle.record.specs.WellFormed.{WellFormed}
use Rattle.record.specs.Lowest.{Lowest}
use Rattle.kinds.specs.declared.CFGR.{CFGR}
use Rattle.record.specs.declared.Fault.{Fault}
use Rattle.record.specs.declared.Fault.TheVariants.{Length, Reserved, Code, Unasked}
use Rattle.record.proofs.First.{First, kept, breached, first, rising, kept_at}
use Rattle.record.proofs.Kept.{well_formed, layout_kept}

-- the three ways that a reading comes out
data Read (b : List ℕ) : Result CFGR Fault → Type 0 where
  well : WellFormed b → Read b (Ok (cfgr_of b))
  other_length : (length b ≡ RECORD → ⊥) → Read b (Err Length)
  lowest : {fault : Fault} → length b ≡ RECORD → Lowest b layout fault → Read b (Err fault)

-- the layout's rules stand in the order of their offsets
in_order : rising 0 layout ≡ true
unfolding blanks blank_run
in_order = refl

looked_at : (b : List ℕ) → First b layout (breach_of b)
unfolding breach_of
looked_at b = first b 0 layout in_order

judged : (b : List ℕ) {found : Found} → length b ≡ RECORD → First b layout found → Read b (judged_of found b)
judged b whole (kept k) = well (well_formed b whole k)
judged b whole (breached l) = lowest whole l

by_length : (b : List ℕ) (t : Bool) → eqb (length b) RECORD ≡ t → Read b (cond t (judged_of (breach_of b) b) (Err Length))
by_length b true e = judged b (eqb-true _ _ e) (looked_at b)
by_length b false e = other_length (eqb-false _ _ e)

read : (b : List ℕ) → Read b (read_of b)
unfolding read_of
read b = by_length b (eqb (length b) RECORD) refl

-- malformed is no configuration
apart : {c : CFGR} {fault : Fault} → Err fault ≡ Ok c → ⊥
apart e =
    let z : ◌≡◌ {A = ℕ} 0 1 = cc in
    omega arith

-- a rule of the layout that is breached is one that a well-formed record keeps
not_well : (b : List ℕ) {fault : Fault} → Lowest b layout fault → WellFormed b → ⊥
not_well b l w = true≢false (sym (kept_at b layout (layout_kept b w) l.listed) ∙ l.breached)

-- no rule's fault is the length
clash : (r : Rule) → fault_of r ≡ Length → ◌≡◌ {A = ℕ} 0 1
clash reserved_bits e = cc
clash (child bit parent) e = cc
clash (code at last) e = cc
clash (blank at) e = cc
clash (number flag at) e = cc

not_length : (r : Rule) → fault_of r ≡ Length → ⊥
not_length r e =
    let z : ◌≡◌ {A = ℕ} 0 1 = clash r e in
    omega arith

exactly : (b : List ℕ) {r : Result CFGR Fault} → Read b r → (r ≡ Ok (cfgr_of b)) ↔ WellFormed b
exactly b (well w) = (λ e. w, λ w'. refl)
exactly b (other_length n) = (λ e. absurd (apart e), λ w. absurd (n w.whole))
exactly b (lowest whole l) = (λ e. absurd (apart e), λ w. absurd (not_well b l w))

malformed : (b : List ℕ) {r : Result CFGR Fault} → Read b r → (WellFormed b → ⊥) → (fault : Fault) × (r ≡ Err fault)
malformed b (well w) n = absurd (n w)
malformed b (other_length h) n = (_, refl)
malformed b (lowest whole l) n = (_, refl)

named : (b : List ℕ) {r : Result CFGR Fault} {fault : Fault} → Read b r → r ≡ Err fault → length b ≡ RECORD → Lowest b layout fault
named b (well w) e h = absurd (apart (sym e))
named b (other_length n) e h = absurd (n h)
named b {fault = x} (lowest {fault} whole l) e h =
    let p : fault ≡ x = cc in
    rw p at l

length_seen : (b : List ℕ) {r : Result CFGR Fault} → Read b r → (r ≡ Err Length) ↔ (length b ≡ RECORD → ⊥)
length_seen b (well w) = (λ e. absurd (apart (sym e)), λ n. absurd (n w.whole))
length_seen b (other_length n) = (λ e. n, λ n'. refl)
length_seen b (lowest {fault} whole l) =
    (λ e. let p : fault ≡ Length = cc in absurd (not_length l.rule (l.named ∙ p)), λ n. absurd (n whole))

-- bytes are read as the configuration that they hold exactly if they are a well-formed record
pub reads_exactly : (b : List ℕ) → (read_of b ≡ Ok (cfgr_of b)) ↔ WellFormed b
reads_exactly b = exactly b (read b)

-- any other bytes are malformed
pub else_malformed : (b : List ℕ) → (WellFormed b → ⊥) → (fault : Fault) × (read_of b ≡ Err fault)
else_malformed b = malformed b (read b)

-- the length is the fault exactly if it isn't 64
pub length_exactly : (b : List ℕ) → (read_of b ≡ Err Length) ↔ (length b ≡ RECORD → ⊥)
length_exactly b = length_seen b (read b)

-- the fault of 64 bytes is a breach of the layout, and no breach is at a lower offset
pub lowest_named : (b : List ℕ) (fault : Fault) → read_of b ≡ Err fault → length b ≡ RECORD → Lowest b layout fault
lowest_named b fault = named b (read b)

-- whatever the breach, its number is 14
pub malformed_14 : (fault : Fault) → number_of fault ≡ 14
malformed_14 Length = refl
malformed_14 (Reserved at) = refl
malformed_14 (Code at) = refl
malformed_14 (Unasked at) = refl
