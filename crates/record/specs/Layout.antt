-- Document 01, "Request record": the rules that a record of 64 bytes keeps, and the first of them that it breaches.
use Rattle.std.specs.Prelude.{ℕ, zero, suc, ◌+◌, ◌-◌, Bool, true, false, not, ◌||◌, List, [], ◌∷◌, ◌++◌, get_or, eqb, ltb, leb, Result, Ok, Err}
use Rattle.record.specs.Numbers.{u16_at, u32_at, flag_at}
use Rattle.record.specs.Places.{hse_flag, hse_bypass_flag, hclk_flag, sysclk_flag, pclk1_flag, pclk2_flag, lse_flag, lse_bypass_flag, choice48_flag, choice_pllsai_flag}
use Rattle.record.specs.Places.{RECORD, p_at, pllsai_p_at, mco1_at, mco1pre_at, mco2_at, mco2pre_at, hse_at, hclk_at, sysclk_at, pclk1_at, pclk2_at}
use Rattle.record.specs.declared.Fault.{Fault}
use Rattle.record.specs.declared.Fault.TheVariants.{Reserved, Code, Unasked}

-- what the rules looked at so far have shown: nothing, or the first breach
abbrev pub Found : Type 0
Found = Result (Unit {0}) Fault

-- the kinds of rule
pub data Rule : Type 0 where
  reserved_bits : Rule  -- bits 14, 15 of the flags are zero
  child : ℕ → ℕ → Rule  -- the first flag needs the second, its parent
  code : ℕ → ℕ → Rule  -- the byte at an offset is a code of 0 to the last
  blank : ℕ → Rule  -- the byte at an offset is zero
  number : ℕ → ℕ → Rule  -- without the flag, the u32 at the offset is zero

-- the bytes from one offset to before another are zero
unfoldable pub blank_run : ℕ → ℕ → List Rule
blank_run at zero = []
blank_run at (suc n) = blank at ∷ blank_run (at + 1) n

unfoldable pub blanks : ℕ → ℕ → List Rule
blanks from end = blank_run from (end - from)

-- Byte 0: bits 14, 15 zero; a bypass or PLLSAI-choice bit needs its parent
abbrev pub flag_rules : List Rule
flag_rules =
    reserved_bits
    ∷ child hse_bypass_flag hse_flag
    ∷ child lse_bypass_flag lse_flag
    ∷ child choice_pllsai_flag choice48_flag
    ∷ []

-- Bytes 2 to 12: P codes 0..3, MCO 0..3, MCOPRE 0..4 (M, Q, R take any byte); 13 zero
abbrev pub byte_rules : List Rule
byte_rules =
    code p_at 3
    ∷ code pllsai_p_at 3
    ∷ code mco1_at 3
    ∷ code mco1pre_at 4
    ∷ code mco2_at 3
    ∷ code mco2pre_at 4
    ∷ blank 13
    ∷ []

-- u32 at 20, 24, 28, 32, 36: one whose flag is off is zero (u16 at 14, 16, 18 take any number)
abbrev pub number_rules : List Rule
number_rules =
    number hse_flag hse_at
    ∷ number hclk_flag hclk_at
    ∷ number sysclk_flag sysclk_at
    ∷ number pclk1_flag pclk1_at
    ∷ number pclk2_flag pclk2_at
    ∷ []

-- the whole layout, in the order of the offsets; 40 to 63 zero
abbrev pub layout : List Rule
layout = flag_rules ++ byte_rules ++ number_rules ++ blanks 40 RECORD

-- whether the bytes keep a rule
abbrev pub keeps : List ℕ → Rule → Bool
keeps b reserved_bits = ltb (u16_at b 0) 16384
keeps b (child bit parent) = not (flag_at b bit) || flag_at b parent
keeps b (code at last) = leb (get_or b at 0) last
keeps b (blank at) = eqb (get_or b at 0) 0
keeps b (number flag at) = flag_at b flag || eqb (u32_at b at) 0

-- the offset of a rule: that of its number's first byte
abbrev pub offset_of : Rule → ℕ
offset_of reserved_bits = 0
offset_of (child bit parent) = 0
offset_of (code at last) = at
offset_of (blank at) = at
offset_of (number flag at) = at

-- the fault of a record that breaches it
abbrev pub fault_of : Rule → Fault
fault_of reserved_bits = Reserved 0
fault_of (child bit parent) = Unasked 0
fault_of (code at last) = Code at
fault_of (blank at) = Reserved at
fault_of (number flag at) = Unasked at

-- a breach found before stands; else a rule that isn't kept is the first
abbrev pub noted : Found → Bool → Fault → Found
noted (Ok fine) true fault = Ok fine
noted (Ok fine) false fault = Err fault
noted (Err first) kept fault = Err first

unfoldable pub looked : List ℕ → Found → Rule → Found
looked b found r = noted found (keeps b r) (fault_of r)

abbrev pub breach_from : List ℕ → Found → List Rule → Found
breach_from b found [] = found
breach_from b found (r ∷ rs) = breach_from b (looked b found r) rs

-- the first rule of the layout that the bytes breach
unfoldable pub breach_of : List ℕ → Found
breach_of b = breach_from b (Ok tt) layout
