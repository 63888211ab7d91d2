-- Document 01, "Request record": what any bytes are read as, and the number of a malformed record.
use Rattle.std.specs.Prelude.{ℕ, cond, List, [], ◌∷◌, ◌++◌, length, replicate, eqb, Result, Ok, Err}
use Rattle.record.specs.Places.{RECORD}
use Rattle.record.specs.Layout.{Found, breach_of}
use Rattle.record.specs.Config.{cfgr_of}
use Rattle.record.specs.declared.Fault.{Fault}
use Rattle.record.specs.declared.Fault.TheVariants.{Length, Reserved, Code, Unasked}
use Rattle.kinds.specs.declared.CFGR.{CFGR}

-- any breach of the layout, or another length, is 14: document 01 gives one number for all of it
abbrev pub number_of : Fault → ℕ
number_of Length = 14
number_of (Reserved at) = 14
number_of (Code at) = 14
number_of (Unasked at) = 14

abbrev pub judged_of : Found → List ℕ → Result CFGR Fault
judged_of (Ok fine) b = Ok (cfgr_of b)
judged_of (Err fault) b = Err fault

-- 64 bytes that breach nothing: their configuration
unfoldable pub read_of : List ℕ → Result CFGR Fault
read_of b = cond (eqb (length b) RECORD) (judged_of (breach_of b) b) (Err Length)

-- the record of the Rust's defaults: M 2, P code 0, Q 2, PLLSAI P code 0, Q 2, PLLI2S R 2, Q 2, MCO codes 0;
-- N 50, PLLSAI N 192, PLLI2S N 192; rest zero
abbrev pub default_record : List ℕ
default_record =
    (0 ∷ 0 ∷ 2 ∷ 0 ∷ 2 ∷ 0 ∷ 2 ∷ 2 ∷ 2 ∷ 0 ∷ 0 ∷ 0 ∷ 0 ∷ 0 ∷ [])
    ++ (50 ∷ 0 ∷ 192 ∷ 0 ∷ 192 ∷ 0 ∷ [])
    ++ replicate 44 0
