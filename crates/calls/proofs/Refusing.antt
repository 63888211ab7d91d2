-- A setter that refuses hands back the configuration it came with, whichever setter: each that may refuse by one law, and the others never do.
use Prim.Native.Nat.{ℕ}
use mathlib.Core.Path.{◌≡◌, refl}
use mathlib.Core.Bool.{Bool, true, false, cond}
use lib.Dec.{eqb}
use Rattle.std.specs.Prelude.{Ok, Err}
use Rattle.kinds.specs.Refusals.{refusal_of}
use Rattle.kinds.specs.Setters.{Setting, handed, setting_number, setting_of}
use Rattle.calls.specs.Calls.{call_setting}
use Rattle.kinds.specs.declared.CFGR.{CFGR}
use Rattle.calls.specs.declared.Setter.{Setter}
use Rattle.calls.specs.declared.Setter.TheVariants.{Hse, Hclk, Sysclk, Pclk1, Pclk2, Lse, Lsi, UsePll, UsePll48clk, Pllm, Plln, Pllp, Pllq, UsePllsai, Pllsain, Pllsaip, Pllsaiq, UsePlli2s, Plli2sn, Plli2sq, Plli2sr, Mco1, Mco1pre, Mco2, Mco2pre, SetDefaults}

-- a setter's answer, by whether its number is 0
abbrev answer : ℕ → CFGR → CFGR → Bool → Setting
answer n c d t = cond t (Ok d) (Err (record { refusal = refusal_of n; cfgr = c }))

refused : (n : ℕ) (c d : CFGR) → (setting_number (setting_of n c d) ≡ 0 → ⊥) → handed (setting_of n c d) ≡ c
unfolding setting_of
refused n c d h = at (eqb n 0) h
  where
    at : (t : Bool) → (setting_number (answer n c d t) ≡ 0 → ⊥) → handed (answer n c d t) ≡ c
    at true h = absurd (h refl)
    at false h = refl

-- whatever the configuration and the call: a number that isn't 0 comes with the configuration as it came
pub refused_keeps : (c : CFGR) (s : Setter) → (setting_number (call_setting c s) ≡ 0 → ⊥) → handed (call_setting c s) ≡ c
unfolding call_setting
refused_keeps c (Hse x y) h = refused _ _ _ h
refused_keeps c (Hclk x) h = refused _ _ _ h
refused_keeps c (Sysclk x) h = refused _ _ _ h
refused_keeps c (Pclk1 x) h = refused _ _ _ h
refused_keeps c (Pclk2 x) h = refused _ _ _ h
refused_keeps c (Lse x) h = absurd (h refl)
refused_keeps c Lsi h = absurd (h refl)
refused_keeps c UsePll h = absurd (h refl)
refused_keeps c (UsePll48clk x) h = absurd (h refl)
refused_keeps c (Pllm x) h = refused _ _ _ h
refused_keeps c (Plln x) h = refused _ _ _ h
refused_keeps c (Pllp x) h = absurd (h refl)
refused_keeps c (Pllq x) h = refused _ _ _ h
refused_keeps c UsePllsai h = absurd (h refl)
refused_keeps c (Pllsain x) h = refused _ _ _ h
refused_keeps c (Pllsaip x) h = absurd (h refl)
refused_keeps c (Pllsaiq x) h = refused _ _ _ h
refused_keeps c UsePlli2s h = absurd (h refl)
refused_keeps c (Plli2sn x) h = refused _ _ _ h
refused_keeps c (Plli2sq x) h = refused _ _ _ h
refused_keeps c (Plli2sr x) h = refused _ _ _ h
refused_keeps c (Mco1 x) h = absurd (h refl)
refused_keeps c (Mco1pre x) h = absurd (h refl)
refused_keeps c (Mco2 x) h = absurd (h refl)
refused_keeps c (Mco2pre x) h = absurd (h refl)
refused_keeps c SetDefaults h = refused _ _ _ h
