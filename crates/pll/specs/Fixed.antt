-- Document 01, "Fixed point": r(d), the VCO, an output, and what settings as they stand give.
use Rattle.std.specs.Prelude.{ℕ, ◌+◌, ◌*◌, ◌/◌, ◌≤◌, Bool, cond, ◌&&◌, leb, Result, Ok, Err}
use Rattle.kinds.specs.Table.{Between}
use Rattle.kinds.specs.declared.refusals.Refusal.{Refusal}
use Rattle.kinds.specs.declared.refusals.Refusal.TheVariants.{Hse, Settings}

-- x lies between lo and hi, the ends included
abbrev pub inside : ℕ → ℕ → ℕ → Bool
inside lo hi x = leb lo x && leb x hi

-- the input is in 1 to 50 MHz
abbrev pub InputOk : ℕ → Type 0
InputOk f = Between 1000000 50000000 f

-- M is in 2..63, N in 50..432 and the output's divider in 2..15
pub record SettingsOk (m n d : ℕ) : Type 0 where
  pub m_low : 2 ≤ m
  pub m_high : m ≤ 63
  pub n_low : 50 ≤ n
  pub n_high : n ≤ 432
  pub d_low : 2 ≤ d
  pub d_high : d ≤ 15

-- r(d) = floor((floor(2^31 / d) + 1) / 2)
unfoldable pub recip_of : ℕ → ℕ
recip_of d = (2147483648 / d + 1) / 2

-- the VCO of input f: 16 × floor(b × N × r(M) / 2^30), with b = floor(f/16)
unfoldable pub vco_of : ℕ → ℕ → ℕ → ℕ
vco_of f n m = 16 * (f / 16 * n * recip_of m / 1073741824)

-- an output with divider d: 16 × floor(V × r(d) / 2^30), of a VCO 16 × V
unfoldable pub out_of : ℕ → ℕ → ℕ
out_of v d = 16 * (v / 16 * recip_of d / 1073741824)

-- the output of settings as they stand: 1 for an input outside 1 to 50 MHz, 6 for M outside 2..63, N outside 50..432 or d outside 2..15
unfoldable pub output_of : ℕ → ℕ → ℕ → ℕ → Result ℕ Refusal
output_of f m n d =
    cond (inside 1000000 50000000 f)
    (cond (inside 2 63 m && inside 50 432 n && inside 2 15 d) (Ok (out_of (vco_of f n m) d)) (Err Settings))
    (Err Hse)
