-- Little-endian numbers and flags of a list of bytes.
use Rattle.std.specs.Prelude.{ℕ, ◌+◌, ◌*◌, ◌/◌, ◌%◌, Bool, List, get_or, eqb}

unfoldable pub u16_at : List ℕ → ℕ → ℕ
u16_at b at = get_or b at 0 + 256 * get_or b (at + 1) 0

unfoldable pub u32_at : List ℕ → ℕ → ℕ
u32_at b at = u16_at b at + 65536 * u16_at b (at + 2)

-- whether the flag whose bit has this value, a power of two, is on in the u16 at byte 0
unfoldable pub flag_at : List ℕ → ℕ → Bool
flag_at b value = eqb (u16_at b 0 / value % 2) 1
