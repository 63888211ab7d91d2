-- Document 01, "Derived clocks": the rows of HPRE and PPRE, each a divider and the field code that selects it.
use Rattle.std.specs.Prelude.{ℕ, cond, nat_le}

pub record Row : Type 0 where
  pub divider : ℕ
  pub code : ℕ

abbrev pub row : ℕ → ℕ → Row
row d k = record { divider = d; code = k }

-- 1: 1, 0; 2: 2, 8; 3..5: 4, 9; 6..11: 8, 10; 12..39: 16, 11; 40..95: 64, 12; 96..191: 128, 13; 192..383: 256, 14; above: 512, 15
unfoldable pub hpre_row : ℕ → Row
hpre_row r =
    cond (nat_le r 1) (row 1 0)
    (cond (nat_le r 2) (row 2 8)
    (cond (nat_le r 5) (row 4 9)
    (cond (nat_le r 11) (row 8 10)
    (cond (nat_le r 39) (row 16 11)
    (cond (nat_le r 95) (row 64 12)
    (cond (nat_le r 191) (row 128 13)
    (cond (nat_le r 383) (row 256 14)
    (row 512 15))))))))

-- 1: 1, 0; 2: 2, 4; 3..6: 4, 5; 7..12: 8, 6; above: 16, 7
unfoldable pub ppre_row : ℕ → Row
ppre_row r =
    cond (nat_le r 1) (row 1 0)
    (cond (nat_le r 2) (row 2 4)
    (cond (nat_le r 6) (row 4 5)
    (cond (nat_le r 12) (row 8 6)
    (row 16 7))))
