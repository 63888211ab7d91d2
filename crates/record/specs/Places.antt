-- Document 01, "Request record": its length, the flags and where each value stands, in its order.
use Rattle.std.specs.Prelude.{ℕ}

-- how many bytes a record has
abbrev pub RECORD : ℕ
RECORD = 64

-- byte 0, u16 flags from bit 0, each by its bit's value; bits 14, 15 zero
abbrev pub hse_flag : ℕ
hse_flag = 1

abbrev pub hse_bypass_flag : ℕ
hse_bypass_flag = 2

abbrev pub hclk_flag : ℕ
hclk_flag = 4

abbrev pub sysclk_flag : ℕ
sysclk_flag = 8

abbrev pub pclk1_flag : ℕ
pclk1_flag = 16

abbrev pub pclk2_flag : ℕ
pclk2_flag = 32

abbrev pub lse_flag : ℕ
lse_flag = 64

abbrev pub lse_bypass_flag : ℕ
lse_bypass_flag = 128

abbrev pub lsi_flag : ℕ
lsi_flag = 256

abbrev pub use_pll_flag : ℕ
use_pll_flag = 512

abbrev pub choice48_flag : ℕ
choice48_flag = 1024

abbrev pub choice_pllsai_flag : ℕ
choice_pllsai_flag = 2048

abbrev pub pllsai_flag : ℕ
pllsai_flag = 4096

abbrev pub plli2s_flag : ℕ
plli2s_flag = 8192

-- bytes 2 to 12; 13 zero
abbrev pub m_at : ℕ
m_at = 2

abbrev pub p_at : ℕ
p_at = 3

abbrev pub q_at : ℕ
q_at = 4

abbrev pub pllsai_p_at : ℕ
pllsai_p_at = 5

abbrev pub pllsai_q_at : ℕ
pllsai_q_at = 6

abbrev pub plli2s_r_at : ℕ
plli2s_r_at = 7

abbrev pub plli2s_q_at : ℕ
plli2s_q_at = 8

abbrev pub mco1_at : ℕ
mco1_at = 9

abbrev pub mco1pre_at : ℕ
mco1pre_at = 10

abbrev pub mco2_at : ℕ
mco2_at = 11

abbrev pub mco2pre_at : ℕ
mco2pre_at = 12

-- u16 at 14, 16, 18
abbrev pub n_at : ℕ
n_at = 14

abbrev pub pllsai_n_at : ℕ
pllsai_n_at = 16

abbrev pub plli2s_n_at : ℕ
plli2s_n_at = 18

-- u32 at 20, 24, 28, 32, 36; 40 to 63 zero
abbrev pub hse_at : ℕ
hse_at = 20

abbrev pub hclk_at : ℕ
hclk_at = 24

abbrev pub sysclk_at : ℕ
sysclk_at = 28

abbrev pub pclk1_at : ℕ
pclk1_at = 32

abbrev pub pclk2_at : ℕ
pclk2_at = 36
