-- Document 01, "Request record": a well-formed record in plain words, each rule a fact.
use Rattle.std.specs.Prelude.{ℕ, ◌≤◌, ◌<◌, ◌≡◌, true, false, List, length, get_or}
use Rattle.record.specs.Numbers.{u16_at, u32_at, flag_at}
use Rattle.record.specs.Places.{hse_flag, hse_bypass_flag, hclk_flag, sysclk_flag, pclk1_flag, pclk2_flag, lse_flag, lse_bypass_flag, choice48_flag, choice_pllsai_flag}
use Rattle.record.specs.Places.{RECORD, p_at, pllsai_p_at, mco1_at, mco1pre_at, mco2_at, mco2pre_at, hse_at, hclk_at, sysclk_at, pclk1_at, pclk2_at}

pub record WellFormed (b : List ℕ) : Type 0 where
  -- 64 bytes
  pub whole : length b ≡ RECORD
  -- bits 14, 15 zero
  pub bits_14_15 : u16_at b 0 < 16384
  -- 13 zero, 40 to 63 zero
  pub byte_13 : get_or b 13 0 ≡ 0
  pub bytes_40_to_63 : (at : ℕ) → 40 ≤ at → at < RECORD → get_or b at 0 ≡ 0
  -- codes: P 0..3, MCO 0..3, MCOPRE 0..4
  pub p_code : get_or b p_at 0 ≤ 3
  pub pllsai_p_code : get_or b pllsai_p_at 0 ≤ 3
  pub mco1_code : get_or b mco1_at 0 ≤ 3
  pub mco1pre_code : get_or b mco1pre_at 0 ≤ 4
  pub mco2_code : get_or b mco2_at 0 ≤ 3
  pub mco2pre_code : get_or b mco2pre_at 0 ≤ 4
  -- a u32 whose flag is off is zero
  pub hse_off : flag_at b hse_flag ≡ false → u32_at b hse_at ≡ 0
  pub hclk_off : flag_at b hclk_flag ≡ false → u32_at b hclk_at ≡ 0
  pub sysclk_off : flag_at b sysclk_flag ≡ false → u32_at b sysclk_at ≡ 0
  pub pclk1_off : flag_at b pclk1_flag ≡ false → u32_at b pclk1_at ≡ 0
  pub pclk2_off : flag_at b pclk2_flag ≡ false → u32_at b pclk2_at ≡ 0
  -- a bypass or PLLSAI-choice bit needs its parent
  pub hse_bypass : flag_at b hse_bypass_flag ≡ true → flag_at b hse_flag ≡ true
  pub lse_bypass : flag_at b lse_bypass_flag ≡ true → flag_at b lse_flag ≡ true
  pub choice_pllsai : flag_at b choice_pllsai_flag ≡ true → flag_at b choice48_flag ≡ true
