-- Document 01's default record is read as the Rust's defaults: by computation.
use mathlib.Core.Path.{◌≡◌, refl}
use Rattle.std.specs.Prelude.{Ok}
use Rattle.record.specs.Numbers.{u16_at, u32_at, flag_at}
use Rattle.record.specs.Layout.{blank_run, blanks, looked, breach_of}
use Rattle.record.specs.Config.{divider_at, factor_at, hertz_at, p_of, mco1_of, mco2_of, mcopre_of, request_at, sources_of, requests_of, pll_of, sai_of, i2s_of, mco_of, cfgr_of}
use Rattle.record.specs.Reading.{read_of, default_record}
use Rattle.kinds.specs.Config.{defaults}

-- the record of the defaults is read as the defaults
pub reads_defaults : read_of default_record ≡ Ok defaults
unfolding u16_at u32_at flag_at blank_run blanks looked breach_of divider_at factor_at hertz_at p_of mco1_of mco2_of mcopre_of request_at sources_of requests_of pll_of sai_of i2s_of mco_of cfgr_of read_of
reads_defaults = refl
