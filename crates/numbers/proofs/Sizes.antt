-- Each list of numbers has as many as its name says: by counting.
use mathlib.Core.Path.{◌≡◌, refl}
use lib.ListN.{length}
use Rattle.kinds.specs.declared.CFGR.{CFGR}
use Rattle.std.specs.Prelude.{Result, Ok, Err}
use Rattle.pll.specs.declared.Pair.{Pair}
use Rattle.pll.specs.declared.Miss.{Miss}
use Rattle.pll.specs.declared.Miss.TheVariants.{BadInput, Nothing}
use Rattle.clocks.specs.declared.Clocks.{Clocks}
use Rattle.clocks.specs.declared.InternalRCCConfig.{InternalRCCConfig}
use Rattle.numbers.specs.Numbers.{CONFIG, config_numbers}
use Rattle.numbers.specs.Answers.{SEARCH, found_numbers}
use Rattle.numbers.specs.Plans.{CLOCKS, clock_numbers}

pub config_many : (c : CFGR) → length (config_numbers c) ≡ CONFIG
unfolding config_numbers
config_many c = refl

pub clocks_many : (x : Clocks) (y : InternalRCCConfig) → length (clock_numbers x y) ≡ CLOCKS
unfolding clock_numbers
clocks_many x y = refl

pub search_many : (f : Result Pair Miss) → length (found_numbers f) ≡ SEARCH
search_many (Ok r) = refl
search_many (Err BadInput) = refl
search_many (Err (Nothing k)) = refl
