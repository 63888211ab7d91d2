-- The examples of whether the PLL is used hold, all of them together: by computing each.
use mathlib.Core.Path.{◌≡◌, refl}
use mathlib.Core.List.{map}
use Rattle.kinds.specs.Config.{input_of}
use Rattle.kinds.specs.Limits.{outside_of, first_refusal, check_of}
use Rattle.kinds.specs.Refusals.{refusal_of}
use Rattle.pll.specs.Fixed.{recip_of, vco_of, out_of}
use Rattle.pll.specs.Outputs.{base_of, p_output_of}
use Rattle.pll.specs.Walk.{first, seek, join, judge, look, walk, entered, search_of}
use Rattle.configure.specs.Configure.{p_window_of, taken_of, kept_of, settled_of, base_in, wanted_in, p_window_in, q_window_in, fits_in, chosen_of, configured_of}
use Rattle.configure.specs.Examples.{shown, examples}

pub examples_hold : map (λ e. shown (configured_of e.config)) examples ≡ map (λ e. e.answer) examples
unfolding input_of outside_of first_refusal check_of refusal_of recip_of vco_of out_of base_of p_output_of first seek join judge look walk entered search_of p_window_of taken_of kept_of settled_of base_in wanted_in p_window_in q_window_in fits_in chosen_of configured_of
examples_hold = refl
