-- Document 01's examples marked P hold, all of them together: by computing each plan.
use mathlib.Core.Path.{◌≡◌, refl}
use mathlib.Core.List.{map}
use lib.Ieee.{size}
use Rattle.kinds.specs.Config.{input_of}
use Rattle.kinds.specs.Limits.{outside_of, first_refusal, check_of}
use Rattle.kinds.specs.Refusals.{refusal_of}
use Rattle.pll.specs.Fixed.{recip_of, vco_of, out_of}
use Rattle.pll.specs.Outputs.{base_of, p_output_of}
use Rattle.pll.specs.Walk.{first, seek, join, judge, look, walk, entered, search_of}
use Rattle.configure.specs.Configure.{p_window_of, taken_of, kept_of, settled_of, base_in, wanted_in, p_window_in, q_window_in, fits_in, chosen_of, configured_of}
use Rattle.clocks.specs.Ratio.{round24, ratio_up}
use Rattle.clocks.specs.Rows.{hpre_row, ppre_row}
use Rattle.clocks.specs.Derive.{sysclk_of, wanted_of, hpre_of, ahb_for, cap_of, timclk_of, apb_for, wait_states_of, scale_of, valid_of, ahb_of, apb1_of, apb2_of, clocks_of, config_of, settled_of as derived_as, derived_of}
use Rattle.plan.specs.Plan.{rough_of, sai_late, i2s_late, late_refusal, limited_of, clocked_of, planned_of, plan_of}
use Rattle.plan.specs.Examples.{shown, examples}

pub examples_hold : map (λ e. shown (plan_of e.config)) examples ≡ map (λ e. e.answer) examples
unfolding size input_of outside_of first_refusal check_of refusal_of recip_of vco_of out_of base_of p_output_of first seek join judge look walk entered search_of p_window_of taken_of kept_of settled_of base_in wanted_in p_window_in q_window_in fits_in chosen_of configured_of round24 ratio_up hpre_row ppre_row sysclk_of wanted_of hpre_of ahb_for cap_of timclk_of apb_for wait_states_of scale_of valid_of ahb_of apb1_of apb2_of clocks_of config_of derived_as derived_of rough_of sai_late i2s_late late_refusal limited_of clocked_of planned_of plan_of
examples_hold = refl
