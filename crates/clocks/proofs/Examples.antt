-- The examples of derive hold, all of them together: by computing each.
use Rattle.std.proofs.Common.{◌≡◌, map, refl}
use lib.Ieee.{size}
use Rattle.kinds.specs.Config.{input_of}
use Rattle.kinds.specs.Limits.{outside_of, first_refusal, check_of}
use Rattle.pll.specs.Fixed.{recip_of, vco_of, out_of}
use Rattle.pll.specs.Outputs.{base_of, p_output_of}
use Rattle.clocks.specs.Ratio.{round24, ratio_up}
use Rattle.clocks.specs.Rows.{hpre_row, ppre_row}
use Rattle.clocks.specs.Derive.{sysclk_of, wanted_of, hpre_of, ahb_for, cap_of, timclk_of, apb_for, wait_states_of, scale_of, valid_of, ahb_of, apb1_of, apb2_of, clocks_of, config_of, settled_of, derived_of}
use Rattle.clocks.specs.Examples.{shown, examples}

pub examples_hold : map (λ e. shown (derived_of e.config)) examples ≡ map (λ e. e.answer) examples
unfolding size input_of outside_of first_refusal check_of recip_of vco_of out_of base_of p_output_of round24 ratio_up hpre_row ppre_row sysclk_of wanted_of hpre_of ahb_for cap_of timclk_of apb_for wait_states_of scale_of valid_of ahb_of apb1_of apb2_of clocks_of config_of settled_of derived_of
examples_hold = refl
