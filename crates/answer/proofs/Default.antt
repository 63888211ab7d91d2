-- Document 01's default record is answered with exactly its line: by computation.
use mathlib.Core.Path.{◌≡◌, refl}
use lib.Ieee.{size}
use Rattle.kinds.specs.Config.{defaults, input_of}
use Rattle.kinds.specs.Limits.{outside_of, first_refusal, check_of}
use Rattle.pll.specs.Outputs.{base_of}
use Rattle.configure.specs.Configure.{configured_of, chosen_of, settled_of, base_in, wanted_in, p_window_in, q_window_in, p_window_of}
use Rattle.clocks.specs.Ratio.{round24, ratio_up}
use Rattle.clocks.specs.Rows.{hpre_row, ppre_row}
use Rattle.clocks.specs.Derive.{sysclk_of, wanted_of, hpre_of, ahb_for, cap_of, timclk_of, apb_for, wait_states_of, scale_of, valid_of, ahb_of, apb1_of, apb2_of, clocks_of, config_of, derived_of}
use Rattle.clocks.specs.Derive.{settled_of as clocks_settled}
use Rattle.plan.specs.Plan.{sai_late, i2s_late, late_refusal, limited_of, clocked_of, planned_of, plan_of}
use Rattle.record.specs.Reading.{default_record}
use Rattle.record.proofs.Defaults.{reads_defaults}
use Rattle.text.specs.Decimal.{decimal, digits_in}
use Rattle.text.specs.Line.{spaced, line_of}
use Rattle.answer.specs.Answer.{quantities_of, planned_answer, read_answer, answer_of, line_of_answer, planned_line, answer_line, default_line}

default_planned : planned_line (plan_of defaults) ≡ default_line
unfolding input_of outside_of first_refusal check_of base_of configured_of chosen_of settled_of base_in wanted_in p_window_in q_window_in p_window_of round24 ratio_up hpre_row ppre_row sysclk_of wanted_of hpre_of ahb_for cap_of timclk_of apb_for wait_states_of scale_of valid_of ahb_of apb1_of apb2_of clocks_of config_of derived_of clocks_settled sai_late i2s_late late_refusal limited_of clocked_of planned_of plan_of decimal digits_in spaced line_of quantities_of planned_answer line_of_answer planned_line size
default_planned = refl

pub default_line_lem : answer_line default_record ≡ default_line
unfolding answer_line answer_of read_answer planned_line
default_line_lem = rw reads_defaults default_planned
