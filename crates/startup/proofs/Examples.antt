-- Starts of one plan with everything in it, over a file of nines, computed from the configuration on: the promises are not empty.
use Rattle.std.specs.Prelude.{None, Some}
use Prim.Native.Nat.{ℕ}
use native.Mathlib.Omega.{arith}
use mathlib.Core.Path.{◌≡◌, refl}
use mathlib.Core.Bool.{true}
use mathlib.Core.List.{List, [], ◌∷◌}
use lib.Ieee.{size}
use lib.ListN.{replicate}
use Rattle.kinds.specs.Config.{input_of}
use Rattle.kinds.specs.Limits.{outside_of, first_refusal, check_of}
use Rattle.kinds.specs.declared.CFGR.{CFGR}
use Rattle.kinds.specs.declared.HSEClock.TheVariants.{Bypass}
use Rattle.kinds.specs.declared.LSEClockMode.TheVariants.{Oscillator}
use Rattle.kinds.specs.declared.PLL48CLK.TheVariants.{Pllq}
use Rattle.kinds.specs.declared.PLLP.TheVariants.{Div2, Div8}
use Rattle.kinds.specs.declared.MCO1.TheVariants.{Lse}
use Rattle.kinds.specs.declared.MCO2.TheVariants.{Pll}
use Rattle.kinds.specs.declared.MCOPRE.TheVariants.{Div3, Div5}
use Rattle.pll.specs.Fixed.{recip_of, vco_of, out_of}
use Rattle.pll.specs.Outputs.{base_of, p_output_of}
use Rattle.pll.specs.Walk.{first, seek, join, judge, look, walk as search_walk, entered, search_of}
use Rattle.configure.specs.Configure.{p_window_of, taken_of, kept_of, settled_of, base_in, wanted_in, p_window_in, q_window_in, fits_in, chosen_of, configured_of}
use Rattle.clocks.specs.Ratio.{round24, ratio_up}
use Rattle.clocks.specs.Rows.{hpre_row, ppre_row}
use Rattle.clocks.specs.Derive.{sysclk_of, wanted_of, hpre_of, ahb_for, cap_of, timclk_of, apb_for, wait_states_of, scale_of, valid_of, ahb_of, apb1_of, apb2_of, clocks_of, config_of, settled_of as derived_as, derived_of}
use Rattle.clocks.specs.declared.Clocks.{Clocks}
use Rattle.clocks.specs.declared.InternalRCCConfig.{InternalRCCConfig}
use Rattle.plan.specs.Plan.{rough_of, sai_late, i2s_late, late_refusal, limited_of, clocked_of, planned_of, plan_of}
use Rattle.order.specs.declared.wait.Awaited.TheVariants.{Hse}
use Rattle.order.specs.Places.{PLACES}
use Rattle.startup.specs.Start.{done_with, cut_with, planned_start, start_of}
use Rattle.order.specs.Safe.{Safe, hsi, own}
use Rattle.startup.specs.declared.Outcome.TheVariants.{Unanswered}

-- HSE by bypass at 2 MHz, 216 MHz and PLLQ asked for, its PLL as a plan leaves it
abbrev full : CFGR
full =
    record {
      sources = record { hse = Some (Bypass (record { 0 = 2000000 })); lse = (Some Oscillator); lsi = true };
      requests = record { hclk = None; sysclk = Some (record { 0 = 216000000 }); pclk1 = None; pclk2 = None };
      pll = record { use_pll = true; pll48clk = (Some Pllq); m = record { 0 = 2 }; n = record { 0 = 432 }; p = Div2; q = record { 0 = 9 } };
      sai = record { use_pllsai = true; n = record { 0 = 192 }; p = Div8; q = record { 0 = 2 } };
      i2s = record { use_plli2s = true; n = record { 0 = 200 }; r = record { 0 = 2 }; q = record { 0 = 3 } };
      mco = record { mco1 = Lse; mco1pre = Div3; mco2 = Pll; mco2pre = Div5 };
    }

abbrev clocks : Clocks
clocks =
    record {
      hclk = record { 0 = 216000000 };
      pclk1 = record { 0 = 54000000 };
      pclk2 = record { 0 = 108000000 };
      sysclk = record { 0 = 216000000 };
      timclk1 = record { 0 = 108000000 };
      timclk2 = record { 0 = 216000000 };
      pll48clk_valid = true;
      hse = Some (record { 0 = 2000000 });
      lse = Some (record { 0 = 32768 });
      lsi = Some (record { 0 = 32000 });
    }

abbrev codes : InternalRCCConfig
codes = record { hpre = 0; ppre1 = 5; ppre2 = 4; flash_waitstates = 7; overdrive = true; vos_scale = 1 }

abbrev nines : List ℕ
nines = replicate PLACES 9

abbrev made : List ℕ
made =
    1 ∷ 1 ∷ 1 ∷ 1 ∷ 1 ∷ 1 ∷ 2 ∷ 1 ∷ 2 ∷ 3 ∷ 4 ∷ 5 ∷ 4 ∷ 0 ∷ 2 ∷ 432 ∷ 0 ∷ 9 ∷ 1 ∷ 1 ∷ 1 ∷ 1 ∷ 1 ∷ 0 ∷ 1 ∷ 1 ∷ 192 ∷ 3 ∷ 2 ∷ 0 ∷ 200 ∷ 2 ∷ 3 ∷ 7 ∷ 0 ∷ []

-- eight 1s and 23 stores: done, with eight polls. Cut after the last store, before its wait: seven.
-- HSE does not answer: HSION, SW, HSEBYP and HSEON are made, and the limit of 3 polls after HSI's one
starts :
    (start_of full nines 3 (replicate 8 1) 24 ≡ record { outcome = done_with clocks codes; polls = 8; file = made })
    × (start_of full nines 3 (replicate 8 1) 23 ≡ record { outcome = cut_with clocks codes; polls = 7; file = made })
    × (start_of full nines 3 (1 ∷ 0 ∷ 2 ∷ []) 24 ≡ record { outcome = Unanswered Hse; polls = 4; file = 1 ∷ 1 ∷ 1 ∷ 9 ∷ 9 ∷ 9 ∷ 0 ∷ replicate 28 9 })
unfolding size input_of outside_of first_refusal check_of recip_of vco_of out_of base_of p_output_of first seek join judge look search_walk entered search_of p_window_of taken_of kept_of settled_of base_in wanted_in p_window_in q_window_in fits_in chosen_of configured_of round24 ratio_up hpre_row ppre_row sysclk_of wanted_of hpre_of ahb_for cap_of timclk_of apb_for wait_states_of scale_of valid_of ahb_of apb1_of apb2_of clocks_of config_of derived_as derived_of rough_of sai_late i2s_late late_refusal limited_of clocked_of planned_of plan_of planned_start start_of
starts = (refl, refl, refl)

-- and a file that is not safe there is
unsafe : Safe full codes nines → ⊥
unsafe (hsi e) = let z : ◌≡◌ {A = ℕ} 9 0 = e in omega arith
unsafe (own s) = let z : ◌≡◌ {A = ℕ} 9 2 = s.source in omega arith
