-- A setter call as a value: what it hands back.
use Rattle.kinds.specs.Setters.{Setting, set_hse, set_hclk, set_sysclk, set_pclk1, set_pclk2, set_lse, set_lsi, set_use_pll, set_pll48clk, set_pllm, set_plln, set_pllp, set_pllq, set_use_pllsai, set_pllsain, set_pllsaip, set_pllsaiq, set_use_plli2s, set_plli2sn, set_plli2sq, set_plli2sr, set_mco1, set_mco1pre, set_mco2, set_mco2pre, set_defaults}
use Rattle.kinds.specs.declared.CFGR.{CFGR}
use Rattle.calls.specs.declared.Setter.{Setter}
use Rattle.calls.specs.declared.Setter.TheVariants.{Hse, Hclk, Sysclk, Pclk1, Pclk2, Lse, Lsi, UsePll, UsePll48clk, Pllm, Plln, Pllp, Pllq, UsePllsai, Pllsain, Pllsaip, Pllsaiq, UsePlli2s, Plli2sn, Plli2sq, Plli2sr, Mco1, Mco1pre, Mco2, Mco2pre, SetDefaults}

unfoldable pub call_setting : CFGR → Setter → Setting
call_setting c (Hse x y) = set_hse c x y
call_setting c (Hclk x) = set_hclk c x
call_setting c (Sysclk x) = set_sysclk c x
call_setting c (Pclk1 x) = set_pclk1 c x
call_setting c (Pclk2 x) = set_pclk2 c x
call_setting c (Lse x) = set_lse c x
call_setting c Lsi = set_lsi c
call_setting c UsePll = set_use_pll c
call_setting c (UsePll48clk x) = set_pll48clk c x
call_setting c (Pllm x) = set_pllm c x
call_setting c (Plln x) = set_plln c x
call_setting c (Pllp x) = set_pllp c x
call_setting c (Pllq x) = set_pllq c x
call_setting c UsePllsai = set_use_pllsai c
call_setting c (Pllsain x) = set_pllsain c x
call_setting c (Pllsaip x) = set_pllsaip c x
call_setting c (Pllsaiq x) = set_pllsaiq c x
call_setting c UsePlli2s = set_use_plli2s c
call_setting c (Plli2sn x) = set_plli2sn c x
call_setting c (Plli2sq x) = set_plli2sq c x
call_setting c (Plli2sr x) = set_plli2sr c x
call_setting c (Mco1 x) = set_mco1 c x
call_setting c (Mco1pre x) = set_mco1pre c x
call_setting c (Mco2 x) = set_mco2 c x
call_setting c (Mco2pre x) = set_mco2pre c x
call_setting c SetDefaults = set_defaults c
