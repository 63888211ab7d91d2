-- `named::call_of` meets its contract: a code that is read as no value, and a number of no setter, name no call; the rest is found.
use mathlib.Core.Path.{refl}
use native.Mathlib.Omega.{arith}
use Rattle.kinds.proofs.Decoding.{hse_mode_past, lse_mode_past, pll48clk_past, pllp_past, mco1_past, mco2_past, mcopre_past}
use Rattle.calls.proofs.Lists.{past, unread_past}
use Rattle.calls.proofs.named.call_of.Goals as goal

pub returns-in_err-ok-in-0 : goal.returns-in_err-ok-in-0
returns-in_err-ok-in-0 c = unread_past _ _ _ c.in-0.is c.from_residual.ensures c.in_err-ok-in-0.was c.ok.ensures.value c.try_from.ensures _ refl hse_mode_past

pub returns-in_err-ok-in-5 : goal.returns-in_err-ok-in-5
returns-in_err-ok-in-5 c = unread_past _ _ _ c.in-5.is c.from_residual-in_err-ok-in-5.ensures c.in_err-ok-in-5.was c.ok-in-5.ensures.value c.try_from-in-5.ensures _ refl lse_mode_past

pub returns-in_err-ok-in-8 : goal.returns-in_err-ok-in-8
returns-in_err-ok-in-8 c = unread_past _ _ _ c.in-8.is c.from_residual-in_err-ok-in-8.ensures c.in_err-ok-in-8.was c.ok-in-8.ensures.value c.try_from-in-8.ensures _ refl pll48clk_past

pub returns-in_err-ok-in-11 : goal.returns-in_err-ok-in-11
returns-in_err-ok-in-11 c = unread_past _ _ _ c.in-11.is c.from_residual-in_err-ok-in-11.ensures c.in_err-ok-in-11.was c.ok-in-11.ensures.value c.try_from-in-11.ensures _ refl pllp_past

pub returns-in_err-ok-in-15 : goal.returns-in_err-ok-in-15
returns-in_err-ok-in-15 c = unread_past _ _ _ c.in-15.is c.from_residual-in_err-ok-in-15.ensures c.in_err-ok-in-15.was c.ok-in-15.ensures.value c.try_from-in-15.ensures _ refl pllp_past

pub returns-in_err-ok-in-21 : goal.returns-in_err-ok-in-21
returns-in_err-ok-in-21 c = unread_past _ _ _ c.in-21.is c.from_residual-in_err-ok-in-21.ensures c.in_err-ok-in-21.was c.ok-in-21.ensures.value c.try_from-in-21.ensures _ refl mco1_past

pub returns-in_err-ok-in-22 : goal.returns-in_err-ok-in-22
returns-in_err-ok-in-22 c = unread_past _ _ _ c.in-22.is c.from_residual-in_err-ok-in-22.ensures c.in_err-ok-in-22.was c.ok-in-22.ensures.value c.try_from-in-22.ensures _ refl mcopre_past

pub returns-in_err-ok-in-23 : goal.returns-in_err-ok-in-23
returns-in_err-ok-in-23 c = unread_past _ _ _ c.in-23.is c.from_residual-in_err-ok-in-23.ensures c.in_err-ok-in-23.was c.ok-in-23.ensures.value c.try_from-in-23.ensures _ refl mco2_past

pub returns-in_err-ok-in-24 : goal.returns-in_err-ok-in-24
returns-in_err-ok-in-24 c = unread_past _ _ _ c.in-24.is c.from_residual-in_err-ok-in-24.ensures c.in_err-ok-in-24.was c.ok-in-24.ensures.value c.try_from-in-24.ensures _ refl mcopre_past

pub returns-in_default : goal.returns-in_default
returns-in_default c = past _ _ (omega arith)
