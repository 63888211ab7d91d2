-- The settings that the tests let through are what the fixed-point functions require.
use Rattle.pll.specs.Fixed.{output_of}
use Rattle.pll.proofs.Reciprocal.{unit_le, vco_le, vco_by_lem}
use Rattle.pll.proofs.Outputs.{input_told, settings_told}
use mathlib.Core.Path.{sym, ◌∙◌}
use Rattle.pll.proofs.output.Goals as goal

pub vco-requires : goal.vco-requires
vco-requires c =
    let i = input_told c.args.f.0 (sym c.is_input.ensures ∙ c.if-not-is_input.false) in
    let s = settings_told c.args.m.0 c.args.n.0 c.args.d.0 (sym c.are_settings.ensures ∙ c.if-not-are_settings.false) in
    (rw c.unit.ensures (unit_le _ _ i.high s.m_low), s.n_high)

pub out-requires : goal.out-requires
out-requires c =
    let i = input_told c.args.f.0 (sym c.is_input.ensures ∙ c.if-not-is_input.false) in
    let s = settings_told c.args.m.0 c.args.n.0 c.args.d.0 (sym c.are_settings.ensures ∙ c.if-not-are_settings.false) in
    (rw (c.vco.ensures, c.unit.ensures) (vco_le _ _ (unit_le _ _ i.high s.m_low) s.n_high), s.d_low)

pub returns : goal.returns
unfolding output_of
returns c =
    rw (sym c.is_input.ensures ∙ c.if-not-is_input.false, sym c.are_settings.ensures ∙ c.if-not-are_settings.false, c.out.ensures, c.vco.ensures, c.unit.ensures, vco_by_lem)
