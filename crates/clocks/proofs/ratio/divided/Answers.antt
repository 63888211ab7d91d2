-- `ratio::divided` meets its contract. Each thing that the borrow checker leaves is a fact of the quotient, `Parts` of `proofs/Exactly.antt`.
use Rattle.std.proofs.Common.{◌∙◌, arith}
use Rattle.clocks.proofs.Exactly.{parts}
use Rattle.clocks.proofs.ratio.divided.Goals as goal

pub truncating_f32_to_u64-requires : goal.truncating_f32_to_u64-requires
truncating_f32_to_u64-requires c =
    let known = parts c.args.clock.divides c.requires c.nearest_u32_to_f32.ensures in
    record { lower_bound = known.above; upper_bound = known.under }

pub overflow_cast-result : goal.overflow_cast-result
overflow_cast-result c =
    let known = parts c.args.clock.divides c.requires c.nearest_u32_to_f32.ensures in
    omega (arith, known.small, c.truncating_f32_to_u64.ensures)

pub returns : goal.returns
returns c = c.truncating_f32_to_u64.ensures ∙ (parts c.args.clock.divides c.requires c.nearest_u32_to_f32.ensures).whole
