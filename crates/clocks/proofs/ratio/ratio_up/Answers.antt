-- `ratio::ratio_up` meets its contract. Each thing that the borrow checker leaves is a fact of the quotient, `Facts` of `proofs/Quotient.antt`.
use Rattle.std.proofs.Common.{arith}
use Rattle.clocks.proofs.Ieee.{quotient_facts}
use Rattle.clocks.proofs.ratio.ratio_up.Goals as goal

pub truncating_f32_to_u64-t-requires : goal.truncating_f32_to_u64-t-requires
truncating_f32_to_u64-t-requires c =
    let p = c.requires in
    let known = quotient_facts _ _ p.0 p.1 p.2 p.3 c.nearest_u32_to_f32.ensures c.nearest_u32_to_f32-2.ensures in
    record { lower_bound = known.above; upper_bound = known.under }

pub overflow_cast-t : goal.overflow_cast-t
overflow_cast-t c =
    let p = c.requires in
    let known = quotient_facts _ _ p.0 p.1 p.2 p.3 c.nearest_u32_to_f32.ensures c.nearest_u32_to_f32-2.ensures in
    omega (arith, known.small, c.truncating_f32_to_u64-t.ensures)

pub overflow_add-result : goal.overflow_add-result
overflow_add-result c =
    let p = c.requires in
    let known = quotient_facts _ _ p.0 p.1 p.2 p.3 c.nearest_u32_to_f32.ensures c.nearest_u32_to_f32-2.ensures in
    omega (arith, known.small, c.truncating_f32_to_u64-t.ensures)

pub returns-then-nearest_u32_to_f32-q : goal.returns-then-nearest_u32_to_f32-q
returns-then-nearest_u32_to_f32-q c =
    let p = c.requires in
    let known = quotient_facts _ _ p.0 p.1 p.2 p.3 c.nearest_u32_to_f32.ensures c.nearest_u32_to_f32-2.ensures in
    known.more _ _ c.truncating_f32_to_u64-t.ensures c.nearest_u32_to_f32-3.ensures c.if-nearest_u32_to_f32-q.true

pub returns-else-nearest_u32_to_f32-q : goal.returns-else-nearest_u32_to_f32-q
returns-else-nearest_u32_to_f32-q c =
    let p = c.requires in
    let known = quotient_facts _ _ p.0 p.1 p.2 p.3 c.nearest_u32_to_f32.ensures c.nearest_u32_to_f32-2.ensures in
    known.same _ _ c.truncating_f32_to_u64-t.ensures c.nearest_u32_to_f32-3.ensures c.if-nearest_u32_to_f32-q.false
