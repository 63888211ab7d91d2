-- `put_text` meets its contract: after some turns the lines of the records so far stand; a tail which is no record has its own.
use native.Mathlib.Omega.{arith}
use Prim.Native.Nat.{◌/◌}
use mathlib.Core.Path.{◌≡◌}
use lib.ListN.{length}
use Rattle.record.specs.Places.{RECORD}
use Rattle.text.proofs.Writing.{join, renamed, same}
use Rattle.planner.proofs.Pieces.{begun, record_at, more, without_tail, with_tail, begins}
use Rattle.planner.proofs.lines.put_text.Goals as goal

pub loop-record-init : goal.loop-record-init
loop-record-init c = begun _ _

pub put_record-next-requires : goal.put_record-next-requires
put_record-next-requires c =
    omega (arith, c.as_chunks.ensures.front_len, same c.loop-record.invariant.wrote, c.loop-record.invariant.near, c.requires)

pub loop-record-preserved : goal.loop-record-preserved
loop-record-preserved c =
    let b = c.args.input.now in
    let i = c.loop-record.record-index in
    let at = record_at (length b / RECORD) i b _ (omega (arith, c.as_chunks.ensures.front_len)) in
    more b i (rw c.as_chunks.ensures.front at) c.loop-record.invariant c.put_record-next.ensures

pub returns-then-is_empty : goal.returns-then-is_empty
returns-then-is_empty c =
    let b = c.args.input.now in
    let e : c.loop-record.record-index ≡ length b / RECORD = omega (arith, c.as_chunks.ensures.front_len) in
    let w = rw e at c.loop-record.invariant in
    begins (renamed (without_tail b _ c.as_chunks.ensures.back_len c.is_empty.ensures c.if-is_empty.true) w.wrote)
    (omega (arith, w.near, c.requires))

pub returns : goal.returns
returns c =
    let b = c.args.input.now in
    let e : c.loop-record.record-index ≡ length b / RECORD = omega (arith, c.as_chunks.ensures.front_len) in
    let w = rw e at c.loop-record.invariant in
    let line = c.put_record.ensures in
    begins
    (renamed (with_tail b _ c.as_chunks.ensures.back_len c.is_empty.ensures c.if-is_empty.false) (join w.wrote line.wrote))
    (omega (arith, w.near, line.near, c.requires))
