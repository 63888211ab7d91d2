-- `put_numbers` meets its contract: after some turns the numbers so far stand, each in at most eleven bytes.
use native.Mathlib.Omega.{arith}
use mathlib.Core.Path.{sym}
use lib.ListN.{get_or}
use Rattle.text.specs.Line.{spaced}
use Rattle.text.proofs.Writing.{join, none, renamed}
use Rattle.text.proofs.Digits.{ten}
use Rattle.text.proofs.Spacing.{spaced_more}
use Rattle.text.proofs.put_numbers.Goals as goal

pub loop-n-init : goal.loop-n-init
unfolding spaced
loop-n-init c = record { wrote = none _ _; near = omega arith }

pub put_decimal-next-requires : goal.put_decimal-next-requires
put_decimal-next-requires c =
    omega (arith, c.loop-n.invariant.near, c.put_text-p.ensures.ends, ten (get_or c.args.ns.now c.loop-n.n-index 0) (omega (arith, c.type_inv.ns c.loop-n.n-index)))

pub loop-n-preserved : goal.loop-n-preserved
loop-n-preserved c =
    let ns = c.args.ns.now in
    let i = c.loop-n.n-index in
    let w = join c.put_text-p.ensures c.put_decimal-next.ensures in
    record {
      wrote = renamed (sym (spaced_more ns i (omega arith))) (join c.loop-n.invariant.wrote w);
      near = omega (arith, c.loop-n.invariant.near, c.put_text-p.ensures.ends, c.put_decimal-next.ensures.ends, ten (get_or ns i 0) (omega (arith, c.type_inv.ns i)));
    }
