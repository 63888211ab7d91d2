-- `width` meets its contract: by the power of ten at or below the number.
use mathlib.Core.Path.{sym}
use Rattle.text.proofs.Digits.{count}
use Rattle.text.proofs.width.Goals as goal

pub returns : goal.returns
returns c =
    sym (count c.ilog10.result c.args.n (rw c.max.ensures at c.ilog10.ensures.power_le) (rw c.max.ensures at c.ilog10.ensures.next_power_gt))
