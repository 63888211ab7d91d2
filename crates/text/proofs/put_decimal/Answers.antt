-- `put_decimal` meets its contract: the digits end where there are as many places as digits.
use native.Mathlib.Omega.{arith}
use mathlib.Core.Path.{ap}
use lib.ListN.{length}
use Rattle.text.proofs.Digits.{is_std}
use Rattle.text.proofs.Writing.{ended}
use Rattle.text.proofs.put_decimal.Goals as goal

pub write_digits-requires : goal.write_digits-requires
write_digits-requires c =
    let e = ap length (is_std c.args.n (omega arith)) in
    (omega (arith, e, c.width.ensures), omega (arith, c.width.ensures, c.requires))

pub returns : goal.returns
returns c =
    let w = c.write_digits.ensures in
    ended c.args.at c.width.result c.write_digits.result (is_std c.args.n (omega arith)) c.width.ensures c.requires w.start w.written w.before
