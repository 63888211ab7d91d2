-- `put_line` meets its contract: with room, the word, the numbers and the newline one after the other.
use native.Mathlib.Omega.{arith}
use Rattle.text.specs.Line.{line_of}
use Rattle.text.proofs.Writing.{join, roomy, placed}
use Rattle.text.proofs.put_line.Goals as goal

pub returns : goal.returns
unfolding line_of
returns c =
    let room = roomy _ _ c.has_room.ensures c.if-not-has_room.false in
    placed room (omega (arith, c.put_text-p.ensures.ends, c.put_numbers-q.ensures.upper_bound, c.put_text.ensures.ends))
    (join c.put_text-p.ensures (join c.put_numbers-q.ensures.wrote c.put_text.ensures))
