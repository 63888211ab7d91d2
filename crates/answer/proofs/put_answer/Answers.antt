-- `put_answer` meets its contract: the answer with its refusal by its number has the line of the answer.
use Rattle.answer.proofs.Lines.{placed}
use Rattle.answer.proofs.put_answer.Goals as goal

pub returns : goal.returns
returns c = placed _ c.answer_of.ensures c.told.ensures c.put_line_of.ensures
