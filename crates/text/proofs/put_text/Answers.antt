-- `put_text` meets its contract: the text stands where it was copied to.
use Rattle.text.proofs.Writing.{copied}
use Rattle.text.proofs.put_text.Goals as goal

pub returns : goal.returns
returns c = rw c.copy_from_slice.ensures.after (copied _ _ _ c.requires)
