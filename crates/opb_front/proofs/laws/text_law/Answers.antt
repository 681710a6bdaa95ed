use Rattle.opb_front.proofs.Ends.{each_text, one_end}
use Rattle.opb_front.proofs.laws.text_law.Goals as goal

pub returns : goal.returns
returns c = record { each = each_text; one = one_end }
