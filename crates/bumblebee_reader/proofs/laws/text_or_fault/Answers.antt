use Rattle.bumblebee_reader.proofs.Text.{text_or_fault_lem}
use Rattle.bumblebee_reader.proofs.laws.text_or_fault.Goals as goal

pub returns : goal.returns
returns c = text_or_fault_lem
