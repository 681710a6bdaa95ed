use Rattle.bumblebee_reader.proofs.Text.{one_syntax_lem}
use Rattle.bumblebee_reader.proofs.laws.one_syntax.Goals as goal

pub returns : goal.returns
returns c = one_syntax_lem
