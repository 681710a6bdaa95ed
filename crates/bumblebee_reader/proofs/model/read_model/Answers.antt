use Rattle.bumblebee_reader.proofs.Text.{ok_exact, syntax_exact, number_exact}
use Rattle.bumblebee_reader.proofs.model.read_model.Goals as goal

pub returns-clause-ok : goal.returns-clause-ok
returns-clause-ok c = ok_exact c.args.text.now _ c.read_whole.ensures

pub returns-clause-syntax : goal.returns-clause-syntax
returns-clause-syntax c = syntax_exact c.args.text.now _ c.read_whole.ensures

pub returns-clause-number : goal.returns-clause-number
returns-clause-number c = number_exact c.args.text.now _ c.read_whole.ensures
