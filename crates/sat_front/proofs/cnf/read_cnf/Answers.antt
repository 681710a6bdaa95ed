use Rattle.sat_front.proofs.Exact.{text_complete, text_exact}
use Rattle.sat_front.proofs.cnf.read_cnf.Goals as goal

pub returns-clause-complete : goal.returns-clause-complete
returns-clause-complete c = text_complete c.args.text.now c.read_text.result c.read_text.ensures.read c.read_text.ensures.fault

pub returns-clause-exact : goal.returns-clause-exact
returns-clause-exact c = text_exact c.args.text.now c.read_text.result c.read_text.ensures.read c.read_text.ensures.fault
