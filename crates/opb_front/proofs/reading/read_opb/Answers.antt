use Rattle.opb_front.proofs.Ends.{outcome_read, outcome_fault, read_complete, read_exact}
use Rattle.opb_front.proofs.reading.read_opb.Goals as goal

pub returns-clause-read : goal.returns-clause-read
returns-clause-read c = outcome_read c.args.text.now c.read_text.result c.read_text.ensures

pub returns-clause-fault : goal.returns-clause-fault
returns-clause-fault c = outcome_fault c.args.text.now c.read_text.result c.read_text.ensures

pub returns-clause-complete : goal.returns-clause-complete
returns-clause-complete c =
    read_complete c.args.text.now c.read_text.result (outcome_read c.args.text.now c.read_text.result c.read_text.ensures) (outcome_fault c.args.text.now c.read_text.result c.read_text.ensures)

pub returns-clause-exact : goal.returns-clause-exact
returns-clause-exact c =
    read_exact c.args.text.now c.read_text.result (outcome_read c.args.text.now c.read_text.result c.read_text.ensures) (outcome_fault c.args.text.now c.read_text.result c.read_text.ensures)
