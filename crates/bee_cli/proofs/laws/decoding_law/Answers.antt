use Rattle.bee_cli.proofs.DecodedSolutions.{decoded_solves}
use Rattle.bee_cli.proofs.RoundTrip.{compiled_is_read, decoded_is_solution}
use Rattle.bee_cli.proofs.laws.decoding_law.Goals as goal

pub returns-clause-solves : goal.returns-clause-solves
returns-clause-solves c = decoded_solves

pub returns-clause-read : goal.returns-clause-read
returns-clause-read c = compiled_is_read

pub returns-clause-solution : goal.returns-clause-solution
returns-clause-solution c = decoded_is_solution
