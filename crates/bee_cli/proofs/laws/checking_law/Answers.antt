use Rattle.bee_cli.proofs.CheckedAnswers.{solved_is_accepted, file_answer_is_accepted, empty_is_refused}
use Rattle.bee_cli.proofs.laws.checking_law.Goals as goal

pub returns-clause-accepted : goal.returns-clause-accepted
returns-clause-accepted c = solved_is_accepted

pub returns-clause-file_accepted : goal.returns-clause-file_accepted
returns-clause-file_accepted c = file_answer_is_accepted

pub returns-clause-empty : goal.returns-clause-empty
returns-clause-empty c = empty_is_refused
