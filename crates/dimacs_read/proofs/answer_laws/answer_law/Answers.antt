use Rattle.dimacs_read.proofs.Answered.{text_or_line, values_or_line}
use Rattle.dimacs_read.proofs.answer_laws.answer_law.Goals as goal

pub returns-clause-text : goal.returns-clause-text
returns-clause-text c = text_or_line

pub returns-clause-values : goal.returns-clause-values
returns-clause-values c = values_or_line
