use Rattle.answer_document.proofs.AgreementLaws.{none_contradicts, optima_agree, optimum_is_best}
use Rattle.answer_document.proofs.laws.agreement_law.Goals as goal

pub returns-clause-none : goal.returns-clause-none
returns-clause-none c = none_contradicts

pub returns-clause-optima : goal.returns-clause-optima
returns-clause-optima c = optima_agree

pub returns-clause-best : goal.returns-clause-best
returns-clause-best c = optimum_is_best
