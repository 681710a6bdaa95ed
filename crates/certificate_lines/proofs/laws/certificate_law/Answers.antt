use Rattle.certificate_lines.proofs.Chains.{steps-lead, derivation-leads}
use Rattle.certificate_lines.proofs.laws.certificate_law.Goals as goal

pub returns-clause-steps : goal.returns-clause-steps
returns-clause-steps c = steps-lead

pub returns-clause-derivation : goal.returns-clause-derivation
returns-clause-derivation c = derivation-leads
