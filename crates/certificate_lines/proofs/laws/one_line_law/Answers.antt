use Rattle.certificate_lines.proofs.LineLaws.{one-value, one-step, one-derivation}
use Rattle.certificate_lines.proofs.laws.one_line_law.Goals as goal

pub returns-clause-value : goal.returns-clause-value
returns-clause-value c = one-value

pub returns-clause-step : goal.returns-clause-step
returns-clause-step c = one-step

pub returns-clause-derivation : goal.returns-clause-derivation
returns-clause-derivation c = one-derivation
