use Rattle.certificate_lines.proofs.LineLaws.{no-derivation}
use Rattle.certificate_lines.proofs.laws.word_law.Goals as goal

pub returns-clause-derivation : goal.returns-clause-derivation
returns-clause-derivation c = no-derivation
