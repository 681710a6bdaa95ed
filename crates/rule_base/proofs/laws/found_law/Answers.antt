use Rattle.std.proofs.Common.{refl}
use Rattle.rule_base.specs.Found.{found_by}
use Rattle.rule_base.proofs.FoundLaws.{found-some, found-none}
use Rattle.rule_base.proofs.laws.found_law.Goals as goal

pub returns-clause-instance : goal.returns-clause-instance
returns-clause-instance c pairs = found-some pairs (found_by pairs) refl

pub returns-clause-none : goal.returns-clause-none
returns-clause-none c pairs = found-none pairs (found_by pairs) refl
