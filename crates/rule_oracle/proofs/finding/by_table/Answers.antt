use Rattle.std.proofs.Common.{refl, sym, subst}
use Rattle.std.specs.Prelude.{IsNone}
use Rattle.rule_oracle.proofs.Told.{none-told}
use Rattle.rule_oracle.proofs.finding.by_table.Goals as goal

pub returns-in-None-clause-none : goal.returns-in-None-clause-none
returns-in-None-clause-none g c = none-told c.args.core.now c.requires.none ((c.in_ok-equation.ensures.none).0 (subst IsNone (sym c.in-None.is) refl))
