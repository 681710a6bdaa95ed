use Rattle.std.proofs.Common.{sym, ap}
use Rattle.rule_base.specs.declared.sought.SoughtEquation.TheVariants.{Apart}
use Rattle.rule_base.specs.Pairs.{first_sought}
use Rattle.equi_rules.proofs.PlainLaws.{plain-form}
use Rattle.equi_rules.proofs.instances.by_plain_form.Goals as goal

pub returns-in_default : goal.returns-in_default
returns-in_default c = ap (first_sought Apart) (sym (plain-form c.args.core.now c.requires c.in_default.not-Parity))
