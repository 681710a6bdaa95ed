use Rattle.rule_oracle.proofs.NotDifferent.{not-different, form-some, form-none}
use Rattle.rule_oracle.proofs.finding.by_form.Goals as goal

pub returns-in_default : goal.returns-in_default
returns-in_default g c =
    record {
      some = form-some c.args.core.now c.by_arithmetic.result c.by_arithmetic.ensures.some;
      none = form-none c.args.core.now (not-different c.args.core.now c.in_default.not-AllDiff c.in_default.not-Lex) c.by_arithmetic.result c.by_arithmetic.ensures.none;
      least = c.by_arithmetic.ensures.least;
      most = c.by_arithmetic.ensures.most;
    }
