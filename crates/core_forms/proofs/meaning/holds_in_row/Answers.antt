use Rattle.core_forms.proofs.Rows.{row-meaning}
use Rattle.core_forms.proofs.meaning.holds_in_row.Goals as goal

pub returns-clause-meaning : goal.returns-clause-meaning
returns-clause-meaning c = λ σ among is.
    row-meaning σ c.args.core.now c.args.vars.now c.args.values.now _ c.holds.ensures among is
