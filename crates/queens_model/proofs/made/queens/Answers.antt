use Rattle.std.proofs.Common.{sym, subst}
use Rattle.model_meaning.specs.WellTyped.{WellTyped}
use Rattle.model_meaning.specs.Limits.{InLimits}
use Rattle.model_meaning.specs.declared.model.Model.{Model}
use Rattle.model_weight.specs.Weight.{weight_of}
use Rattle.model_lower.specs.Weighed.{most_weight}
use Rattle.std.specs.Prelude.{◌≤◌}
use Rattle.queens_model.proofs.Sizes.{well_typed, in_limits, is_light}
use Rattle.queens_model.proofs.made.queens.Goals as goal

pub returns-clause-typed : goal.returns-clause-typed
returns-clause-typed c = subst WellTyped (sym c.in_ok-model.ensures) (well_typed c.args.size c.requires.least c.requires.most)

pub returns-clause-limits : goal.returns-clause-limits
returns-clause-limits c = subst InLimits (sym c.in_ok-model.ensures) (in_limits c.args.size c.requires.least c.requires.most)

pub returns-clause-light : goal.returns-clause-light
returns-clause-light c = subst (λ (m : Model). weight_of m ≤ most_weight) (sym c.in_ok-model.ensures) (is_light c.args.size c.requires.least c.requires.most)
