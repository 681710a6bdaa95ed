use Rattle.std.proofs.Common.{sym, ◌∙◌, subst}
use Rattle.model_meaning.specs.Limits.{InLimits}
use Rattle.model_meaning.specs.WellTyped.{WellTyped}
use Rattle.core_extract.proofs.Divisions.{part-is, part-typed, part-limits}
use Rattle.core_extract.proofs.reduction.Reduction.part.Goals as goal

pub returns-clause-typed : goal.returns-clause-typed
returns-clause-typed c = subst WellTyped (sym c.part.ensures) (part-typed c.args.self.now.model c.requires)

pub returns-clause-limits : goal.returns-clause-limits
returns-clause-limits c = subst InLimits (sym c.part.ensures) (part-limits c.args.self.now.model c.requires)

pub returns-clause-part : goal.returns-clause-part
returns-clause-part c = c.part.ensures ∙ part-is c.args.self.now.model c.requires
