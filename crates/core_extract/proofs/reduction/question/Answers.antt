use Rattle.std.proofs.Common.{sym, ap, ◌∙◌, subst}
use Rattle.model_meaning.specs.declared.model.Model.{Model}
use Rattle.model_meaning.specs.Limits.{InLimits}
use Rattle.model_meaning.specs.WellTyped.{WellTyped}
use Rattle.core_extract.specs.Extracted.{IsReply}
use Rattle.core_extract.proofs.Divisions.{part-typed, part-limits, anew-part}
use Rattle.core_extract.proofs.reduction.question.Goals as goal

pub ask-requires-clause-typed : goal.ask-requires-clause-typed
ask-requires-clause-typed g c = subst WellTyped (sym c.part.ensures) (part-typed c.in_ok-model.model c.in_ok-model.ensures.fit)

pub ask-requires-clause-limits : goal.ask-requires-clause-limits
ask-requires-clause-limits g c = subst InLimits (sym c.part.ensures) (part-limits c.in_ok-model.model c.in_ok-model.ensures.fit)

pub ask-requires-clause-goal : goal.ask-requires-clause-goal
ask-requires-clause-goal g c = ap (λ (m : Model). m.goal) c.part.ensures ∙ c.in_ok-model.ensures.fit.divided.goal

pub returns-clause-reply : goal.returns-clause-reply
returns-clause-reply g c =
    subst (λ (m : Model). IsReply g.F.Oracle.told m c.args.asker.now.options c.in_ok-reply.reply)
    (c.part.ensures ∙ anew-part c.args.model c.in_ok-model.model c.args.out.now c.in_ok-model.ensures) c.in_ok-reply.ensures
