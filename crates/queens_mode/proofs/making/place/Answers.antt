use Rattle.queens_mode.proofs.Placings.{placed}
use Rattle.queens_mode.proofs.making.place.Goals as goal

pub returns-in_ok-text-in-Ok : goal.returns-in_ok-text-in-Ok
returns-in_ok-text-in-Ok g c =
    placed c.args.options c.args.size c.in_ok-model.model c.in-Ok.answered _ _ c.in_ok-model.ensures.model c.in_ok-model.ensures.typed c.in_ok-model.ensures.limits c.in_ok-model.ensures.light
    c.in-Ok.ensures.answer c.in-Ok.ensures.decls c.in-Ok.ensures.size c.in_ok-text-in-Ok.ensures c.outcome_of.ensures

pub answer_model-requires-clause-heard : goal.answer_model-requires-clause-heard
answer_model-requires-clause-heard g c = c.requires.heard c.in_ok-model.model c.in_ok-model.ensures.typed c.in_ok-model.ensures.limits
