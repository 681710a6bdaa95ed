use Rattle.model_texts.proofs.ModelShapes.{typed, limited}
use Rattle.model_texts.proofs.HeavyFaults.{heavy_caused}
use Rattle.model_texts.proofs.held_models.held_model.Goals as goal

pub lower-requires-clause-typed : goal.lower-requires-clause-typed
lower-requires-clause-typed c = typed c.args.text.now c.in_ok-model.model c.in_ok-model.ensures.model

pub lower-requires-clause-limits : goal.lower-requires-clause-limits
lower-requires-clause-limits c = limited c.args.text.now c.in_ok-model.model c.requires c.in_ok-model.ensures.model

pub returns-in-Ok-clause-model : goal.returns-in-Ok-clause-model
returns-in-Ok-clause-model c = (record { within = c.requires; says = c.in_ok-model.ensures.model; light = c.in-Ok.ensures.light }, c.in-Ok.ensures.shape)

pub returns-in-Err-clause-fault : goal.returns-in-Err-clause-fault
returns-in-Err-clause-fault c =
    heavy_caused c.args.text.now c.in_ok-model.model c.in-Err.fault _ c.requires c.in_ok-model.ensures.model c.in-Err.ensures.heavy c.lower_fault.ensures
