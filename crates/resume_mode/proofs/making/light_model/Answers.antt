use Rattle.model_texts.proofs.ModelShapes.{limited}
use Rattle.model_texts.proofs.HeavyFaults.{heavy_caused}
use Rattle.resume_mode.proofs.making.light_model.Goals as goal

pub weigh-requires : goal.weigh-requires
weigh-requires c = limited c.args.text.now c.in_ok-model.model c.requires c.in_ok-model.ensures.model

pub returns-in-Ok-clause-model : goal.returns-in-Ok-clause-model
returns-in-Ok-clause-model c = record { within = c.requires; says = c.in_ok-model.ensures.model; light = c.in-Ok.ensures.light }

pub returns-in-Err-clause-fault : goal.returns-in-Err-clause-fault
returns-in-Err-clause-fault c =
    heavy_caused c.args.text.now c.in_ok-model.model c.in-Err.fault _ c.requires c.in_ok-model.ensures.model c.in-Err.ensures.heavy c.lower_fault.ensures
