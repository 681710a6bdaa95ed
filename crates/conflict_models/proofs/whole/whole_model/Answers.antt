use Rattle.model_texts.proofs.ModelShapes.{limited}
use Rattle.conflict_models.proofs.whole.whole_model.Goals as goal

pub weight_above-requires : goal.weight_above-requires
weight_above-requires c = limited c.args.text.now c.in-Ok.model c.requires c.in-Ok.ensures.model

pub returns-in-Err-clause-fault : goal.returns-in-Err-clause-fault
returns-in-Err-clause-fault c = c.reading_fault.ensures c.args.text.now c.in-Err.ensures.fault

pub returns-in-Ok-None-clause-model : goal.returns-in-Ok-None-clause-model
returns-in-Ok-None-clause-model c = record { within = c.requires; says = c.in-Ok.ensures.model; light = rw c.in-Ok-None.field-0-is at c.in-Ok-None.ensures }

pub returns-in-Ok-Some-clause-fault : goal.returns-in-Ok-Some-clause-fault
returns-in-Ok-Some-clause-fault c =
    let heavy = rw c.in-Ok-Some.field-0-is at c.in-Ok-Some.ensures in
    (c.in-Ok.model, c.in-Ok.ensures.model, heavy.0, heavy.1)
