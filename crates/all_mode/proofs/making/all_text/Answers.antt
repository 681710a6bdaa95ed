use Rattle.model_texts.proofs.ModelShapes.{typed, limited}
use Rattle.model_texts.proofs.HeavyFaults.{heavy_caused}
use Rattle.all_mode.proofs.Lists.{given-list}
use Rattle.all_mode.proofs.making.all_text.Goals as goal

pub write_solutions-requires-clause-typed : goal.write_solutions-requires-clause-typed
write_solutions-requires-clause-typed g c = typed c.args.text.now c.in_ok-model.model c.in_ok-model.ensures.model

pub write_solutions-requires-clause-limits : goal.write_solutions-requires-clause-limits
write_solutions-requires-clause-limits g c = limited c.args.text.now c.in_ok-model.model c.requires.short c.in_ok-model.ensures.model

pub returns-in-Ok-clause-listed : goal.returns-in-Ok-clause-listed
returns-in-Ok-clause-listed g c =
    given-list c.written_law.ensures c.args.options c.args.text.now _ _
    (record {
      model = c.in_ok-model.model;
      held = record { within = c.requires.short; says = c.in_ok-model.ensures.model; light = c.in-Ok.ensures.light };
      is = c.in-Ok.ensures.text;
    })

pub returns-clause-fault : goal.returns-clause-fault
returns-clause-fault g c =
    heavy_caused c.args.text.now c.in_ok-model.model c.in-Err.fault _ c.requires.short c.in_ok-model.ensures.model c.in-Err.ensures.heavy
    c.lower_fault.ensures
