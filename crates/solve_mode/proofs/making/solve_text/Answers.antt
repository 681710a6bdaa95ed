use Rattle.model_texts.proofs.ModelShapes.{typed, limited}
use Rattle.model_texts.proofs.HeavyFaults.{heavy_caused}
use Rattle.solve_mode.proofs.making.solve_text.Goals as goal

pub write_answer-requires-clause-typed : goal.write_answer-requires-clause-typed
write_answer-requires-clause-typed g c = typed c.args.text.now c.in_ok-model.model c.in_ok-model.ensures.model

pub write_answer-requires-clause-limits : goal.write_answer-requires-clause-limits
write_answer-requires-clause-limits g c = limited c.args.text.now c.in_ok-model.model c.requires.short c.in_ok-model.ensures.model

pub returns-in-Ok-clause-solved : goal.returns-in-Ok-clause-solved
returns-in-Ok-clause-solved g c = record {
  model = c.in_ok-model.model;
  held = record { within = c.requires.short; says = c.in_ok-model.ensures.model; light = c.in-Ok.ensures.light };
  is = c.in-Ok.ensures.text;
}

pub returns-in-Err-clause-fault : goal.returns-in-Err-clause-fault
returns-in-Err-clause-fault g c =
    heavy_caused c.args.text.now c.in_ok-model.model c.in-Err.fault _ c.requires.short c.in_ok-model.ensures.model c.in-Err.ensures.heavy c.lower_fault.ensures

pub write_answer-requires-clause-heard : goal.write_answer-requires-clause-heard
write_answer-requires-clause-heard g c =
    c.requires.heard c.in_ok-model.model (typed c.args.text.now c.in_ok-model.model c.in_ok-model.ensures.model) (limited c.args.text.now c.in_ok-model.model c.requires.short c.in_ok-model.ensures.model)
