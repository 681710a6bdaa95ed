use Rattle.model_texts.proofs.ModelShapes.{typed, limited}
use Rattle.core_mode.proofs.Ends.{heavy-caused}
use Rattle.core_mode.proofs.making.conflict_of.Goals as goal

pub write_extracted-requires-clause-typed : goal.write_extracted-requires-clause-typed
write_extracted-requires-clause-typed g c = typed c.args.text.now c.in-Ok.model c.in-Ok.ensures.model

pub write_extracted-requires-clause-limits : goal.write_extracted-requires-clause-limits
write_extracted-requires-clause-limits g c = limited c.args.text.now c.in-Ok.model c.requires.short c.in-Ok.ensures.model
