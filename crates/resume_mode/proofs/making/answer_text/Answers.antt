use Rattle.model_texts.proofs.ModelShapes.{typed, limited}
use Rattle.resume_mode.proofs.making.answer_text.Goals as goal

pub write_wished-requires-clause-typed : goal.write_wished-requires-clause-typed
write_wished-requires-clause-typed g c = typed c.requires.held.0 c.args.asked.model c.requires.held.1.says

pub write_wished-requires-clause-limits : goal.write_wished-requires-clause-limits
write_wished-requires-clause-limits g c = limited c.requires.held.0 c.args.asked.model c.requires.held.1.within c.requires.held.1.says

pub write_wished-requires-clause-heard : goal.write_wished-requires-clause-heard
write_wished-requires-clause-heard g c =
    c.requires.heard c.args.asked.model (typed c.requires.held.0 c.args.asked.model c.requires.held.1.says)
    (limited c.requires.held.0 c.args.asked.model c.requires.held.1.within c.requires.held.1.says)
