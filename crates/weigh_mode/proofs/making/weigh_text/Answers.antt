use Rattle.model_texts.proofs.ModelShapes.{limited}
use Rattle.model_texts.proofs.Weights.{exact}
use Rattle.weigh_mode.proofs.making.weigh_text.Goals as goal

pub weigh_model-requires-clause-limits : goal.weigh_model-requires-clause-limits
weigh_model-requires-clause-limits c = limited c.args.text.now c.in-Ok.model c.requires c.in-Ok.ensures.model

pub weigh_model-requires-clause-fits : goal.weigh_model-requires-clause-fits
weigh_model-requires-clause-fits c = exact c.args.text.now c.in-Ok.model c.requires c.in-Ok.ensures.model
