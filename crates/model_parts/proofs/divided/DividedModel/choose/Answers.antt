use Rattle.model_parts.proofs.Weaving.{moved-divided}
use Rattle.model_parts.proofs.divided.DividedModel.choose.Goals as goal

pub returns-clause-divided : goal.returns-clause-divided
returns-clause-divided c = λ model h. moved-divided model c.args.self c.args.out.items c.moved.result c.moved.ensures h
