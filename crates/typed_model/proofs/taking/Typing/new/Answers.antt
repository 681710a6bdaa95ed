use Rattle.typed_model.proofs.TakenLaws.{HasTaken-start}
use Rattle.typed_model.proofs.taking.Typing.new.Goals as goal

pub returns : goal.returns
returns c = record { taken = HasTaken-start c.new.result c.new-2.result.items c.new.ensures c.new-2.ensures.items }
