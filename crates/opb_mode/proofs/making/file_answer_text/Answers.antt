use Rattle.opb_mode.proofs.Shapes.{well, limits}
use Rattle.opb_mode.proofs.making.file_answer_text.Goals as goal

pub write_answer-requires-clause-typed : goal.write_answer-requires-clause-typed
write_answer-requires-clause-typed g c = well c.args.text.now c.in_ok-opb.opb c.in-Ok.model c.in_ok-opb.ensures.file c.in-Ok.ensures.model

pub write_answer-requires-clause-heard : goal.write_answer-requires-clause-heard
write_answer-requires-clause-heard g c =
    c.requires.heard c.in-Ok.model (well c.args.text.now c.in_ok-opb.opb c.in-Ok.model c.in_ok-opb.ensures.file c.in-Ok.ensures.model)
    (limits c.args.text.now c.in_ok-opb.opb c.in-Ok.model c.in_ok-opb.ensures.file c.in-Ok.ensures.model)
