use Rattle.bee_cli.specs.EndLines.{words}
use Rattle.bee_cli.proofs.reporting.say_words.Goals as goal

pub returns-in-Ok : goal.returns-in-Ok
returns-in-Ok g c = record {
  text = c.in-Ok.text.items;
  is = words c.args.words.now (c.is_line.ensures c.if-is_line.true) c.in-Ok.ensures;
  took = rw c.as_slice.ensures.value at c.say.ensures;
}
