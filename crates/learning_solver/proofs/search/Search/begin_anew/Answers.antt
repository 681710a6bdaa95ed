use Rattle.learning_solver.proofs.RunLaws.{anew-forgets}
use Rattle.learning_solver.proofs.search.Search.begin_anew.Goals as goal

pub returns-clause-anew : goal.returns-clause-anew
returns-clause-anew c = anew-forgets c.args.self.now c.jump_back.new.self c.reduce.new.self c.jump_back.ensures.jumped c.reduce.ensures.forgets
