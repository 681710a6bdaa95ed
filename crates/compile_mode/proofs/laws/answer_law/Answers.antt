use Rattle.compile_mode.proofs.Answered.{compile-answered}
use Rattle.compile_mode.proofs.laws.answer_law.Goals as goal

pub returns : goal.returns
returns c = compile-answered
