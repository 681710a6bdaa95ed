use Rattle.bee_compile.proofs.Compilation.{compilation}
use Rattle.bee_compile.proofs.laws.compilation_law.Goals as goal

pub returns : goal.returns
returns g c = compilation g.F.Oracle.told
