use Rattle.state_compile.proofs.Answered.{compilation-kept, compilation-models}
use Rattle.state_compile.proofs.InOrder.{order-leads}
use Rattle.state_compile.proofs.laws.compilation_law.Goals as goal

pub returns-clause-leads : goal.returns-clause-leads
returns-clause-leads g c start last ledger h = order-leads g.F.Oracle.told start last ledger h.lines

pub returns-clause-kernel : goal.returns-clause-kernel
returns-clause-kernel g c start last ledger is h = (compilation-kept g.F.Oracle.told start last ledger is h).kernel

pub returns-clause-later : goal.returns-clause-later
returns-clause-later g c start last ledger is h = let kept = compilation-kept g.F.Oracle.told start last ledger is h in (kept.longer, kept.later)

pub returns-clause-models : goal.returns-clause-models
returns-clause-models g c = compilation-models g.F.Oracle.told
