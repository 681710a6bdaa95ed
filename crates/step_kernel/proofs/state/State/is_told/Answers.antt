use Rattle.std.proofs.Common.{sym}
use Rattle.step_kernel.proofs.Holes.{formed-there}
use Rattle.step_kernel.proofs.SettledStates.{told, not-told}
use Rattle.step_kernel.proofs.state.State.is_told.Goals as goal

pub is_instance-requires : goal.is_instance-requires
is_instance-requires c = (formed-there c.args.self.now.cores c.args.id c.in-Some.core.now (sym c.in-Some.ensures.core) c.in-Some.ensures.kernel.formed).0

pub returns-in-Some-clause-told : goal.returns-in-Some-clause-told
returns-in-Some-clause-told c = told c.args.self.now c.args.id c.in-Some.core.now (sym c.in-Some.ensures.core) c.args.e.now c.is_instance.result c.is_instance.ensures

pub returns-in-Some-clause-not_told : goal.returns-in-Some-clause-not_told
returns-in-Some-clause-not_told c = not-told c.args.self.now c.args.id c.in-Some.core.now (sym c.in-Some.ensures.core) c.args.e.now c.is_instance.result c.is_instance.ensures
