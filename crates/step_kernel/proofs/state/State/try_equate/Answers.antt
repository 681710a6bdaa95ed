use Rattle.std.proofs.Common.{◌≡◌, true, rules}
use Rattle.core_rules.specs.Instances.{is_instance_at}
use Rattle.step_kernel.proofs.There.{there-formed, there-labels, there-equated}
use Rattle.step_kernel.proofs.state.State.try_equate.Goals as goal

pub is_instance-requires : goal.is_instance-requires
is_instance-requires c = there-formed c.args.self.now c.args.id c.args.core.now c.requires.kernel c.requires.there

pub equate-requires-clause-first : goal.equate-requires-clause-first
equate-requires-clause-first c =
    let instance : is_instance_at c.args.core.now c.args.e.now ≡ true = search rules in
    (there-labels c.args.self.now c.args.id c.args.core.now c.requires.kernel c.requires.there c.args.e.now instance).0

pub equate-requires-clause-second : goal.equate-requires-clause-second
equate-requires-clause-second c =
    let instance : is_instance_at c.args.core.now c.args.e.now ≡ true = search rules in
    (there-labels c.args.self.now c.args.id c.args.core.now c.requires.kernel c.requires.there c.args.e.now instance).1

pub equate-requires-clause-kernel : goal.equate-requires-clause-kernel
equate-requires-clause-kernel c =
    let instance : is_instance_at c.args.core.now c.args.e.now ≡ true = search rules in
    there-equated c.args.self.now c.args.id c.args.core.now c.requires.kernel c.requires.there c.args.e.now instance
