use Rattle.std.proofs.Common.{◌≡◌, true, rules}
use Rattle.core_forms.specs.Basic.{is_basic_of}
use Rattle.step_kernel.proofs.There.{there-formed, there-encoded}
use Rattle.step_kernel.proofs.state.State.try_encode.Goals as goal

pub is_basic-requires : goal.is_basic-requires
is_basic-requires c = there-formed c.args.self.now c.args.id c.args.core.now c.requires.kernel c.requires.there

pub encode-requires-clause-well_formed : goal.encode-requires-clause-well_formed
encode-requires-clause-well_formed c = there-formed c.args.self.now c.args.id c.args.core.now c.requires.kernel c.requires.there

pub encode-requires-clause-kernel : goal.encode-requires-clause-kernel
encode-requires-clause-kernel c =
    let basic : is_basic_of c.args.core.now ≡ true = search rules in
    there-encoded c.args.self.now c.args.id c.args.core.now c.requires.kernel c.requires.there basic
