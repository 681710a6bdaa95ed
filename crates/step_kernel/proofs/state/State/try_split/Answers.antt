use Rattle.std.proofs.Common.{◌≡◌, true, rules}
use Rattle.core_parts.specs.Parts.{is_compound_of}
use Rattle.step_kernel.proofs.There.{there-formed, there-below, there-room, there-divided}
use Rattle.step_kernel.proofs.state.State.try_split.Goals as goal

pub is_compound-requires : goal.is_compound-requires
is_compound-requires c = there-formed c.args.self.now c.args.id c.args.core c.requires.kernel c.requires.there

pub split-requires-clause-well_formed : goal.split-requires-clause-well_formed
split-requires-clause-well_formed c = there-formed c.args.self.now c.args.id c.args.core c.requires.kernel c.requires.there

pub split-requires-clause-below : goal.split-requires-clause-below
split-requires-clause-below c = there-below c.args.self.now c.args.id c.args.core c.requires.kernel c.requires.there

pub split-requires-clause-room : goal.split-requires-clause-room
split-requires-clause-room c = there-room c.args.self.now c.args.id c.args.core c.requires.kernel c.requires.there

pub split-requires-clause-kernel : goal.split-requires-clause-kernel
split-requires-clause-kernel c =
    let compound : is_compound_of c.args.core ≡ true = search rules in
    there-divided c.args.self.now c.args.id c.args.core c.requires.kernel c.requires.there compound
