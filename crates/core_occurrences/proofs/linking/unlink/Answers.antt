use Rattle.core_occurrences.proofs.Linked.{unlinked-from, none-from}
use Rattle.core_occurrences.proofs.linking.unlink.Goals as goal

pub returns-in-Some-clause-unlinked : goal.returns-in-Some-clause-unlinked
returns-in-Some-clause-unlinked c =
    unlinked-from c.args.nodes.now c.pass.new.nodes c.args.rings.now c.args.id c.in-Some.node c.requires.held c.in-Some.ensures.passed c.requires.id.0 c.pass.auto.nodes c.unlink.new.self c.unlink.ensures.lists c.unlink.ensures.rings

pub returns-in-None-clause-none : goal.returns-in-None-clause-none
returns-in-None-clause-none c =
    none-from c.args.nodes.now c.pass.new.nodes c.args.rings.now c.args.id c.requires.held c.in-None.ensures.passed
