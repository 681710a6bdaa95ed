use Rattle.std.proofs.Common.{arith}
use Rattle.core_occurrences.proofs.Linked.{linked-from}
use Rattle.core_occurrences.proofs.linking.link.Goals as goal

pub returns-in-Some-clause-linked : goal.returns-in-Some-clause-linked
returns-in-Some-clause-linked c =
    linked-from c.args.nodes.now c.pass.new.nodes c.args.rings.now c.args.id c.in-Some.node c.requires.held c.in-Some.ensures.passed c.requires.id.0 c.pass.auto.nodes c.args.var c.push_back.new.self (omega (arith, c.requires.var.0, c.requires.var.1)) c.push_back.ensures.lists c.push_back.ensures.rings
