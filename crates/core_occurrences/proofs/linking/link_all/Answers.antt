use Rattle.std.proofs.Common.{arith}
use Rattle.core_occurrences.proofs.Listed.{linking-none, linking-more}
use Rattle.core_occurrences.proofs.linking.link_all.Goals as goal

pub loop-var-init : goal.loop-var-init
loop-var-init c = linking-none c.args.nodes.now c.args.rings.now c.args.heads.now c.args.id c.args.vars.now c.requires.chains c.requires.held

pub loop-var-preserved : goal.loop-var-preserved
loop-var-preserved c =
    linking-more c.args.nodes.now c.args.rings.now c.loop-var.nodes c.loop-var.rings c.loop-var.heads c.args.id c.args.vars.now c.loop-var.var-index c.loop-var.invariant c.requires.increasing c.requires.vars (omega arith) c.link.new.nodes c.link.new.rings c.link.new.heads c.link.ensures.linked c.link.ensures.chains
