use Rattle.std.proofs.Common.{◌-◌, refl, sym, get_or, set}
use Rattle.std.proofs.lemmas.List.{get_or-set_other}
use Rattle.core_occurrences.specs.Chains.{link_of}
use Rattle.core_occurrences.proofs.Chained.{passed-none, handed-in, passed-some, chains-passed}
use Rattle.core_occurrences.proofs.chains.pass.Goals as goal

pub returns-then-head-eq0-clause-passed : goal.returns-then-head-eq0-clause-passed
returns-then-head-eq0-clause-passed c =
    passed-none c.args.nodes.now c.args.heads.now c.args.from c.args.to c.requires.chains c.requires.from c.requires.to c.requires.apart c.if-head-eq0.true

pub bounds-nodes-node : goal.bounds-nodes-node
bounds-nodes-node c =
    handed-in c.args.nodes.now c.args.heads.now c.args.from c.args.to c.requires.chains c.requires.from c.requires.to c.requires.apart c.if-head-eq0.false

pub bounds-nodes-node-2 : goal.bounds-nodes-node-2
bounds-nodes-node-2 c =
    handed-in c.args.nodes.now c.args.heads.now c.args.from c.args.to c.requires.chains c.requires.from c.requires.to c.requires.apart c.if-head-eq0.false

pub returns-clause-passed : goal.returns-clause-passed
returns-clause-passed c =
    passed-some c.args.nodes.now c.args.heads.now c.args.from c.args.to c.requires.chains c.requires.from c.requires.to c.requires.apart c.if-head-eq0.false
    (record { owner = c.args.to; next = get_or (set c.args.heads.now c.args.from (link_of c.args.nodes.now (get_or c.args.heads.now c.args.from 0 - 1))) c.args.to 0 })
    (set (set c.args.heads.now c.args.from (link_of c.args.nodes.now (get_or c.args.heads.now c.args.from 0 - 1))) c.args.to (get_or c.args.heads.now c.args.from 0))
    refl (get_or-set_other c.args.heads.now c.args.from c.args.to _ 0 (λ e. c.requires.apart (sym e))) refl

pub returns-clause-chains : goal.returns-clause-chains
returns-clause-chains c =
    chains-passed c.args.nodes.now c.args.heads.now c.args.from c.args.to c.requires.chains c.requires.from c.requires.to c.requires.apart c.if-head-eq0.false
    (record { owner = c.args.to; next = get_or (set c.args.heads.now c.args.from (link_of c.args.nodes.now (get_or c.args.heads.now c.args.from 0 - 1))) c.args.to 0 })
    (set (set c.args.heads.now c.args.from (link_of c.args.nodes.now (get_or c.args.heads.now c.args.from 0 - 1))) c.args.to (get_or c.args.heads.now c.args.from 0))
    refl (get_or-set_other c.args.heads.now c.args.from c.args.to _ 0 (λ e. c.requires.apart (sym e))) refl
