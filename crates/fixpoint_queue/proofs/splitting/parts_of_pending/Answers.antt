use Rattle.std.proofs.Common.{◌≡◌, ◌+◌, length, sym}
use Rattle.std.proofs.lemmas.Result.{IfOk-weaker}
use Rattle.part_base.specs.declared.parts.Parts.{Parts}
use Rattle.core_parts.specs.Parts.{parts_at}
use Rattle.step_kernel.specs.SplitAt.{ArePartsAt}
use Rattle.fixpoint_queue.proofs.Cuttings.{stable-trimmed, stable-compound, parts-are}
use Rattle.fixpoint_queue.proofs.splitting.parts_of_pending.Goals as goal

pub parts_of_lent-requires-clause-there : goal.parts_of_lent-requires-clause-there
parts_of_lent-requires-clause-there c = stable-trimmed c.args.state.now c.args.id c.in-Some.core.now (c.requires.stable c.if-stable.true) (sym c.in-Some.ensures.core)

pub parts_of_lent-requires-clause-compound : goal.parts_of_lent-requires-clause-compound
parts_of_lent-requires-clause-compound c = stable-compound c.args.state.now c.args.id c.in-Some.core.now (c.requires.stable c.if-stable.true) (sym c.in-Some.ensures.core) c.requires.compound

pub returns-in-Some : goal.returns-in-Some
returns-in-Some c =
    let stable = c.requires.stable c.if-stable.true in
    IfOk-weaker c.parts_of_lent.result (λ (parts : Parts). parts ≡ parts_at (length c.args.state.now.view + 1) c.in-Some.core.now) (λ (parts : Parts). ArePartsAt c.args.state.now c.args.id parts)
    (λ parts are.
    parts-are c.args.state.now c.args.id c.in-Some.core.now parts (stable-trimmed c.args.state.now c.args.id c.in-Some.core.now stable (sym c.in-Some.ensures.core))
    (stable-compound c.args.state.now c.args.id c.in-Some.core.now stable (sym c.in-Some.ensures.core) c.requires.compound) are)
    c.parts_of_lent.ensures
