use Rattle.std.proofs.Common.{◌∙◌, ◌≤◌, ℕ, length, ap, sym, subst, arith}
use Rattle.std.specs.List.{All}
use Rattle.core_occurrences.specs.Lists.{OccurrenceLists, added}
use Rattle.fixpoint_queue.proofs.Handings.{come-all, handed-on, holds-on}
use Rattle.fixpoint_queue.proofs.handing.hand_over.Goals as goal

pub add-requires-clause-vars : goal.add-requires-clause-vars
add-requires-clause-vars c =
    subst (λ (o : OccurrenceLists). All (λ (v : ℕ). (1 ≤ v) × (v ≤ length o.lists)) c.args.come.now) (sym c.exchange.ensures.lists)
    (come-all c.args.occurs.now c.args.gone c.args.held c.args.come.now c.requires.vars)

pub returns-clause-handed : goal.returns-clause-handed
returns-clause-handed c =
    handed-on c.args.occurs.now c.args.gone c.args.held c.args.come.now c.requires.vars c.add.new.self
    (c.add.ensures.lists ∙ ap (λ (o : OccurrenceLists). added o c.args.held c.args.come.now) c.exchange.ensures.lists) c.add.ensures.occurrences
    (λ e. omega (arith, e, c.requires.gone.1)) c.requires.absent

pub returns-clause-holds : goal.returns-clause-holds
returns-clause-holds c =
    holds-on c.args.occurs.now c.args.gone c.args.held c.args.come.now c.requires.vars c.add.new.self
    (c.add.ensures.lists ∙ ap (λ (o : OccurrenceLists). added o c.args.held c.args.come.now) c.exchange.ensures.lists) c.add.ensures.occurrences
