use Rattle.std.proofs.Common.{◌+◌, ◌<◌, sym, ◌∙◌, subst, arith}
use Rattle.std.specs.List.{All}
use Rattle.order_ints.specs.declared.literal.Lit.{Lit}
use Rattle.proof_check.specs.Named.{Named}
use Rattle.conflict_analysis.proofs.Places.{in-range, reason-of}
use Rattle.conflict_analysis.proofs.Seeks.{reason-live}
use Rattle.conflict_analysis.proofs.Walks.{reason-vars}
use Rattle.conflict_analysis.proofs.minimiser.reason.Goals as goal

pub entry_of-requires : goal.entry_of-requires
entry_of-requires g c = (in-range (g.T.Reasons.trail c.args.source.now) c.requires.trail c.args.var c.requires.var.entry c.requires.var.found).1

pub returns-clause-live : goal.returns-clause-live
returns-clause-live g c =
    reason-live (g.T.Reasons.trail c.args.source.now) c.requires.trail (g.T.Reasons.named c.args.source.now) (g.T.Reasons.lives c.args.source.now) c.requires.reasons
    c.args.var c.unwrap-2.result c.unwrap.result (sym c.entry_of.ensures ∙ c.unwrap.ensures) c.unwrap-2.ensures

pub returns-clause-vars : goal.returns-clause-vars
returns-clause-vars g c =
    subst (λ (r : Named). All (λ (l : Lit). l.var < (g.T.Reasons.trail c.args.source.now).vars + 1) r.lits)
    (reason-of (g.T.Reasons.named c.args.source.now) (g.T.Reasons.trail c.args.source.now).entries c.args.var c.unwrap-2.result c.unwrap.result (sym c.entry_of.ensures ∙ c.unwrap.ensures) c.unwrap-2.ensures)
    (reason-vars (g.T.Reasons.trail c.args.source.now) c.requires.trail (g.T.Reasons.named c.args.source.now) (g.T.Reasons.lives c.args.source.now) c.requires.reasons
    (g.T.Reasons.named c.args.source.now c.unwrap-2.result) c.args.var (record {
      entry = c.unwrap.result;
      found = sym c.entry_of.ensures ∙ c.unwrap.ensures;
      reference = c.unwrap-2.result;
      because = c.unwrap-2.ensures;
      live = reason-live (g.T.Reasons.trail c.args.source.now) c.requires.trail (g.T.Reasons.named c.args.source.now) (g.T.Reasons.lives c.args.source.now) c.requires.reasons
          c.args.var c.unwrap-2.result c.unwrap.result (sym c.entry_of.ensures ∙ c.unwrap.ensures) c.unwrap-2.ensures;
    }))

pub returns-clause-var : goal.returns-clause-var
returns-clause-var g c =
    let r = in-range (g.T.Reasons.trail c.args.source.now) c.requires.trail c.args.var c.requires.var.entry c.requires.var.found in
    omega arith
