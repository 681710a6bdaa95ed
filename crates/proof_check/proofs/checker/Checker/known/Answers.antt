use Rattle.std.proofs.Common.{◌∙◌, ap}
use Rattle.proof_check.specs.Lrat.{Proof}
use Rattle.proof_check.specs.Known.{known}
use Rattle.proof_check.proofs.Checks.{all-known}
use Rattle.proof_check.proofs.checker.Checker.known.Goals as goal

pub returns : goal.returns
returns c =
    c.has_clause.ensures ∙ all-known c.self.inside.vars c.self.inside.given c.self.inside.arena c.args.lits.now
    ∙ ap (λ (p : Proof). known p c.args.lits.now) c.self.view_is
