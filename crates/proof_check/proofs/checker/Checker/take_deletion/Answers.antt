use Rattle.std.proofs.Common.{List, sym, ap, ◌∙◌, subst}
use Rattle.std.specs.Prelude.{Ok}
use Rattle.proof_check.specs.declared.line.ProofLine.TheVariants.{Delete}
use Rattle.proof_check.specs.Lrat.{Proof, take_line}
use Rattle.proof_check.specs.Arena.{Kept}
use Rattle.proof_check.specs.Checking.{proof_in, IsChecker}
use Rattle.proof_check.proofs.Checks.{checker-killed, deletion-taken}
use Rattle.proof_check.proofs.checker.Checker.take_deletion.Goals as goal
use Rattle.proof_check.proofs.checker.Checker.take_deletion.Goals.{in-Err, in-Ok}

pub invariant_of-self : goal.invariant_of-self
invariant_of-self c =
    let P : List Kept → Type 0 = λ ks. IsChecker c.self.inside.vars c.self.inside.given ks c.self.inside.values in
    elim c.match-delete.branch [
      | in-Err w ↦ subst P (sym w.in-Err.ensures.err) c.self.invariant
      | in-Ok w ↦ subst P (sym w.in-Ok.ensures.killed) (checker-killed c.self.inside.vars c.self.inside.given c.self.inside.arena c.self.inside.values c.args.ids.now c.self.invariant)
    ]

pub returns-clause-taken : goal.returns-clause-taken
returns-clause-taken c =
    elim c.match-delete.branch [
      | in-Err w ↦ rw w.result-is tt
      | in-Ok w ↦ rw w.result-is (λ at.
          ap (λ (p : Proof). take_line p (Delete at c.args.ids.now)) (sym c.self.view_is)
          ∙ deletion-taken c.self.inside.vars c.self.inside.given c.self.inside.arena c.args.ids.now w.in-Ok.ensures.ok at
          ∙ ap (λ (ks : List Kept). Ok (proof_in c.self.inside.vars c.self.inside.given ks)) (sym w.in-Ok.ensures.killed))
    ]
