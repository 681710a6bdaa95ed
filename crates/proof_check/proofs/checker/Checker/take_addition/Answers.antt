use Rattle.std.proofs.Common.{◌+◌, ◌^◌, List, arith, sym, ap, ◌∙◌, subst}
use Rattle.std.specs.Prelude.{Ok}
use Rattle.proof_check.specs.declared.line.ProofLine.TheVariants.{Add}
use Rattle.proof_check.specs.Lrat.{Proof, take_line}
use Rattle.proof_check.specs.Arena.{Kept, live_in}
use Rattle.proof_check.specs.Checking.{proof_in, IsChecker}
use Rattle.proof_check.proofs.Checks.{checker-more, addition-taken, body-below, clause-wider}
use Rattle.proof_check.proofs.checker.Checker.take_addition.Goals as goal
use Rattle.proof_check.proofs.checker.Checker.take_addition.Goals.{in-Err-push, in-Ok-push}

pub push-requires-clause-below : goal.push-requires-clause-below
push-requires-clause-below c =
    let ok = c.in-Ok.ensures in
    clause-wider (c.self.inside.vars + 1) (2 ^ 27 + 1) c.args.lits.now (omega (arith, c.self.invariant.small))
    (body-below c.self.inside.vars (live_in c.self.inside.arena) c.args.lits.now c.args.hints.now ok.ok)

pub invariant_of-self-in-Ok : goal.invariant_of-self-in-Ok
invariant_of-self-in-Ok c =
    let ok = c.in-Ok.ensures in
    let P : List Kept → Type 0 = λ ks. IsChecker c.self.inside.vars c.self.inside.given ks c.clear.new.self in
    elim c.match-push.branch [
      | in-Err-push w ↦ subst P (sym w.in-Err-push.ensures.err) (record {
        small = c.self.invariant.small;
        enough = c.self.invariant.enough;
        below = c.self.invariant.below;
        size = c.clear.ensures.size ∙ ok.size ∙ c.self.invariant.size;
        free = c.clear.ensures.values;
      })
      | in-Ok-push w ↦ subst P (sym w.in-Ok-push.ensures.ok)
          (checker-more c.self.inside.vars c.self.inside.given c.self.inside.arena c.self.inside.values c.clear.new.self c.args.id c.args.lits.now c.self.invariant
          (body-below c.self.inside.vars (live_in c.self.inside.arena) c.args.lits.now c.args.hints.now ok.ok)
          (c.clear.ensures.size ∙ ok.size ∙ c.self.invariant.size) c.clear.ensures.values)
    ]

pub returns-after-push-clause-taken : goal.returns-after-push-clause-taken
returns-after-push-clause-taken c =
    let ok = c.in-Ok.ensures in
    elim c.match-push.branch [
      | in-Err-push w ↦ rw w.result-is tt
      | in-Ok-push w ↦ rw w.result-is (
          ap (λ (p : Proof). take_line p (Add c.args.id c.args.lits.now c.args.hints.now)) (sym c.self.view_is)
          ∙ addition-taken c.self.inside.vars c.self.inside.given c.self.inside.arena c.args.id c.args.lits.now c.args.hints.now c.self.invariant.enough
          (omega (arith, c.last_id.ensures, c.if-id-last_id.false)) ok.ok
          ∙ ap (λ (ks : List Kept). Ok (proof_in c.self.inside.vars c.self.inside.given ks)) (sym w.in-Ok-push.ensures.ok))
    ]
