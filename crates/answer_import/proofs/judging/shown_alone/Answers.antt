use Rattle.std.proofs.Common.{List, refl, subst}
use Rattle.std.proofs.lemmas.List.{append-nil}
use Rattle.order_ints.specs.declared.literal.Lit.{Lit}
use Rattle.proof_import.specs.Refutations.{IsRefutation, RefutationFails}
use Rattle.answer_import.proofs.judging.shown_alone.Goals as goal

pub returns-in-Ok : goal.returns-in-Ok
returns-in-Ok c = (
  subst (λ (cs : List (List Lit)). IsRefutation (record { vars = c.args.cnf.vars; clauses = cs }) c.args.text.now) (append-nil c.args.cnf.clauses) c.in-Ok.ensures.accepted,
  refl,
  refl,
)

pub returns-in-Err-Refused : goal.returns-in-Err-Refused
returns-in-Err-Refused c =
    subst (λ (cs : List (List Lit)). RefutationFails (record { vars = c.args.cnf.vars; clauses = cs }) c.args.text.now c.in-Err-Refused.line) (append-nil c.args.cnf.clauses)
    (rw c.in-Err-Refused.field-0-is at c.in-Err-Refused.ensures.fault)
