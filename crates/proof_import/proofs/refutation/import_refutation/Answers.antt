use Rattle.std.proofs.Common.{◌≡◌, ℕ, IfOk, IfErr, Some, sym, subst}
use Rattle.std.specs.Prelude.{IsErrAnd}
use Rattle.order_ints.specs.declared.cnf.Cnf.{Cnf}
use Rattle.order_ints.specs.Place.{InRange}
use Rattle.clause_rings.specs.Clauses.{AreApartIn}
use Rattle.drup_check.specs.Taken.{IsRefusalAt}
use Rattle.drup_check.specs.declared.fault.DrupFault.TheVariants.{Memory}
use Rattle.proof_import.specs.Assumed.{IsAssumable}
use Rattle.proof_import.specs.Refutations.{IsRefutation, RefutationFails, RefutationFaultOf}
use Rattle.proof_import.proofs.WithUnit.{assumed-range, assumed-apart, with-none}
use Rattle.proof_import.proofs.refutation.import_refutation.Goals as goal

pub either-requires-in-Some-clause-in_range : goal.either-requires-in-Some-clause-in_range
either-requires-in-Some-clause-in_range c =
    let cnf = c.args.cnf.now in
    subst InRange (sym c.in_ok-whole-in-Some.ensures) (assumed-range cnf (Some c.in-Some.l) c.requires.in_range (subst (IsAssumable cnf) c.in-Some.is c.requires.assumable))

pub either-requires-in-Some-clause-apart : goal.either-requires-in-Some-clause-apart
either-requires-in-Some-clause-apart c = subst AreApartIn (sym c.in_ok-whole-in-Some.ensures) (assumed-apart c.args.cnf.now (Some c.in-Some.l) c.requires.apart)

pub returns-in-None-clause-accepted : goal.returns-in-None-clause-accepted
returns-in-None-clause-accepted c =
    subst (λ (w : Cnf). IfOk c.either.result (λ _. IsRefutation w c.args.text.now)) (sym (with-none c.args.cnf.now c.args.assumed c.in-None.is)) c.either.ensures.accepted

pub returns-in-None-clause-fault : goal.returns-in-None-clause-fault
returns-in-None-clause-fault c =
    subst (λ (w : Cnf). IfErr c.either.result (RefutationFaultOf w c.args.text.now)) (sym (with-none c.args.cnf.now c.args.assumed c.in-None.is)) c.either.ensures.fault

pub returns-in-None-clause-complete : goal.returns-in-None-clause-complete
returns-in-None-clause-complete c =
    subst (λ (w : Cnf). IsRefutation w c.args.text.now → IfErr c.either.result (λ e. e ≡ Memory)) (sym (with-none c.args.cnf.now c.args.assumed c.in-None.is)) c.either.ensures.complete

pub returns-in-None-clause-exact : goal.returns-in-None-clause-exact
returns-in-None-clause-exact c =
    subst (λ (w : Cnf). (line : ℕ) → RefutationFails w c.args.text.now line → IsErrAnd c.either.result (IsRefusalAt line)) (sym (with-none c.args.cnf.now c.args.assumed c.in-None.is)) c.either.ensures.exact
