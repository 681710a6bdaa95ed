use Rattle.std.proofs.Common.{◌≡◌, ◌↔◌, Bool, List, ℤ, IsTrue, get_or}
use Rattle.model_meaning.specs.declared.model.Stmt.{Stmt}
use Rattle.model_meaning.specs.Holds.{Holds, holds}
use Rattle.model_meaning.proofs.DomainLaws.{AllInLimit-in_domains}
use Rattle.model_meaning.proofs.SolutionLaws.{StmtsInLimit-get_or, at_place}
use Rattle.model_meaning.proofs.TableLaws.{Decides-holds}
use Rattle.model_meaning.proofs.solutions.holds.Goals as goal

pub what_holds-requires-clause-what : goal.what_holds-requires-clause-what
what_holds-requires-clause-what c =
    rw c.as_slice-stmts.ensures (StmtsInLimit-get_or c.args.model.now.stmts c.args.place c.index-stmts-place.result c.requires.place c.requires.limits.1)

pub what_holds-requires-clause-values : goal.what_holds-requires-clause-values
what_holds-requires-clause-values c =
    rw c.as_slice.ensures (AllInLimit-in_domains c.args.model.now.decls c.args.a.now.values c.requires.limits.0 c.requires.domains)

same_truth : (a : List ℤ) (r : Bool) (s : Stmt) → r ≡ holds a s.what → IsTrue r ↔ Holds a s.what
same_truth a r s e = rw e (Decides-holds a s.what)

pub returns-clause-test : goal.returns-clause-test
returns-clause-test c =
    let a = c.args.a.now.values in
    let e = rw (c.as_slice-stmts.ensures, c.as_slice.ensures) at c.what_holds.ensures in
    at_place (λ s. c.what_holds.result ≡ holds a s.what) c.args.model.now.stmts c.args.place c.index-stmts-place.result c.requires.place e

pub returns-clause-meaning : goal.returns-clause-meaning
returns-clause-meaning c =
    let a = c.args.a.now.values in
    let e = rw (c.as_slice-stmts.ensures, c.as_slice.ensures) at c.what_holds.ensures in
    at_place (λ s. IsTrue c.what_holds.result ↔ Holds a s.what) c.args.model.now.stmts c.args.place c.index-stmts-place.result c.requires.place (same_truth a c.what_holds.result (get_or c.args.model.now.stmts c.args.place c.index-stmts-place.result) e)
