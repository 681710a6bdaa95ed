use Rattle.model_meaning.proofs.DomainLaws.{AllInLimit-in_domains}
use Rattle.model_meaning.proofs.SolutionLaws.{first_broken-none}
use Rattle.model_meaning.proofs.solutions.first_broken.Goals as goal

pub first_failing-requires-clause-values : goal.first_failing-requires-clause-values
first_failing-requires-clause-values c =
    rw c.as_slice.ensures (AllInLimit-in_domains c.args.model.now.decls c.args.a.now.values c.requires.limits.0 c.requires.domains)

pub returns-clause-none : goal.returns-clause-none
returns-clause-none c =
    rw (c.first_failing.ensures, c.as_slice.ensures, c.as_slice-2.ensures) (first_broken-none c.args.a.now.values c.args.model.now.stmts)
