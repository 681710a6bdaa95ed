use Rattle.std.proofs.Common.{ap, subst, sym, ◌∙◌}
use Rattle.order_ints.specs.OrderRange.{IsBounded}
use Rattle.statement_lower.specs.Terms.{integer_of}
use Rattle.statement_lower.proofs.EntryLaws.{AreInLimit-at}
use Rattle.statement_lower.proofs.terms.bounded_integer_of.Goals as goal

pub returns-in_ok-integer-in-Of-clause-bounded : goal.returns-in_ok-integer-in-Of-clause-bounded
returns-in_ok-integer-in-Of-clause-bounded c =
    let entries = c.args.entries.now in
    let e = c.in_ok-integer-in-Of.ensures ∙ ap (integer_of entries) c.in-Of.is in
    subst IsBounded (sym e) (AreInLimit-at entries c.in-Of.field-0 c.requires)
