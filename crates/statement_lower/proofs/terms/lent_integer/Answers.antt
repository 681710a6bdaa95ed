use Rattle.std.proofs.Common.{◌≡◌, length, Some, refl, ap, subst, ◌∙◌, rules}
use Rattle.std.proofs.lemmas.Option.{slice_get_read}
use Rattle.order_ints.specs.declared.order_int.MapValue.TheVariants.{Int}
use Rattle.order_ints.specs.OrderRange.{IsBounded}
use Rattle.statement_lower.specs.Terms.{integer_at}
use Rattle.statement_lower.proofs.EntryLaws.{AreInLimit-at}
use Rattle.statement_lower.proofs.terms.lent_integer.Goals as goal

pub returns-in-Some-Int-clause-bounded : goal.returns-in-Some-Int-clause-bounded
returns-in-Some-Int-clause-bounded c = λ h.
    let entries = c.args.entries.now in
    let read = c.in-Some-Int.ensures.lookup in
    let e = slice_get_read entries (length entries) c.in-Of.place c.in-Some-Int.field-0.now refl read.3.0 read.1 in
    let k : c.in-Some-Int.field-0.now ≡ Int c.in-Some-Int.int = search rules in
    subst (λ o. IsBounded (integer_at o)) (e ∙ ap Some k) (AreInLimit-at entries c.in-Of.place h)
