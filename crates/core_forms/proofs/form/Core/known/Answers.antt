use Rattle.std.proofs.Common.{refl, sym, subst}
use Rattle.core_forms.specs.declared.edges.Known.TheVariants.{ButLast}
use Rattle.core_forms.specs.Edges.{IsKnown}
use Rattle.core_forms.specs.Plain.{IsPlain}
use Rattle.core_forms.proofs.LastMembers.{plain-whole}
use Rattle.core_forms.proofs.form.Core.known.Goals as goal

pub returns-then-is_plain_int : goal.returns-then-is_plain_int
returns-then-is_plain_int c =
    let e = rw c.as_slice.ensures at c.in-Some.ensures in
    subst IsPlain (sym c.in-Sum.is)
    (plain-whole c.in-Sum.ints c.in-Some.last.now e (subst (IsKnown ButLast) c.in-Sum.is c.requires) (c.if-is_plain_int.ensures refl))
