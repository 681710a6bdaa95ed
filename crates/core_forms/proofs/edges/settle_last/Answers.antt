use Rattle.std.proofs.Common.{List, refl, sym, ap, ◌∙◌}
use Rattle.order_ints.specs.declared.order_int.OrdInt.{OrdInt}
use Rattle.core_forms.specs.declared.form.Core.TheVariants.{Sum}
use Rattle.core_forms.proofs.LastMembers.{last_trimmed-same, last_trimmed-with, restored-last, sound-last}
use Rattle.core_forms.proofs.edges.settle_last.Goals as goal

pub returns-then-is_stable_int-clause-settled : goal.returns-then-is_stable_int-clause-settled
returns-then-is_stable_int-clause-settled c =
    let e = rw c.as_slice.ensures at c.in-Some.ensures in
    sym (last_trimmed-same c.args.view.now c.args.ints.now c.in-Some.last.now e (c.if-is_stable_int.ensures refl))

pub trimmed_int-requires : goal.trimmed_int-requires
trimmed_int-requires c =
    let e = rw c.as_slice.ensures at c.in-Some.ensures in
    (sound-last c.args.ints.now c.in-Some.last.now e c.requires).0

pub returns-in-Some-put_last-clause-settled : goal.returns-in-Some-put_last-clause-settled
returns-in-Some-put_last-clause-settled c =
    let e = rw c.as_slice.ensures at c.in-Some.ensures in
    c.put_last.ensures.put ∙ last_trimmed-with c.args.view.now c.args.ints.now c.in-Some.last.now c.in_ok-trimmed.trimmed e c.in_ok-trimmed.ensures.shape

pub returns-in-Some-put_last-clause-restored : goal.returns-in-Some-put_last-clause-restored
returns-in-Some-put_last-clause-restored c = λ k.
    let e = rw c.as_slice.ensures at c.in-Some.ensures in
    let last = c.in-Some.last.now in
    ap (λ (ys : List OrdInt). Sum ys k)
    (restored-last c.args.ints.now c.put_last.new.ints last c.in_ok-trimmed.trimmed c.in-Some-put_last.last e c.put_last.ensures.put (c.in-Some-put_last.ensures.gave last e))
