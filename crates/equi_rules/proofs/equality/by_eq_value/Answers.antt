use Rattle.std.proofs.Common.{◌≡◌, nat_eq, [], ◌∷◌, pos, ◌+ℤ◌, to_z, of_z, refl, ap, ◌∙◌}
use mir.Syntax.{w128}
use Rattle.std.specs.Option.{option_or}
use Rattle.order_ints.specs.declared.atom.Atom.{Atom}
use Rattle.order_ints.specs.declared.order_int.OrdInt.{OrdInt}
use Rattle.order_ints.specs.OrderLevels.{at_of}
use Rattle.order_ints.specs.Walk.{has_value}
use Rattle.rule_base.specs.Pairs.{first_sought, only_if}
use Rattle.equi_rules.proofs.RowFound.{same_value, next_value, same_test, value-found}
use Rattle.equi_rules.proofs.equality.by_eq_value.Goals as goal

pub returns : goal.returns
returns c =
    let v = c.args.v in
    let d = c.args.d.now in
    let along : c.along-walk.result.int.now ≡ d = c.along-walk.ensures in
    let had : c.has-is_value.new.self.int.now ≡ d = c.has-is_value.ensures.same ∙ along in
    let reached : c.at-reached.new.self.int.now ≡ d = c.at-reached.ensures.same ∙ had in
    let bits = same_value v v refl c.requires.v in
    let next = next_value v v refl c.requires.v in
    c.or-3.ensures
    ∙ ap (λ o. option_or o c.when-4.result) (c.or-2.ensures ∙ ap (λ o. option_or o c.when-3.result) c.or.ensures)
    ∙ value-found c.args.sought c.args.r v d c.at-reached.result c.at-above.result c.is_false.result c.has-is_value.result _ _
    c.when.result c.when-2.result c.when-3.result c.when-4.result
    (c.at-reached.ensures.atom ∙ ap (λ (a : OrdInt). at_of a (to_z w128 (of_z w128 v))) had ∙ ap (at_of d) bits)
    (c.at-above.ensures.atom ∙ ap (λ (a : OrdInt). at_of a (to_z w128 (of_z w128 (to_z w128 (of_z w128 v) +ℤ pos 1)))) reached ∙ ap (at_of d) next)
    c.is_false.ensures
    (c.has-is_value.ensures.value ∙ ap (λ (a : OrdInt). has_value a (to_z w128 (of_z w128 v))) along ∙ ap (has_value d) bits)
    (same_test v c.low.result _ c.requires.v c.low.ensures.value c.requires.d.0.0)
    (same_test v c.high.result _ c.requires.v c.high.ensures.value c.requires.d.0.1)
    c.when.ensures c.when-2.ensures
    (c.when-3.ensures ∙ ap (λ (y : Atom). first_sought c.args.sought (only_if (nat_eq (of_z w128 v) (of_z w128 c.low.result)) ((c.args.r, y) ∷ []))) c.not.ensures)
    c.when-4.ensures
