use Rattle.std.proofs.Common.{◌≡◌, ◌<◌, ◌^◌, ◌&&◌, List, ◌∷◌, ℤ, pos, ◌+ℤ◌, to_z, of_z, refl, sym, ap, subst, ◌∙◌, arith}
use Rattle.std.specs.Prelude.{unsigned_abs}
use Rattle.std.specs.List.{AllByRecursion}
use Rattle.std.specs.Int.{w128}
use Rattle.std.proofs.lemmas.Int.{ints}
use Rattle.order_ints.specs.declared.atom.Atom.{Atom}
use Rattle.order_ints.specs.declared.order_int.OrdInt.{OrdInt}
use Rattle.order_ints.specs.OrderLevels.{levels_of, at_of}
use Rattle.order_ints.proofs.Everywhere.{levels_small}
use Rattle.core_forms.proofs.Bounds.{small_bits}
use Rattle.rule_base.specs.Pairs.{first_sought}
use Rattle.alldiff_rules.specs.Narrow.{is_needed}
use Rattle.alldiff_rules.specs.RowLists.{value_equations}
use Rattle.alldiff_rules.specs.Walks.{is_alone, level_equations}
use Rattle.alldiff_rules.proofs.Sounds.{next_value}
use Rattle.alldiff_rules.proofs.WalkLaws.{level-stop, level-next}
use Rattle.alldiff_rules.proofs.members.at_values.Goals as goal

-- the first of small levels, and the others
first-small : (ls rest : List (ℤ × Atom)) (l : ℤ × Atom) → ls ≡ l ∷ rest → AllByRecursion (λ (level : ℤ × Atom). unsigned_abs level.0 < 2 ^ 100) ls → (unsigned_abs l.0 < 2 ^ 100) × AllByRecursion (λ (level : ℤ × Atom). unsigned_abs level.0 < 2 ^ 100) rest
first-small ls rest l is all = subst (AllByRecursion (λ (level : ℤ × Atom). unsigned_abs level.0 < 2 ^ 100)) is all

pub loop-value-init : goal.loop-value-init
loop-value-init c =
    let walk : c.into_iter-value-iterator.result ≡ levels_of c.args.a.now = c.into_iter-value-iterator.ensures.into_iter_gives ∙ c.levels-value-items.ensures.shape in
    record {
      found = ap (λ (ls : List (ℤ × Atom)). first_sought c.args.sought (level_equations c.args.tables.now c.args.place c.args.sure c.args.a.now ls)) walk;
      small = subst (AllByRecursion (λ (level : ℤ × Atom). unsigned_abs level.0 < 2 ^ 100)) (sym walk) (levels_small c.args.a.now c.requires.0);
      same = c.along-ahead.ensures;
    }

pub next-requires-in-loop-value : goal.next-requires-in-loop-value
next-requires-in-loop-value c =
    let small = (first-small c.loop-value.value-iterator c.next.new.self (c.in-Some.value, c.in-Some.here) c.in-Some.ensures.steps c.loop-value.invariant.small).0 in
    let back = small_bits c.in-Some.value small in
    omega (arith, ints, small, back)

pub returns-then-is_some : goal.returns-then-is_some
returns-then-is_some c =
    let a = c.args.a.now in
    let tables = c.args.tables.now in
    let v = c.in-Some.value in
    let small = (first-small c.loop-value.value-iterator c.next.new.self (c.in-Some.value, c.in-Some.here) c.in-Some.ensures.steps c.loop-value.invariant.small).0 in
    let key : to_z w128 (of_z w128 v) ≡ v = small_bits v small in
    let needed : c.is_excluded-needed.result ≡ (c.args.sure && is_needed tables.narrow c.args.place v) =
    c.is_excluded-needed.ensures ∙ ap (λ (u : ℤ). c.args.sure && is_needed tables.narrow c.args.place u) key in
    let alone : c.is_alone-alone.result ≡ is_alone tables c.args.place v = c.is_alone-alone.ensures ∙ ap (λ (u : ℤ). is_alone tables c.args.place u) key in
    let above : c.at-above.result ≡ at_of a (v +ℤ pos 1) =
    c.at-above.ensures.atom ∙ ap (λ (w : OrdInt). at_of w (to_z w128 (of_z w128 c.next-in-loop-value.result))) c.loop-value.invariant.same
    ∙ ap (λ (u : ℤ). at_of a u) (next_value v c.next-in-loop-value.result v refl small c.next-in-loop-value.ensures) in
    level-stop c.args.sought tables c.args.place c.args.sure a c.loop-value.value-iterator c.next.new.self v c.in-Some.here c.at_value-pair.result c.in-Some.ensures.steps
    (c.at_value-pair.ensures ∙ (λ i. first_sought c.args.sought (value_equations (needed i) (alone i) c.in-Some.here (above i)))) (sym c.is_some.ensures ∙ c.if-is_some.true)
    ∙ c.loop-value.invariant.found

pub loop-value-preserved : goal.loop-value-preserved
loop-value-preserved c =
    let a = c.args.a.now in
    let tables = c.args.tables.now in
    let v = c.in-Some.value in
    let all = first-small c.loop-value.value-iterator c.next.new.self (c.in-Some.value, c.in-Some.here) c.in-Some.ensures.steps c.loop-value.invariant.small in
    let key : to_z w128 (of_z w128 v) ≡ v = small_bits v all.0 in
    let needed : c.is_excluded-needed.result ≡ (c.args.sure && is_needed tables.narrow c.args.place v) =
    c.is_excluded-needed.ensures ∙ ap (λ (u : ℤ). c.args.sure && is_needed tables.narrow c.args.place u) key in
    let alone : c.is_alone-alone.result ≡ is_alone tables c.args.place v = c.is_alone-alone.ensures ∙ ap (λ (u : ℤ). is_alone tables c.args.place u) key in
    let above : c.at-above.result ≡ at_of a (v +ℤ pos 1) =
    c.at-above.ensures.atom ∙ ap (λ (w : OrdInt). at_of w (to_z w128 (of_z w128 c.next-in-loop-value.result))) c.loop-value.invariant.same
    ∙ ap (λ (u : ℤ). at_of a u) (next_value v c.next-in-loop-value.result v refl all.0 c.next-in-loop-value.ensures) in
    record {
      found = level-next c.args.sought tables c.args.place c.args.sure a c.loop-value.value-iterator c.next.new.self v c.in-Some.here c.at_value-pair.result c.in-Some.ensures.steps
          (c.at_value-pair.ensures ∙ (λ i. first_sought c.args.sought (value_equations (needed i) (alone i) c.in-Some.here (above i)))) (sym c.is_some.ensures ∙ c.if-is_some.false)
          ∙ c.loop-value.invariant.found;
      small = all.1;
      same = c.at-above.ensures.same ∙ c.loop-value.invariant.same;
    }
