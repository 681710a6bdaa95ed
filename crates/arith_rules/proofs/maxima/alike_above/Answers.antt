use Rattle.std.proofs.Common.{◌≡◌, List, [], ◌∷◌, map, ℤ, to_z, of_z, rules, sym, ap, ◌∙◌}
use Rattle.std.specs.Prelude.{filter, int_lt}
use mir.Syntax.{w128}
use Rattle.std.proofs.lemmas.Int.{to_z-of_z}
use Rattle.order_ints.specs.declared.atom.Atom.{Atom}
use Rattle.order_ints.specs.declared.order_int.OrdInt.{OrdInt}
use Rattle.order_ints.specs.OrderLevels.{levels_of, at_of}
use Rattle.rule_base.specs.Pairs.{first_sought, only_if}
use Rattle.arith_rules.proofs.LoopFound.{where-stop, where-next}
use Rattle.arith_rules.proofs.Beside.{linked_pair, alike-is}
use Rattle.arith_rules.proofs.maxima.alike_above.Goals as goal

pub loop-value-init : goal.loop-value-init
loop-value-init c =
    let a = c.args.a.now in
    let b = c.args.b.now in
    let n = c.args.least.now in
    let walk : c.into_iter-value-iterator.result ≡ levels_of a = c.into_iter-value-iterator.ensures.into_iter_gives ∙ c.levels-value-items.ensures.shape in
    record {
      found = ap (λ (ls : List (ℤ × Atom)). first_sought c.args.sought (map (linked_pair (λ v. v) b) (filter (λ (level : ℤ × Atom). int_lt n level.0) ls))) walk
          ∙ ap (first_sought c.args.sought) (alike-is (int_lt n) a b c.requires.a);
      same = c.along-walk.ensures;
    }

pub returns-then-is_some : goal.returns-then-is_some
returns-then-is_some c =
    let b = c.args.b.now in
    let n = c.args.least.now in
    let other : c.at-other.result ≡ at_of b c.in-Some.value =
    c.at-other.ensures.atom ∙ ap (λ (w : OrdInt). at_of w (to_z w128 (of_z w128 c.in-Some.value))) c.loop-value.invariant.same ∙ ap (at_of b) (to_z-of_z w128 c.in-Some.value (search rules)) in
    let above : int_lt (to_z w128 (of_z w128 n)) (to_z w128 (of_z w128 c.in-Some.value)) ≡ int_lt n c.in-Some.value = λ i. int_lt (to_z-of_z w128 n (search rules) i) (to_z-of_z w128 c.in-Some.value (search rules) i) in
    let found = c.when-pair.ensures ∙ ap (λ t. first_sought c.args.sought (only_if t ((c.in-Some.atom, c.at-other.result) ∷ []))) above in
    where-stop c.args.sought (linked_pair (λ v. v) b) (λ (level : ℤ × Atom). int_lt n level.0) c.loop-value.value-iterator c.next.new.self (c.in-Some.value, c.in-Some.atom) (c.in-Some.atom, c.at-other.result) c.when-pair.result
    c.in-Some.ensures.steps (λ i. (c.in-Some.atom, other i)) found (sym c.is_some.ensures ∙ c.if-is_some.true)
    ∙ c.loop-value.invariant.found

pub loop-value-preserved : goal.loop-value-preserved
loop-value-preserved c =
    let b = c.args.b.now in
    let n = c.args.least.now in
    let other : c.at-other.result ≡ at_of b c.in-Some.value =
    c.at-other.ensures.atom ∙ ap (λ (w : OrdInt). at_of w (to_z w128 (of_z w128 c.in-Some.value))) c.loop-value.invariant.same ∙ ap (at_of b) (to_z-of_z w128 c.in-Some.value (search rules)) in
    let above : int_lt (to_z w128 (of_z w128 n)) (to_z w128 (of_z w128 c.in-Some.value)) ≡ int_lt n c.in-Some.value = λ i. int_lt (to_z-of_z w128 n (search rules) i) (to_z-of_z w128 c.in-Some.value (search rules) i) in
    let found = c.when-pair.ensures ∙ ap (λ t. first_sought c.args.sought (only_if t ((c.in-Some.atom, c.at-other.result) ∷ []))) above in
    record {
      found = where-next c.args.sought (linked_pair (λ v. v) b) (λ (level : ℤ × Atom). int_lt n level.0) c.loop-value.value-iterator c.next.new.self (c.in-Some.value, c.in-Some.atom) (c.in-Some.atom, c.at-other.result) c.when-pair.result
          c.in-Some.ensures.steps (λ i. (c.in-Some.atom, other i)) found (sym c.is_some.ensures ∙ c.if-is_some.false)
          ∙ c.loop-value.invariant.found;
      same = c.at-other.ensures.same ∙ c.loop-value.invariant.same;
    }
