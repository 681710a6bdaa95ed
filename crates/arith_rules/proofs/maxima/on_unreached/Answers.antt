use Rattle.std.proofs.Common.{◌≡◌, List, [], ◌∷◌, map, ℤ, to_z, of_z, rules, refl, sym, ap, ◌∙◌}
use Rattle.std.specs.Prelude.{filter, int_lt}
use mir.Syntax.{w128}
use Rattle.std.proofs.lemmas.Int.{to_z-of_z}
use Rattle.order_ints.specs.declared.atom.Atom.{Atom}
use Rattle.order_ints.specs.declared.atom.Atom.TheVariants.{False}
use Rattle.order_ints.specs.OrderLevels.{levels_of}
use Rattle.rule_base.specs.Pairs.{first_sought, only_if}
use Rattle.arith_rules.proofs.LoopFound.{where-stop, where-next}
use Rattle.arith_rules.proofs.Beside.{false_pair, false-is}
use Rattle.arith_rules.proofs.maxima.on_unreached.Goals as goal

pub loop-value-init : goal.loop-value-init
loop-value-init c =
    let n = c.args.least.now in
    let walk : c.into_iter-value-iterator.result ≡ levels_of c.args.c.now = c.into_iter-value-iterator.ensures.into_iter_gives ∙ c.levels-value-items.ensures.shape in
    record {
      found = ap (λ (ls : List (ℤ × Atom)). first_sought c.args.sought (map false_pair (filter (λ (level : ℤ × Atom). int_lt n level.0) ls))) walk
          ∙ ap (first_sought c.args.sought) (false-is n c.args.c.now c.requires);
    }

pub returns-then-is_some : goal.returns-then-is_some
returns-then-is_some c =
    let n = c.args.least.now in
    let above : int_lt (to_z w128 (of_z w128 n)) (to_z w128 (of_z w128 c.in-Some.value)) ≡ int_lt n c.in-Some.value = λ i. int_lt (to_z-of_z w128 n (search rules) i) (to_z-of_z w128 c.in-Some.value (search rules) i) in
    let found = c.when-pair.ensures ∙ ap (λ t. first_sought c.args.sought (only_if t ((c.in-Some.atom, False) ∷ []))) above in
    where-stop c.args.sought false_pair (λ (level : ℤ × Atom). int_lt n level.0) c.loop-value.value-iterator c.next.new.self (c.in-Some.value, c.in-Some.atom) (c.in-Some.atom, False) c.when-pair.result
    c.in-Some.ensures.steps refl found (sym c.is_some.ensures ∙ c.if-is_some.true)
    ∙ c.loop-value.invariant.found

pub loop-value-preserved : goal.loop-value-preserved
loop-value-preserved c =
    let n = c.args.least.now in
    let above : int_lt (to_z w128 (of_z w128 n)) (to_z w128 (of_z w128 c.in-Some.value)) ≡ int_lt n c.in-Some.value = λ i. int_lt (to_z-of_z w128 n (search rules) i) (to_z-of_z w128 c.in-Some.value (search rules) i) in
    let found = c.when-pair.ensures ∙ ap (λ t. first_sought c.args.sought (only_if t ((c.in-Some.atom, False) ∷ []))) above in
    record {
      found = where-next c.args.sought false_pair (λ (level : ℤ × Atom). int_lt n level.0) c.loop-value.value-iterator c.next.new.self (c.in-Some.value, c.in-Some.atom) (c.in-Some.atom, False) c.when-pair.result
          c.in-Some.ensures.steps refl found (sym c.is_some.ensures ∙ c.if-is_some.false)
          ∙ c.loop-value.invariant.found;
    }
