use Rattle.std.proofs.Common.{◌≡◌, ℤ, to_z, of_z, rules, ap, ◌∙◌}
use Rattle.std.specs.Prelude.{filter, int_lt}
use mir.Syntax.{w128}
use Rattle.std.proofs.lemmas.Int.{to_z-of_z}
use Rattle.order_ints.specs.declared.atom.Atom.{Atom}
use Rattle.order_ints.specs.declared.order_int.OrdInt.{OrdInt}
use Rattle.order_ints.specs.OrderLevels.{levels_of, at_of}
use Rattle.arith_rules.specs.Links.{alike_where}
use Rattle.arith_rules.proofs.Beside.{linked_pair, alike-is}
use Rattle.equation_runs.proofs.LinkSteps.{pair-where, pairs-first, pair-done}
use Rattle.equation_runs.proofs.maxima.push_alike.Goals as goal

pub loop-value-init : goal.loop-value-init
loop-value-init c =
    let a = c.args.a.now in
    let b = c.args.b.now in
    let n = c.args.least.now in
    let walk : c.into_iter-value-iterator.result ≡ levels_of a = c.into_iter-value-iterator.ensures.into_iter_gives ∙ c.levels-value-items.ensures.shape in
    record {
      run = pairs-first (linked_pair (λ v. v) b) (filter (λ (level : ℤ × Atom). int_lt n level.0) c.into_iter-value-iterator.result) (filter (λ (level : ℤ × Atom). int_lt n level.0) (levels_of a)) (alike_where (int_lt n) a b) c.args.run.now.items
          (ap (filter (λ (level : ℤ × Atom). int_lt n level.0)) walk) (alike-is (int_lt n) a b c.requires.a);
      same = c.along-walk.ensures;
    }

pub loop-value-preserved : goal.loop-value-preserved
loop-value-preserved c =
    let b = c.args.b.now in
    let n = c.args.least.now in
    let other : c.at-other.result ≡ at_of b c.in-Some.value =
    c.at-other.ensures.atom ∙ ap (λ (w : OrdInt). at_of w (to_z w128 (of_z w128 c.in-Some.value))) c.loop-value.invariant.same ∙ ap (at_of b) (to_z-of_z w128 c.in-Some.value (search rules)) in
    let above : int_lt (to_z w128 (of_z w128 n)) (to_z w128 (of_z w128 c.in-Some.value)) ≡ int_lt n c.in-Some.value = λ i. int_lt (to_z-of_z w128 n (search rules) i) (to_z-of_z w128 c.in-Some.value (search rules) i) in
    record {
      run = pair-where (linked_pair (λ v. v) b) (int_lt n) c.loop-value.value-iterator c.next.new.self (c.in-Some.value, c.in-Some.atom) (c.in-Some.atom, c.at-other.result) _ c.loop-value.run.items c.push_where.new.run.items _
          c.in-Some.ensures.steps (λ i. (c.in-Some.atom, other i)) above c.in_ok-push_where.ensures c.loop-value.invariant.run;
      same = c.at-other.ensures.same ∙ c.loop-value.invariant.same;
    }

pub returns : goal.returns
returns c =
    pair-done (linked_pair (λ v. v) c.args.b.now) (filter (λ (level : ℤ × Atom). int_lt c.args.least.now level.0) c.loop-value.value-iterator) c.loop-value.run.items _
    (ap (filter (λ (level : ℤ × Atom). int_lt c.args.least.now level.0)) c.in-None.ensures.steps.0) c.loop-value.invariant.run
