use Rattle.std.proofs.Common.{◌≡◌, ◌<◌, ◌^◌, List, map, ℤ, pos, ◌+ℤ◌, to_z, of_z, rules, sym, ap, subst, ◌∙◌}
use Rattle.std.specs.Prelude.{unsigned_abs}
use Rattle.std.specs.List.{AllByRecursion}
use mir.Syntax.{w128}
use Rattle.std.proofs.lemmas.Int.{to_z-of_z}
use Rattle.order_ints.specs.declared.atom.Atom.{Atom}
use Rattle.order_ints.specs.declared.order_int.OrdInt.{OrdInt}
use Rattle.order_ints.specs.Truth.{not_atom}
use Rattle.order_ints.specs.OrderLevels.{levels_of, at_of}
use Rattle.order_ints.proofs.Everywhere.{levels_small}
use Rattle.rule_base.specs.Pairs.{first_sought}
use Rattle.arith_rules.specs.CodeLinks.{link_of, LinkFits}
use Rattle.arith_rules.proofs.LoopFound.{pair-stop, pair-next, all-first, all-both}
use Rattle.arith_rules.proofs.Beside.{above_pair, above-is}
use Rattle.arith_rules.proofs.links.opposed_above.Goals as goal

pub loop-value-init : goal.loop-value-init
loop-value-init c =
    let a = c.args.a.now in
    let b = c.args.b.now in
    let link = c.args.link.now in
    let walk : c.into_iter-value-iterator.result ≡ levels_of a = c.into_iter-value-iterator.ensures.into_iter_gives ∙ c.levels-value-items.ensures.shape in
    let small = levels_small a c.requires.a.0 in
    record {
      found = ap (λ (ls : List (ℤ × Atom)). first_sought c.args.sought (map (above_pair (link_of link) a b) ls)) walk ∙ ap (first_sought c.args.sought) (above-is (link_of link) a b c.requires.a);
      fits = subst (AllByRecursion (λ (level : ℤ × Atom). (unsigned_abs level.0 < 2 ^ 100) × LinkFits link level.0)) (sym walk)
          (all-both (λ (level : ℤ × Atom). unsigned_abs level.0 < 2 ^ 100) (λ (level : ℤ × Atom). LinkFits link level.0) (levels_of a) small c.requires.fits);
      same = c.along-walk.ensures;
      above_same = c.along-above.ensures;
    }

pub returns-then-is_some : goal.returns-then-is_some
returns-then-is_some c =
    let s = c.args.sought in
    let a = c.args.a.now in
    let b = c.args.b.now in
    let link = c.args.link.now in
    let target : c.of-target.result ≡ link_of link c.in-Some.value = c.of-target.ensures ∙ ap (link_of link) (to_z-of_z w128 c.in-Some.value (search rules)) in
    let other : c.at-other.result ≡ at_of b (link_of link c.in-Some.value) =
    c.at-other.ensures.atom ∙ ap (λ (w : OrdInt). at_of w (to_z w128 (of_z w128 c.of-target.result))) c.loop-value.invariant.same
    ∙ ap (at_of b) (to_z-of_z w128 c.of-target.result (search rules) ∙ target) in
    let upper : c.at-upper.result ≡ at_of a (c.in-Some.value +ℤ pos 1) =
    c.at-upper.ensures.atom ∙ ap (λ (w : OrdInt). at_of w (to_z w128 (of_z w128 c.next-in-loop-value.result))) c.loop-value.invariant.above_same
    ∙ ap (at_of a) (to_z-of_z w128 c.next-in-loop-value.result (search rules) ∙ c.next-in-loop-value.ensures ∙ ap (λ v. v +ℤ pos 1) (to_z-of_z w128 c.in-Some.value (search rules))) in
    pair-stop s (above_pair (link_of link) a b) c.loop-value.value-iterator c.next.new.self (c.in-Some.value, c.in-Some.field-0-1) (c.at-other.result, c.not.result) c.one-pair.result
    c.in-Some.ensures.steps (λ i. (other i, (c.not.ensures ∙ ap not_atom upper) i)) c.one-pair.ensures (sym c.is_some.ensures ∙ c.if-is_some.true)
    ∙ c.loop-value.invariant.found

pub loop-value-preserved : goal.loop-value-preserved
loop-value-preserved c =
    let s = c.args.sought in
    let a = c.args.a.now in
    let b = c.args.b.now in
    let link = c.args.link.now in
    let target : c.of-target.result ≡ link_of link c.in-Some.value = c.of-target.ensures ∙ ap (link_of link) (to_z-of_z w128 c.in-Some.value (search rules)) in
    let other : c.at-other.result ≡ at_of b (link_of link c.in-Some.value) =
    c.at-other.ensures.atom ∙ ap (λ (w : OrdInt). at_of w (to_z w128 (of_z w128 c.of-target.result))) c.loop-value.invariant.same
    ∙ ap (at_of b) (to_z-of_z w128 c.of-target.result (search rules) ∙ target) in
    let upper : c.at-upper.result ≡ at_of a (c.in-Some.value +ℤ pos 1) =
    c.at-upper.ensures.atom ∙ ap (λ (w : OrdInt). at_of w (to_z w128 (of_z w128 c.next-in-loop-value.result))) c.loop-value.invariant.above_same
    ∙ ap (at_of a) (to_z-of_z w128 c.next-in-loop-value.result (search rules) ∙ c.next-in-loop-value.ensures ∙ ap (λ v. v +ℤ pos 1) (to_z-of_z w128 c.in-Some.value (search rules))) in
    record {
      found = pair-next s (above_pair (link_of link) a b) c.loop-value.value-iterator c.next.new.self (c.in-Some.value, c.in-Some.field-0-1) (c.at-other.result, c.not.result) c.one-pair.result
          c.in-Some.ensures.steps (λ i. (other i, (c.not.ensures ∙ ap not_atom upper) i)) c.one-pair.ensures (sym c.is_some.ensures ∙ c.if-is_some.false)
          ∙ c.loop-value.invariant.found;
      fits = (all-first (λ (level : ℤ × Atom). (unsigned_abs level.0 < 2 ^ 100) × LinkFits link level.0) c.loop-value.value-iterator c.next.new.self (c.in-Some.value, c.in-Some.field-0-1) c.in-Some.ensures.steps c.loop-value.invariant.fits).1;
      same = c.at-other.ensures.same ∙ c.loop-value.invariant.same;
      above_same = c.at-upper.ensures.same ∙ c.loop-value.invariant.above_same;
    }
