use Rattle.std.proofs.Common.{◌≡◌, ◌<◌, ◌^◌, ℤ, pos, ◌+ℤ◌, to_z, of_z, rules, sym, ap, subst, ◌∙◌}
use Rattle.std.specs.Prelude.{unsigned_abs}
use Rattle.std.specs.List.{AllByRecursion}
use mir.Syntax.{w128}
use Rattle.std.proofs.lemmas.Int.{to_z-of_z}
use Rattle.order_ints.specs.declared.atom.Atom.{Atom}
use Rattle.order_ints.specs.declared.order_int.OrdInt.{OrdInt}
use Rattle.order_ints.specs.Truth.{not_atom}
use Rattle.order_ints.specs.OrderLevels.{levels_of, at_of}
use Rattle.order_ints.proofs.Everywhere.{levels_small}
use Rattle.arith_rules.specs.Links.{opposed_above}
use Rattle.arith_rules.specs.CodeLinks.{link_of, LinkFits}
use Rattle.arith_rules.proofs.LoopFound.{all-first, all-both}
use Rattle.arith_rules.proofs.Beside.{above_pair, above-is}
use Rattle.equation_runs.proofs.LinkSteps.{pair-more, pair-done, pairs-first}
use Rattle.equation_runs.proofs.links.push_opposed_above.Goals as goal

pub loop-value-init : goal.loop-value-init
loop-value-init c =
    let a = c.args.a.now in
    let b = c.args.b.now in
    let link = c.args.link.now in
    let walk : c.into_iter-value-iterator.result ≡ levels_of a = c.into_iter-value-iterator.ensures.into_iter_gives ∙ c.levels-value-items.ensures.shape in
    record {
      fits = subst (AllByRecursion (λ (level : ℤ × Atom). (unsigned_abs level.0 < 2 ^ 100) × LinkFits link level.0)) (sym walk)
          (all-both (λ (level : ℤ × Atom). unsigned_abs level.0 < 2 ^ 100) (λ (level : ℤ × Atom). LinkFits link level.0) (levels_of a) (levels_small a c.requires.a.0) c.requires.fits);
      run = pairs-first (above_pair (link_of link) a b) c.into_iter-value-iterator.result (levels_of a) (opposed_above (link_of link) a b) c.args.run.now.items walk (above-is (link_of link) a b c.requires.a);
      same = c.along-walk.ensures;
      above_same = c.along-above.ensures;
    }

pub loop-value-preserved : goal.loop-value-preserved
loop-value-preserved c =
    let a = c.args.a.now in
    let b = c.args.b.now in
    let link = c.args.link.now in
    let target : c.of-target.result ≡ link_of link c.in-Some.value = c.of-target.ensures ∙ ap (link_of link) (to_z-of_z w128 c.in-Some.value (search rules)) in
    let other : c.at-other.result ≡ at_of b (link_of link c.in-Some.value) =
    c.at-other.ensures.atom ∙ ap (λ (w : OrdInt). at_of w (to_z w128 (of_z w128 c.of-target.result))) c.loop-value.invariant.same
    ∙ ap (at_of b) (to_z-of_z w128 c.of-target.result (search rules) ∙ target) in
    let upper : c.at-upper.result ≡ at_of a (c.in-Some.value +ℤ pos 1) =
    c.at-upper.ensures.atom ∙ ap (λ (w : OrdInt). at_of w (to_z w128 (of_z w128 c.next-beyond.result))) c.loop-value.invariant.above_same
    ∙ ap (at_of a) (to_z-of_z w128 c.next-beyond.result (search rules) ∙ c.next-beyond.ensures ∙ ap (λ (v : ℤ). v +ℤ pos 1) (to_z-of_z w128 c.in-Some.value (search rules))) in
    record {
      fits = (all-first (λ (level : ℤ × Atom). (unsigned_abs level.0 < 2 ^ 100) × LinkFits link level.0) c.loop-value.value-iterator c.next.new.self (c.in-Some.value, c.in-Some.field-0-1) c.in-Some.ensures.steps c.loop-value.invariant.fits).1;
      run = pair-more (above_pair (link_of link) a b) c.loop-value.value-iterator c.next.new.self (c.in-Some.value, c.in-Some.field-0-1) (c.at-other.result, c.not.result) c.loop-value.run.items c.push_pair.new.run.items _
          c.in-Some.ensures.steps (λ i. (other i, (c.not.ensures ∙ ap not_atom upper) i)) c.in_ok-push_pair.ensures c.loop-value.invariant.run;
      same = c.at-other.ensures.same ∙ c.loop-value.invariant.same;
      above_same = c.at-upper.ensures.same ∙ c.loop-value.invariant.above_same;
    }

pub returns : goal.returns
returns c = pair-done (above_pair (link_of c.args.link.now) c.args.a.now c.args.b.now) c.loop-value.value-iterator c.loop-value.run.items _ c.in-None.ensures.steps.0 c.loop-value.invariant.run
