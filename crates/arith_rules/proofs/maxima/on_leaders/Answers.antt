use Rattle.std.proofs.Common.{◌≡◌, ◌+◌, List, ◌∷◌, drop, refl, sym, ap, subst, ◌∙◌}
use Rattle.std.proofs.lemmas.List.{at_drop_more}
use Rattle.order_ints.specs.declared.order_int.OrdInt.{OrdInt}
use Rattle.core_forms.specs.WellFormed.{AreSound}
use Rattle.rule_base.specs.Pairs.{first_sought}
use Rattle.rule_base.proofs.PairLaws.{front-found, back-found}
use Rattle.arith_rules.specs.Tops.{leader_above, leaders_above}
use Rattle.arith_rules.proofs.maxima.on_leaders.Goals as goal

pub returns-then-is_some : goal.returns-then-is_some
returns-then-is_some c =
    let s = c.args.sought in
    let xs = c.args.ints.now in
    let rest = drop (c.loop-a.a-index + 1) xs in
    let equations = leaders_above c.args.least.now c.args.c.now in
    let is : drop c.loop-a.a-index xs ≡ c.a-item.result ∷ rest = at_drop_more (λ ys. ys) xs c.loop-a.a-index c.a-item.result c.loop-a-test.true ∙ ap (λ (x : OrdInt). x ∷ rest) (sym c.a-item.is) in
    front-found s (leader_above c.args.least.now c.args.c.now c.a-item.result) (equations rest) c.on_leader-pair.result c.on_leader-pair.ensures (sym c.is_some.ensures ∙ c.if-is_some.true)
    ∙ ap (λ ys. first_sought s (equations ys)) (sym is) ∙ c.loop-a.invariant.found

pub loop-a-preserved : goal.loop-a-preserved
loop-a-preserved c =
    let s = c.args.sought in
    let xs = c.args.ints.now in
    let rest = drop (c.loop-a.a-index + 1) xs in
    let equations = leaders_above c.args.least.now c.args.c.now in
    let is : drop c.loop-a.a-index xs ≡ c.a-item.result ∷ rest = at_drop_more (λ ys. ys) xs c.loop-a.a-index c.a-item.result c.loop-a-test.true ∙ ap (λ (x : OrdInt). x ∷ rest) (sym c.a-item.is) in
    record {
      found = back-found s (leader_above c.args.least.now c.args.c.now c.a-item.result) (equations rest) c.on_leader-pair.result (first_sought s (equations rest)) c.on_leader-pair.ensures (sym c.is_some.ensures ∙ c.if-is_some.false) refl
          ∙ ap (λ ys. first_sought s (equations ys)) (sym is) ∙ c.loop-a.invariant.found;
      sound = (subst (λ (ys : List OrdInt). AreSound ys) is c.loop-a.invariant.sound).1;
    }
