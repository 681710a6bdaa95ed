use Rattle.std.proofs.Common.{Bool, [], ◌∷◌, ◌++◌, sym, ap, ◌∙◌}
use Rattle.order_ints.specs.declared.atom.Atom.TheVariants.{True}
use Rattle.order_ints.specs.Same.{is_true, same_int}
use Rattle.rule_base.specs.Pairs.{first_sought, only_if}
use Rattle.rule_base.proofs.PairLaws.{first-of-three, second-of-three, third-of-three}
use Rattle.equi_rules.specs.CompareRows.{eq_equations_true, eq_equations_constant, eq_equations_apart}
use Rattle.equi_rules.proofs.equality.by_eq.Goals as goal

pub returns-then-is_some : goal.returns-then-is_some
returns-then-is_some c =
    let terms = only_if (is_true c.args.r) (eq_equations_true c.args.a.now c.args.b.now) ++ eq_equations_constant c.args.r c.args.a.now c.args.b.now ++ eq_equations_constant c.args.r c.args.b.now c.args.a.now in
    let apart = eq_equations_apart c.args.r c.args.a.now c.args.b.now in
    let same = only_if (same_int c.args.a.now c.args.b.now) ((c.args.r, True) ∷ []) in
    first-of-three c.args.sought terms apart same c.by_eq_terms-by_terms.result c.by_eq_terms-by_terms.ensures (sym c.is_some.ensures ∙ c.if-is_some.true)

pub returns-then-is_some-2 : goal.returns-then-is_some-2
returns-then-is_some-2 c =
    let terms = only_if (is_true c.args.r) (eq_equations_true c.args.a.now c.args.b.now) ++ eq_equations_constant c.args.r c.args.a.now c.args.b.now ++ eq_equations_constant c.args.r c.args.b.now c.args.a.now in
    let apart = eq_equations_apart c.args.r c.args.a.now c.args.b.now in
    let same = only_if (same_int c.args.a.now c.args.b.now) ((c.args.r, True) ∷ []) in
    second-of-three c.args.sought terms apart same c.by_eq_terms-by_terms.result c.by_eq_terms-by_terms.ensures c.by_eq_apart-apart.result (sym c.is_some.ensures ∙ c.if-is_some.false) c.by_eq_apart-apart.ensures (sym c.is_some-2.ensures ∙ c.if-is_some-2.true)

pub returns : goal.returns
returns c =
    let terms = only_if (is_true c.args.r) (eq_equations_true c.args.a.now c.args.b.now) ++ eq_equations_constant c.args.r c.args.a.now c.args.b.now ++ eq_equations_constant c.args.r c.args.b.now c.args.a.now in
    let apart = eq_equations_apart c.args.r c.args.a.now c.args.b.now in
    let same = only_if (same_int c.args.a.now c.args.b.now) ((c.args.r, True) ∷ []) in
    third-of-three c.args.sought terms apart same c.by_eq_terms-by_terms.result c.by_eq_terms-by_terms.ensures c.by_eq_apart-apart.result c.when.result (sym c.is_some.ensures ∙ c.if-is_some.false) c.by_eq_apart-apart.ensures (sym c.is_some-2.ensures ∙ c.if-is_some-2.false) (c.when.ensures ∙ ap (λ (t : Bool). first_sought c.args.sought (only_if t ((c.args.r, True) ∷ []))) c.eq.ensures)
