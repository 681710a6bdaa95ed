use Rattle.std.proofs.Common.{[], ◌∷◌, sym, ap, ◌∙◌}
use Rattle.order_ints.specs.declared.atom.Atom.{Atom}
use Rattle.order_ints.specs.OrderRange.{low_of}
use Rattle.order_ints.specs.OrderLevels.{at_of}
use Rattle.rule_base.specs.Constant.{is_constant}
use Rattle.rule_base.specs.Pairs.{first_sought}
use Rattle.rule_base.proofs.PairLaws.{only_if-found, only_if-none}
use Rattle.equi_rules.proofs.RowFound.{same_value}
use Rattle.equi_rules.proofs.comparison.at_constant.Goals as goal

pub returns-then-is_constant : goal.returns-then-is_constant
returns-then-is_constant c =
    only_if-found c.args.sought (is_constant c.args.a.now) ((c.args.r, at_of c.args.b.now (low_of c.args.a.now)) ∷ []) c.one.result
    (sym c.is_constant.ensures ∙ c.if-is_constant.true)
    (c.one.ensures ∙ ap (λ (x : Atom). first_sought c.args.sought ((c.args.r, x) ∷ [])) (c.at.ensures.shape ∙ ap (at_of c.args.b.now) (same_value c.low.result _ c.low.ensures.value c.requires.a.0.0)))

pub returns : goal.returns
returns c =
    only_if-none c.args.sought (is_constant c.args.a.now) ((c.args.r, at_of c.args.b.now (low_of c.args.a.now)) ∷ []) (sym c.is_constant.ensures ∙ c.if-is_constant.false)
