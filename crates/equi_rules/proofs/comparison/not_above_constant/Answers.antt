use Rattle.std.proofs.Common.{[], ◌∷◌, pos, ◌+ℤ◌, sym, ap, ◌∙◌}
use Rattle.order_ints.specs.declared.atom.Atom.{Atom}
use Rattle.order_ints.specs.Truth.{not_atom}
use Rattle.order_ints.specs.OrderRange.{low_of}
use Rattle.order_ints.specs.OrderLevels.{at_of}
use Rattle.rule_base.specs.Constant.{is_constant}
use Rattle.rule_base.specs.Pairs.{first_sought}
use Rattle.rule_base.proofs.PairLaws.{only_if-found, only_if-none}
use Rattle.equi_rules.proofs.RowFound.{next_value}
use Rattle.equi_rules.proofs.comparison.not_above_constant.Goals as goal

pub returns-then-is_constant : goal.returns-then-is_constant
returns-then-is_constant c =
    only_if-found c.args.sought (is_constant c.args.b.now) ((c.args.r, not_atom (at_of c.args.a.now (low_of c.args.b.now +ℤ pos 1))) ∷ []) c.one.result
    (sym c.is_constant.ensures ∙ c.if-is_constant.true)
    (c.one.ensures ∙ ap (λ (x : Atom). first_sought c.args.sought ((c.args.r, x) ∷ [])) (c.not.ensures ∙ ap not_atom (c.at.ensures.shape ∙ ap (at_of c.args.a.now) (next_value c.low.result _ c.low.ensures.value c.requires.b.0.0))))

pub returns : goal.returns
returns c =
    only_if-none c.args.sought (is_constant c.args.b.now) ((c.args.r, not_atom (at_of c.args.a.now (low_of c.args.b.now +ℤ pos 1))) ∷ []) (sym c.is_constant.ensures ∙ c.if-is_constant.false)
