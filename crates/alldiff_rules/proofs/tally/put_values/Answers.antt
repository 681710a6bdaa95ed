use Rattle.std.proofs.Common.{◌++◌, map, List, ℤ, ℕ, ap, ◌∙◌}
use Rattle.order_ints.specs.declared.atom.Atom.{Atom}
use Rattle.order_ints.specs.OrderLevels.{levels_of}
use Rattle.alldiff_rules.proofs.TallyLaws.{placed-levels}
use Rattle.alldiff_rules.proofs.tally.put_values.Goals as goal

pub loop-value-init : goal.loop-value-init
loop-value-init c =
    ap (λ (ls : List (ℤ × Atom)). c.args.entries.now.items ++ map (λ (level : ℤ × Atom). (level.0, c.args.place)) ls) (c.into_iter-value-iterator.ensures.into_iter_gives ∙ c.levels-value-items.ensures.shape)
    ∙ ap (λ (es : List (ℤ × ℕ)). c.args.entries.now.items ++ es) (placed-levels c.args.place (levels_of c.args.a.now))
