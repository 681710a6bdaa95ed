use Rattle.std.proofs.Common.{List, ◌++◌, map, append-nil, sym, ap, ◌∙◌}
use Rattle.order_ints.specs.declared.atom.Atom.{Atom}
use Rattle.order_ints.specs.declared.atom.Atom.TheVariants.{False}
use Rattle.core_forms.specs.declared.equation.Rule.TheVariants.{Form}
use Rattle.rule_base.specs.Stated.{all_equal}
use Rattle.equation_runs.specs.RunRows.{equation_of}
use Rattle.equation_runs.proofs.MemberSteps.{none-beside}
use Rattle.equation_runs.proofs.members.push_amo.Goals as goal

pub returns-else-has_true : goal.returns-else-has_true
returns-else-has_true c =
    sym (append-nil c.args.run.now.items)
    ∙ ap (λ (ls : List Atom). c.args.run.now.items ++ map (equation_of Form) (all_equal ls False)) (sym (none-beside c.args.atoms.now (sym c.has_true.ensures ∙ c.if-has_true.false)))
