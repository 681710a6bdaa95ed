use Rattle.std.proofs.Common.{List, ◌++◌, map, ap, ◌∙◌}
use Rattle.order_ints.specs.declared.atom.Atom.{Atom}
use Rattle.core_forms.specs.declared.equation.Rule.TheVariants.{Form}
use Rattle.arith_rules.specs.declared.maxima.Tops.{Tops}
use Rattle.arith_rules.specs.Tops.{leaders_above}
use Rattle.arith_rules.proofs.TopLaws.{leaders_is}
use Rattle.equation_runs.specs.RunRows.{equation_of}
use Rattle.equation_runs.proofs.maxima.push_leaders.Goals as goal

pub returns : goal.returns
returns c =
    let xs = c.args.ints.now in
    let z = c.args.c.now in
    c.in_ok-push_leaders_above.ensures
    ∙ ap (λ (ps : List (Atom × Atom)). c.args.run.now.items ++ map (equation_of Form) ps)
    (ap (λ (t : Tops). leaders_above t.second z xs) c.of-tops.ensures.shape ∙ leaders_is xs z c.requires.c.0 xs c.requires.ints)
