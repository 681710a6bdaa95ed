use Rattle.std.proofs.Common.{◌≡◌, rules, subst, sym, Option}
use Rattle.std.specs.Prelude.{IfSome}
use Rattle.order_ints.specs.View.{resolve}
use Rattle.equation_store.specs.declared.relabel.Change.{Change}
use Rattle.equation_store.specs.Merge.{change_of, IsReplacement}
use Rattle.equation_store.proofs.Merge.{change_of-atoms}
use Rattle.equation_store.proofs.Stored.{replaces-from}
use Rattle.equation_store.proofs.relabel.change_between.Goals as goal

pub returns-clause-replaces : goal.returns-clause-replaces
returns-clause-replaces c =
    let labels = c.args.labels.now in
    let value : c.change_of.result ≡ change_of labels (resolve labels c.args.a) (resolve labels c.args.b) = search rules in
    subst (λ (o : Option Change). IfSome o (λ d. IsReplacement labels d.loser d.label)) (sym value)
    (replaces-from labels c.args.a c.args.b (change_of labels (resolve labels c.args.a) (resolve labels c.args.b)) (change_of-atoms labels c.args.a c.args.b c.requires.sized.labelled c.requires.first c.requires.second))
