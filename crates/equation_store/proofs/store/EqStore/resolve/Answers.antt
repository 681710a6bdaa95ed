use Rattle.std.proofs.Common.{◌≡◌, subst, ap, rules}
use Rattle.order_ints.specs.View.{resolve}
use Rattle.order_ints.specs.Label.{IsLabelled}
use Rattle.equation_store.specs.Store.{Store}
use Rattle.equation_store.proofs.Facts.{exact_from}
use Rattle.equation_store.proofs.store.EqStore.resolve.Goals as goal

pub returns-clause-exact : goal.returns-clause-exact
returns-clause-exact c =
    let same : c.self.inside.labels.items ≡ c.args.self.now.view = ap (λ (s : Store). s.view) c.self.view_is in
    let value : c.resolve.result ≡ resolve c.args.self.now.view c.args.a = search rules in
    exact_from c.args.self.now.view c.args.a c.resolve.result (subst IsLabelled same c.self.invariant.sizes_are.labelled) c.requires value
