use Rattle.std.proofs.Common.{◌≡◌, ap, rules, subst, sym, Option, ℕ, List}
use Rattle.std.specs.Prelude.{◌↔◌, ◌⊎◌, IsNone}
use Rattle.order_ints.specs.declared.atom.Atom.{Atom}
use Rattle.order_ints.specs.Truth.{not_atom}
use Rattle.order_ints.specs.View.{resolve}
use Rattle.order_ints.specs.Label.{IsLabelled}
use Rattle.equation_store.specs.Store.{Store}
use Rattle.equation_store.specs.Merge.{loser_of}
use Rattle.equation_store.proofs.Stored.{no-loser}
use Rattle.equation_store.proofs.store.EqStore.loser.Goals as goal

pub returns-clause-none : goal.returns-clause-none
returns-clause-none c =
    let view : List Atom = c.args.self.now.view in
    let same : c.self.inside.labels.items ≡ c.args.self.now.view = ap (λ (s : Store). s.view) c.self.view_is in
    let value : c.map.result ≡ loser_of c.args.self.now.view c.args.a c.args.b = search rules in
    subst (λ (o : Option ℕ). IsNone o ↔ ((resolve c.args.self.now.view c.args.a ≡ resolve c.args.self.now.view c.args.b) ⊎ (resolve c.args.self.now.view c.args.a ≡ not_atom (resolve c.args.self.now.view c.args.b)))) (sym value)
    (no-loser c.args.self.now.view c.args.a c.args.b (subst IsLabelled same c.self.invariant.sizes_are.labelled) c.requires.first c.requires.second)
