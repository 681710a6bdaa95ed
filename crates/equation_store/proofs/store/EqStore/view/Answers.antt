use Rattle.std.proofs.Common.{subst}
use Rattle.equation_store.specs.Store.{IsStore}
use Rattle.equation_store.proofs.Stored.{store-from}
use Rattle.equation_store.proofs.store.EqStore.view.Goals as goal

pub returns-clause-store : goal.returns-clause-store
returns-clause-store c = subst IsStore c.self.view_is (store-from c.self.inside.labels.items c.self.inside.sizes.items c.self.inside.next.items c.self.invariant)
