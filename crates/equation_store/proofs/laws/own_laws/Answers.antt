use Rattle.equation_store.proofs.Owners.{own_test, own_bound, own_added}
use Rattle.equation_store.proofs.laws.own_laws.Goals as goal

pub returns : goal.returns
returns c = record { test = own_test; bound = own_bound; added = own_added }
