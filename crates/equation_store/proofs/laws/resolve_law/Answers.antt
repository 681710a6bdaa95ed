use Rattle.equation_store.proofs.Apart.{resolves_exactly}
use Rattle.equation_store.proofs.laws.resolve_law.Goals as goal

pub returns : goal.returns
returns c = resolves_exactly
