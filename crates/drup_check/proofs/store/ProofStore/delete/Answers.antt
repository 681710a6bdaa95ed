use Rattle.drup_check.proofs.Started.{deleted-as}
use Rattle.drup_check.proofs.store.ProofStore.delete.Goals as goal

pub returns-in_ok-delete-clause-stands : goal.returns-in_ok-delete-clause-stands
returns-in_ok-delete-clause-stands c = deleted-as c.args.self.now.refuted c.args.self.now.tiers c.delete.new.self c.if-not-self.true c.in_ok-delete.ensures.stands
