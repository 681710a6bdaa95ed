use Rattle.drup_check.proofs.Additions.{stored-stays}
use Rattle.drup_check.proofs.tiers.Tiers.take_in.Goals as goal

-- a copy is there already
pub returns-then-branch-clause-taken : goal.returns-then-branch-clause-taken
returns-then-branch-clause-taken c = stored-stays c.args.self.now.db c.args.lits.now (c.in_ok-note_copy.ensures c.if-branch.true) c.requires.bottom c.requires.complete
