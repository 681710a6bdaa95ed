use Rattle.state_compile.proofs.Askings.{split-asked}
use Rattle.state_compile.proofs.Found.{compound-if}
use Rattle.state_compile.proofs.Turns.{split-adds, split-smaller}
use Rattle.state_compile.proofs.splitting.split_least.Goals as goal

pub split-requires-clause-compound : goal.split-requires-clause-compound
split-requires-clause-compound g c = compound-if c.args.runner.now.kernel c.args.id c.requires.least

pub returns-clause-adds : goal.returns-clause-adds
returns-clause-adds g c =
    split-adds g.F.Oracle.told c.args.runner.now.ledger c.split.new.self.ledger c.saturate.new.self.ledger c.args.runner.now.kernel c.split.new.self.kernel c.saturate.new.self.kernel c.args.id
    c.requires.closed c.requires.least c.in_ok-split.ensures.step c.in_ok-split.ensures.ledger c.in_ok-saturate.ensures.lines

pub returns-clause-smaller : goal.returns-clause-smaller
returns-clause-smaller g c =
    split-smaller g.F.Oracle.told c.split.new.self.ledger c.saturate.new.self.ledger c.args.runner.now.kernel c.split.new.self.kernel c.saturate.new.self.kernel c.args.id
    c.requires.kernel c.requires.least c.in_ok-split.ensures.step c.in_ok-saturate.ensures.lines

pub returns-clause-asked : goal.returns-clause-asked
returns-clause-asked g c =
    split-asked g.F.Oracle.told c.args.runner.now.kernel c.split.new.self.kernel c.saturate.new.self.kernel c.args.id
    c.args.runner.now.ledger c.split.new.self.ledger c.saturate.new.self.ledger c.args.runner.now.queued c.split.new.self.queued c.args.steps.now c.saturate.new.steps
    c.requires.none c.in_ok-split.ensures.step c.in_ok-split.ensures.ledger c.in_ok-split.ensures.grows c.in_ok-saturate.ensures.lines c.in_ok-saturate.ensures.counted
