use Rattle.search_laws.proofs.LubyLaws.{highest}
use Rattle.search_laws.proofs.luby.highest_power.Goals as goal

pub returns-clause-power : goal.returns-clause-power
returns-clause-power c = (highest c.args.n c.requires c.ranges.n.fits).power_is

pub returns-clause-low : goal.returns-clause-low
returns-clause-low c = (highest c.args.n c.requires c.ranges.n.fits).low

pub returns-clause-high : goal.returns-clause-high
returns-clause-high c = (highest c.args.n c.requires c.ranges.n.fits).high
