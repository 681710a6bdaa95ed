use Rattle.search_laws.proofs.LubyLaws.{luby_sums}
use Rattle.search_laws.proofs.laws.luby_law.Goals as goal

pub returns : goal.returns
returns c = luby_sums
