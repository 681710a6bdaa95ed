use Rattle.command_words.proofs.RequestLimits.{requests_keep_limits}
use Rattle.command_words.proofs.laws.limits_law.Goals as goal

pub returns : goal.returns
returns c = requests_keep_limits
