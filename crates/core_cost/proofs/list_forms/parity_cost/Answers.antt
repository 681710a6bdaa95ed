use Rattle.std.proofs.Common.{arith, sym}
use Rattle.core_cost.proofs.ListLengths.{parity_in_one}
use Rattle.core_cost.proofs.list_forms.parity_cost.Goals as goal

pub returns-in_default : goal.returns-in_default
returns-in_default c = sym (parity_in_one c.args.members (omega arith))
