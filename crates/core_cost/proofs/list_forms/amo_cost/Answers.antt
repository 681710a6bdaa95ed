use Rattle.std.proofs.Common.{arith, sym}
use Rattle.core_cost.proofs.ListLengths.{amo_in_one_even, amo_in_one_odd}
use Rattle.core_cost.proofs.list_forms.amo_cost.Goals as goal

pub returns-in_default : goal.returns-in_default
returns-in_default c = sym (amo_in_one_even c.args.members (omega arith) (omega arith))

pub returns-in_default-2 : goal.returns-in_default-2
returns-in_default-2 c = sym (amo_in_one_odd c.args.members (omega arith) (omega arith))
