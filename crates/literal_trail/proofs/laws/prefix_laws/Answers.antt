use Rattle.literal_trail.proofs.Levels.{take-up_to, up_to-whole, up_to-up_to, up_to-push, in_prefix, of_prefix, decision_behind, entry_of-up_to, entry_of-above}
use Rattle.std.proofs.Common.{arith}
use Rattle.literal_trail.proofs.laws.prefix_laws.Goals as goal

pub returns-clause-front : goal.returns-clause-front
returns-clause-front c = take-up_to

pub returns-clause-whole : goal.returns-clause-whole
returns-clause-whole c = λ t is. up_to-whole t.level t.entries 0 t.level is.levelled (omega arith)

pub returns-clause-lower : goal.returns-clause-lower
returns-clause-lower c = up_to-up_to

pub returns-clause-stays : goal.returns-clause-stays
returns-clause-stays c = up_to-push

pub returns-clause-levels : goal.returns-clause-levels
returns-clause-levels c = λ t k j is below. (in_prefix k t.entries 0 t.level is.levelled j below, of_prefix k t.entries j)

pub returns-clause-decision : goal.returns-clause-decision
returns-clause-decision c =
    λ t k is low. let behind = decision_behind k t.entries 0 t.level is.levelled (omega arith) low in (behind.below, behind.next, behind.decided)

pub returns-clause-entry : goal.returns-clause-entry
returns-clause-entry c =
    λ t k v e is given. (entry_of-up_to k t.entries 0 t.level v e is.levelled given, entry_of-above k t.entries v e given)
