use Rattle.order_ints.proofs.Everywhere.{levels_at, levels_tell}
use Rattle.order_ints.proofs.Reaching.{atom_truth-at_of, at_of-low, at_of-high, at_of-level, at_of-between, atom_truth-level}
use Rattle.order_ints.proofs.order_laws.at_law.Goals as goal

pub returns-clause-truth : goal.returns-clause-truth
returns-clause-truth c = atom_truth-at_of

pub returns-clause-low : goal.returns-clause-low
returns-clause-low c = at_of-low

pub returns-clause-high : goal.returns-clause-high
returns-clause-high c = at_of-high

pub returns-clause-level : goal.returns-clause-level
returns-clause-level c = at_of-level

pub returns-clause-between : goal.returns-clause-between
returns-clause-between c = at_of-between

pub returns-clause-level_truth : goal.returns-clause-level_truth
returns-clause-level_truth c = atom_truth-level

pub returns-clause-levels : goal.returns-clause-levels
returns-clause-levels c = levels_at

pub returns-clause-levels_truth : goal.returns-clause-levels_truth
returns-clause-levels_truth c = levels_tell
