use Rattle.std.proofs.Common.{◌≡◌, ◌+◌, ◌-◌, ◌++◌}
use Rattle.opb_model.specs.Models.{variables_from}
use Rattle.opb_model.proofs.declarations.variables.Given as goal

-- those that were made and those that are left are all
abbrev pub invariant-loop-before : goal.invariant-loop-before
invariant-loop-before l = l.decls.items ++ variables_from (l.before + 1) (l.vars - l.before) ≡ variables_from 1 l.vars
