use Rattle.std.proofs.Common.{◌≡◌, drop}
use Rattle.table_rules.specs.Instances.{has_var}
use Rattle.table_rules.proofs.instances.has_var.Given as goal

-- what is left decides
abbrev pub invariant-loop-other : goal.invariant-loop-other
invariant-loop-other l = has_var (drop l.other-index l.vars) l.var ≡ has_var l.vars l.var
