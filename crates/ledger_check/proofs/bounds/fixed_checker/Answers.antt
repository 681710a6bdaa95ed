use Rattle.std.proofs.Common.{length, ap}
use Rattle.order_ints.specs.declared.cnf.Cnf.{Cnf}
use Rattle.ledger_check.proofs.Beginnings.{fixed-range}
use Rattle.ledger_check.proofs.bounds.fixed_checker.Goals as goal

pub with-requires-clause-in_range : goal.with-requires-clause-in_range
with-requires-clause-in_range c =
    fixed-range (length c.args.state.now.view) c.in_ok-vars.field-0 c.in_ok-with_atom.field-0 c.args.atom (ap (λ (f : Cnf). f.vars) c.in_ok-vars.ensures.shape)
    c.in_ok-vars.ensures.in_range c.requires c.in_ok-with_atom.ensures
