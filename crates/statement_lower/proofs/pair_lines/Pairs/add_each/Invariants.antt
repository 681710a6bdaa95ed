use Rattle.std.proofs.Common.{◌≡◌, ◌++◌, length, map}
use Rattle.order_ints.specs.Truth.{not_atom}
use Rattle.statement_lower.specs.Pairs.{each_vars, each_atoms, each_equal}
use Rattle.statement_lower.proofs.pair_lines.Pairs.add_each.Given as goal

abbrev pub invariant-loop-b : goal.invariant-loop-b
invariant-loop-b l =
    record {
      vars : each_vars l.self.vars l.rest ≡ each_vars l.initial.self.vars l.initial.rest;
      apart : l.self.apart.items ++ map not_atom (each_atoms l.self.vars l.rest) ≡ l.initial.self.apart.items ++ map not_atom (each_atoms l.initial.self.vars l.initial.rest);
      cores : l.self.cores.items ++ each_equal l.self.vars l.a l.rest ≡ l.initial.self.cores.items ++ each_equal l.initial.self.vars l.a l.initial.rest;
    }

abbrev pub decreases-loop-b : goal.decreases-loop-b
decreases-loop-b l = length l.rest
