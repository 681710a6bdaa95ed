use Rattle.std.proofs.Common.{◌≡◌, ◌++◌, length, map}
use Rattle.order_ints.specs.Truth.{not_atom}
use Rattle.statement_lower.specs.Pairs.{pairs_vars, pairs_atoms, pairs_equal}
use Rattle.statement_lower.proofs.pair_lines.Pairs.add_all.Given as goal

abbrev pub invariant-loop-a : goal.invariant-loop-a
invariant-loop-a l =
    record {
      vars : pairs_vars l.self.vars l.rest ≡ pairs_vars l.initial.self.vars l.initial.rest;
      apart : l.self.apart.items ++ map not_atom (pairs_atoms l.self.vars l.rest) ≡ l.initial.self.apart.items ++ map not_atom (pairs_atoms l.initial.self.vars l.initial.rest);
      cores : l.self.cores.items ++ pairs_equal l.self.vars l.rest ≡ l.initial.self.cores.items ++ pairs_equal l.initial.self.vars l.initial.rest;
    }

abbrev pub decreases-loop-a : goal.decreases-loop-a
decreases-loop-a l = length l.rest
