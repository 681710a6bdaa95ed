use Rattle.std.proofs.Common.{◌≡◌, ◌+◌, ◌≤◌, ◌<◌, ◌^◌, ◌++◌, drop, length}
use Rattle.std.specs.Prelude.{vec_len, vec_capacity}
use Rattle.direct_encode.specs.Literals.{literals}
use Rattle.step_kernel.specs.Pieces.{pieces, all_lengths}
use Rattle.step_kernel.proofs.clause_list.put_all.Given as goal

abbrev pub invariant-loop-clause : goal.invariant-loop-clause
invariant-loop-clause l = record {
  small : literals (drop l.clause-index l.clauses) < 2 ^ 32;
  kept : all_lengths l.lengths.items ≡ length l.atoms.items;
  added : pieces l.lengths.items l.atoms.items ++ drop l.clause-index l.clauses ≡ pieces l.initial.lengths.items l.initial.atoms.items ++ l.fn.clauses;
  atoms : vec_len l.atoms + literals (drop l.clause-index l.clauses) ≤ vec_capacity l.atoms;
  lengths : vec_len l.lengths + length (drop l.clause-index l.clauses) ≤ vec_capacity l.lengths;
}
