use Rattle.std.proofs.Common.{◌≡◌, ◌≤◌, ◌+◌, ◌^◌, ◌++◌, map, length, vec_len, drop}
use Rattle.std.specs.Prelude.{vec_capacity}
use Rattle.order_ints.specs.Place.{ClauseBelow}
use Rattle.proof_check.specs.Arena.{packed}
use Rattle.proof_check.proofs.arena.push_codes.Given as goal

abbrev pub invariant-loop-lit : goal.invariant-loop-lit
invariant-loop-lit l = record {
  below : ClauseBelow (2 ^ 27 + 1) (drop l.lit-index l.lits);
  room : vec_len l.codes + length (drop l.lit-index l.lits) ≤ vec_capacity l.codes;
  pushed : l.codes.items ++ map packed (drop l.lit-index l.lits) ≡ l.initial.codes.items ++ map packed l.lits;
}
