use Rattle.std.proofs.Common.{◌≡◌, ◌+◌, ◌≤◌, ◌++◌, map, take, vec_len, vec_capacity}
use Rattle.clause_arena.specs.Codes.{code_of}
use Rattle.clause_arena.proofs.codes.push_codes.Given as goal

abbrev pub invariant-loop-lit : goal.invariant-loop-lit
invariant-loop-lit l =
    (l.codes.items ≡ l.initial.codes.items ++ map code_of (take l.lit-index l.lits)) × (vec_len l.codes ≡ vec_len l.initial.codes + l.lit-index)
    × (vec_capacity l.initial.codes ≤ vec_capacity l.codes)
