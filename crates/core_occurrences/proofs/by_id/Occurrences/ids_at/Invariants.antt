use Rattle.std.proofs.Common.{◌≡◌, ℕ, ◌+◌, ◌≤◌, ◌<◌, ◌++◌, length, map, vec_len, vec_capacity}
use Rattle.std.specs.Prelude.{Contains}
use Rattle.core_occurrences.specs.Lists.{cores_at}
use Rattle.core_occurrences.specs.Bodies.{named_by}
use Rattle.core_occurrences.proofs.by_id.Occurrences.ids_at.Given as goal

-- those so far and those of what is left are all
abbrev pub invariant-loop-body : goal.invariant-loop-body
invariant-loop-body l = record {
  all : l.ids.items ++ map (named_by l.cores) l.body-iterator ≡ cores_at l.self l.var;
  inside : (b : ℕ) → Contains l.body-iterator b → b < length l.cores;
  long : vec_len l.ids + length l.body-iterator ≡ length (cores_at l.self l.var);
  room : vec_capacity l.initial.ids ≤ vec_capacity l.ids;
}
