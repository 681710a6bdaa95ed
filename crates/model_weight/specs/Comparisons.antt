-- The weights of comparisons of two integers, and of a count of true members.
use Rattle.std.specs.Prelude.{ℕ, ◌+◌}
use Rattle.core_cost.specs.Comparisons.{cost_of_leq, cost_of_eq}
use Rattle.core_cost.specs.Counts.{cost_of_count}
use Rattle.model_meaning.specs.declared.statement.Relation.{Relation}
use Rattle.model_meaning.specs.declared.statement.Relation.TheVariants as relation

-- an atom is the truth of a comparison of two integers with so many steps
abbrev pub weight_of_comparison : Relation → ℕ → ℕ → ℕ
weight_of_comparison relation.Leq n m = cost_of_leq n m
weight_of_comparison relation.Geq n m = cost_of_leq m n
weight_of_comparison relation.Eq n m = cost_of_eq n m
weight_of_comparison relation.Lt n m = cost_of_leq m n
weight_of_comparison relation.Gt n m = cost_of_leq n m
weight_of_comparison relation.Neq n m = cost_of_eq n m

-- k members are counted by a fresh integer with the values 0 to k, which is compared
abbrev pub weight_of_fresh_count : Relation → ℕ → ℕ → ℕ
weight_of_fresh_count rel k m = k + cost_of_count k k + weight_of_comparison rel k m

-- the number of true ones of k members is compared to an integer with m steps, which is the count where they are to be
-- equal
abbrev pub weight_of_count : Relation → ℕ → ℕ → ℕ
weight_of_count relation.Leq k m = weight_of_fresh_count relation.Leq k m
weight_of_count relation.Geq k m = weight_of_fresh_count relation.Geq k m
weight_of_count relation.Eq k m = cost_of_count k m
weight_of_count relation.Lt k m = weight_of_fresh_count relation.Lt k m
weight_of_count relation.Gt k m = weight_of_fresh_count relation.Gt k m
weight_of_count relation.Neq k m = weight_of_fresh_count relation.Neq k m
