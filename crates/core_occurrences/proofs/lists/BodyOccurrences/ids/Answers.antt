use Rattle.std.proofs.Common.{arith}
use Rattle.core_occurrences.proofs.lists.BodyOccurrences.ids.Goals as goal

pub overflow_cast-result : goal.overflow_cast-result
overflow_cast-result c = omega (arith, c.as_slice.ensures.len, c.self.invariant.few_heads, c.self.invariant.some_head)
